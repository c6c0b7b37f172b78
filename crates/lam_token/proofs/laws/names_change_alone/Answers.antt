use Rattle.lam_token.proofs.EditedTexts.{names_change}
use Rattle.lam_token.proofs.laws.names_change_alone.Goals as goal

pub returns-clause-tokens : goal.returns-clause-tokens
returns-clause-tokens c = λ kind text new tokens spans h. (names_change kind text new tokens spans h).0

pub returns-clause-text : goal.returns-clause-text
returns-clause-text c = λ kind text new tokens spans h. (names_change kind text new tokens spans h).1
