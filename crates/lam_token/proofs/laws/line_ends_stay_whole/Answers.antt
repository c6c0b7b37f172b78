use Rattle.lam_token.proofs.TokenEnds.{tokens_keep}
use Rattle.lam_token.proofs.laws.line_ends_stay_whole.Goals as goal

pub returns : goal.returns
returns c = λ tokens. tokens_keep c.args.text.now tokens c.utf8.text
