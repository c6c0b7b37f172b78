use Rattle.lam_rules.proofs.SharedTexts.{text_same}
use Rattle.lam_rules.proofs.ReadTexts.{text_tells}
use Rattle.lam_rules.proofs.laws.one_text.Goals as goal

pub returns-clause-one : goal.returns-clause-one
returns-clause-one c = text_same

pub returns-clause-told : goal.returns-clause-told
returns-clause-told c = text_tells
