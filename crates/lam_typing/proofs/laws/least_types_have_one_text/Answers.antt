use Rattle.lam_rules.proofs.SharedTexts.{text_same}
use Rattle.lam_typing.proofs.laws.least_types_have_one_text.Goals as goal

pub returns : goal.returns
returns c = λ s e t u d a b. text_same t u d (a.1 u b.0) (b.1 t a.0)
