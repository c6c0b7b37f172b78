use Rattle.lam_rules.proofs.SharedTexts.{shared_ok}
use Rattle.lam_rules.proofs.texts.text_of.Goals as goal

pub returns-clause-shared : goal.returns-clause-shared
returns-clause-shared c = shared_ok _ _ _ c.in_ok-sorted.ensures c.plain_text_of.ensures
