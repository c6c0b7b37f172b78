use Rattle.lam_scope.proofs.FreeLabels.{same_number, asks_other}
use Rattle.lam_scope.proofs.laws.a_label_is_free.Goals as goal

pub returns : goal.returns
returns c = record { number = same_number; labelled = asks_other }
