use Rattle.lam_scope.proofs.BoundMentions.{bound_told, uses_told, own_answer, kinds_told}
use Rattle.lam_scope.proofs.laws.mentions_are_rows.Goals as goal

pub returns : goal.returns
returns c = record { bound = bound_told; uses = uses_told; answer = own_answer; kinds = kinds_told }
