use Rattle.std.proofs.Common.{refl}
use Rattle.lam_scope.specs.Tables.{table}
use Rattle.lam_scope.proofs.IndexedForms.{document_indexed, document_passed}
use Rattle.lam_scope.proofs.laws.one_index.Goals as goal

pub returns : goal.returns
returns c = record { indices = λ cs. document_indexed cs (table cs).uses refl; left = document_passed }
