use Rattle.lam_rules.proofs.TableEntries.{wf_at, distinct_at}
use Rattle.lam_rules.proofs.table.TyTable.types_differ.Goals as goal

pub returns-clause-wf : goal.returns-clause-wf
returns-clause-wf c = λ i lt. wf_at _ _ i c.self.view_is c.self.invariant.0 lt

pub returns-clause-differ : goal.returns-clause-differ
returns-clause-differ c = λ i j li lj same. distinct_at _ _ i j c.self.view_is c.self.invariant.0 li lj same
