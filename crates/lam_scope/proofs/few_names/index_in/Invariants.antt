use Rattle.std.proofs.Common.{◌≡◌, drop}
use Rattle.lam_scope.specs.Names.{index_of}
use Rattle.lam_scope.specs.inner.FewNames.{few_names}
use Rattle.lam_scope.proofs.FewNames.{found_behind}
use Rattle.lam_scope.proofs.few_names.index_in.Given as goal

abbrev pub invariant-loop-between : goal.invariant-loop-between
invariant-loop-between l = index_of l.name (few_names l.stack) ≡ found_behind l.between (index_of l.name (drop l.between (few_names l.stack)))
