use Rattle.std.proofs.Common.{◌↔◌, drop}
use Rattle.lam_rules.specs.SubViews.{sub_trees_of}
use Rattle.lam_sub.specs.inner.Unchanged.{AreByRefl}
use Rattle.lam_sub.proofs.unchanged.are_by_refl.Given as goal

abbrev pub invariant-loop-proof : goal.invariant-loop-proof
invariant-loop-proof l = AreByRefl (sub_trees_of l.proofs) ↔ AreByRefl (sub_trees_of (drop l.proof-index l.proofs))
