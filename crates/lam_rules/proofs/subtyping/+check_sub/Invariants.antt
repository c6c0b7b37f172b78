use Rattle.std.proofs.Common.{◌↔◌, drop}
use Rattle.lam_rules.specs.Subtyping.{AreSubProofs}
use Rattle.lam_rules.specs.SubViews.{sub_trees_of}
use Rattle.lam_rules.proofs.subtyping.+check_sub.Given as goal

abbrev pub invariant-check_subs-loop-proof : goal.invariant-check_subs-loop-proof
invariant-check_subs-loop-proof l = AreSubProofs (sub_trees_of l.proofs) l.dialect ↔ AreSubProofs (sub_trees_of (drop l.proof-index l.proofs)) l.dialect
