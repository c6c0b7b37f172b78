use Rattle.std.proofs.Common.{drop}
use Rattle.lam_rules.specs.SubViews.{sub_trees_of}
use Rattle.lam_query.specs.Steps.{sub_proofs}
use Rattle.lam_query.proofs.Flat.{IsLeft}
use Rattle.lam_query.proofs.steps.+list_sub.Given as goal

abbrev pub invariant-list_subs-loop-proof : goal.invariant-list_subs-loop-proof
invariant-list_subs-loop-proof l =
    IsLeft l.fn.steps.items (sub_proofs (sub_trees_of l.proofs)) l.steps.items l.numbers.items (sub_proofs (sub_trees_of (drop l.proof-index l.proofs)))
