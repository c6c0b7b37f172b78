use Rattle.std.proofs.Common.{◌∙◌, ap, refl}
use Rattle.std.proofs.Math.ListN.{drop_of_length-le}
use Rattle.lam_rules.specs.SubViews.{sub_trees_of}
use Rattle.lam_rules.proofs.SubShapes.{sub_tree_of-node, sub_trees_of-drop}
use Rattle.lam_query.specs.Steps.{sub_proofs}
use Rattle.lam_query.proofs.Flat.{all_left, none_left, one_less, concluded, length-listed}
use Rattle.lam_query.proofs.steps.+list_sub.Goals as goal

pub list_sub-returns-clause-steps : goal.list_sub-returns-clause-steps
list_sub-returns-clause-steps t c =
    let listed = rw c.deref.ensures.value at c.in_ok-premises.ensures in
    rw (sub_tree_of-node c.args.proof.now)
    (concluded c.args.steps.now.items c.list_subs.new.steps.items _ _ _ _ _ listed c.in_ok-push.ensures.items (rw (c.in_ok-lower.ensures, c.in_ok-upper.ensures) refl))

pub list_sub-returns-clause-last : goal.list_sub-returns-clause-last
list_sub-returns-clause-last t c =
    let listed = rw c.deref.ensures.value at c.in_ok-premises.ensures in
    rw (sub_tree_of-node c.args.proof.now) (c.len-last.ensures ∙ c.list_subs.new.steps.ok.0 ∙ length-listed c.args.steps.now.items _ c.list_subs.new.steps.items _ listed)

pub list_subs-loop-proof-init : goal.list_subs-loop-proof-init
list_subs-loop-proof-init t c = rw c.in_ok-numbers.ensures.items (all_left _ _)

pub list_subs-loop-proof-preserved : goal.list_subs-loop-proof-preserved
list_subs-loop-proof-preserved t c =
    let left = ap sub_proofs (sub_trees_of-drop c.args.proofs.now c.loop-proof.proof-index c.proof-item.result c.loop-proof-test.true c.proof-item.is) in
    rw c.in_ok-push.ensures.items
    (one_less _ _ c.loop-proof.steps.items _ _ _ _ _ _ left c.in_ok-last.ensures.steps c.in_ok-last.ensures.last c.loop-proof.invariant)

pub list_subs-returns : goal.list_subs-returns
list_subs-returns t c = none_left _ _ _ _ _ (ap (λ ps. sub_proofs (sub_trees_of ps)) (drop_of_length-le c.args.proofs.now c.loop-proof-test.false)) c.loop-proof.invariant
