use Rattle.std.proofs.Common.{◌∙◌, refl, arith}
use Rattle.lam_rules.proofs.TypingShapes.{typing_tree_of-node, typings_of-drop}
use Rattle.lam_scope.specs.Views.{table_of}
use Rattle.lam_query.proofs.Flat.{all_left, none_left, one_less, concluded, length-listed, row_proofs-next, row_proofs-end}
use Rattle.lam_query.proofs.steps.+list_typing.Goals as goal

pub list_typing-returns-clause-steps : goal.list_typing-returns-clause-steps
list_typing-returns-clause-steps t c =
    let typed = rw (c.deref.ensures.value, c.premise_places-terms.ensures) at c.in_ok-premises.ensures in
    let listed = c.in_ok-list_side.ensures c.args.steps.now.items _ typed in
    rw (typing_tree_of-node c.args.proof.now)
    (concluded c.args.steps.now.items c.list_side.new.steps.items _ _ _ _ _ listed c.in_ok-push.ensures.items (rw (c.in_ok-ty.ensures, c.span_of.ensures) refl))

pub list_typing-returns-clause-last : goal.list_typing-returns-clause-last
list_typing-returns-clause-last t c =
    let typed = rw (c.deref.ensures.value, c.premise_places-terms.ensures) at c.in_ok-premises.ensures in
    let listed = c.in_ok-list_side.ensures c.args.steps.now.items _ typed in
    rw (typing_tree_of-node c.args.proof.now)
    (c.len-last.ensures ∙ c.list_side.new.steps.ok.0 ∙ length-listed c.args.steps.now.items _ c.list_side.new.steps.items _ listed)

pub list_typings-loop-i-init : goal.list_typings-loop-i-init
list_typings-loop-i-init t c = rw c.in_ok-numbers.ensures.items (all_left _ _)

pub list_typings-loop-i-preserved : goal.list_typings-loop-i-preserved
list_typings-loop-i-preserved t c =
    let proofs = typings_of-drop c.args.proofs.now c.loop-i.i c.index-proofs-i.result (omega arith) c.index-proofs-i.is in
    let left = row_proofs-next (table_of c.args.scopes.now) c.args.place.0 c.args.terms.now c.loop-i.i _ _ _ proofs in
    let steps = rw c.place_or-about.ensures at c.in_ok-last.ensures.steps in
    let last = rw c.place_or-about.ensures at c.in_ok-last.ensures.last in
    rw c.in_ok-push.ensures.items (one_less _ _ c.loop-i.steps.items _ _ _ _ _ _ left steps last c.loop-i.invariant)

pub list_typings-returns : goal.list_typings-returns
list_typings-returns t c =
    none_left _ _ _ _ _ (row_proofs-end (table_of c.args.scopes.now) c.args.place.0 _ c.args.proofs.now c.loop-i.i (omega arith)) c.loop-i.invariant
