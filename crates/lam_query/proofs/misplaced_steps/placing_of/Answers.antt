use Rattle.std.proofs.Common.{◌-◌, true, length, take, drop, ◌++◌, ◌∷◌, [], ap, sym, subst, refl, arith, ◌∙◌}
use Rattle.std.specs.Str.{bytes_eq}
use Rattle.lam_query.proofs.Misplaced.{AreSoFar, none_yet, is_misplaced, is_placed, all_so, last_got, of_one_typing, whole_list}
use Rattle.lam_query.proofs.misplaced_steps.placing_of.Goals as goal

pub loop-i-init : goal.loop-i-init
loop-i-init c = subst (λ l. AreSoFar [] l true) (sym c.new-lasts.ensures.items) none_yet

pub returns-then-not-ends_with : goal.returns-then-not-ends_with
returns-then-not-ends_with c =
    let premises = c.premises_of-premises.result.now in
    is_misplaced c.args.steps.now c.loop-i.i c.index-steps-i.result c.loop-i.lasts.items premises c.loop-i.have_trees c.loop-i-test.true c.index-steps-i.is c.premises_of-premises.ensures c.loop-i.invariant
    (ap (λ l. bytes_eq premises (drop (length l - length premises) l)) (sym c.deref.ensures.value) ∙ sym c.ends_with.ensures.value ∙ c.if-not-ends_with.true)

pub loop-i-preserved : goal.loop-i-preserved
loop-i-preserved c =
    let premises = c.premises_of-premises.result.now in
    is_placed c.args.steps.now c.loop-i.i c.index-steps-i.result c.loop-i.lasts.items c.push.new.self.items premises c.loop-i.have_trees c.has_tree-have_trees.result c.loop-i-test.true c.index-steps-i.is c.premises_of-premises.ensures
    c.has_tree-have_trees.ensures c.loop-i.invariant
    (ap (λ l. bytes_eq premises (drop (length l - length premises) l)) (sym c.deref.ensures.value) ∙ sym c.ends_with.ensures.value ∙ c.if-not-ends_with.false)
    (c.in_ok-push.ensures.items ∙ ap (λ l. l ++ c.loop-i.i ∷ []) (c.truncate.ensures.items ∙ ap (λ n. take (n - length premises) c.loop-i.lasts.items) (c.len.ensures ∙ c.loop-i.lasts.ok.0)))

pub returns-then-len-ne1 : goal.returns-then-len-ne1
returns-then-len-ne1 c =
    let h = whole_list c.args.steps.now c.loop-i.i c.loop-i.lasts.items c.loop-i.have_trees c.loop-i-test.false c.loop-i.invariant in (
      record { proofs = h.proofs; are = h.are },
      λ tree made. (let one = (all_so _ _ _ tree h made).0 in c.if-len-ne1.true (omega (arith, one, c.len-2.ensures, c.loop-i.lasts.ok.0))),
    )

pub returns-then-not-have_trees : goal.returns-then-not-have_trees
returns-then-not-have_trees c =
    let h = whole_list c.args.steps.now c.loop-i.i c.loop-i.lasts.items c.loop-i.have_trees c.loop-i-test.false c.loop-i.invariant in (
      record { proofs = h.proofs; are = h.are },
      λ tree made. (let so = (all_so _ _ _ tree h made).1 in let other = c.if-not-have_trees.true in cc),
    )

pub returns-then-not-is_typing : goal.returns-then-not-is_typing
returns-then-not-is_typing c =
    let h = whole_list c.args.steps.now c.loop-i.i c.loop-i.lasts.items c.loop-i.have_trees c.loop-i-test.false c.loop-i.invariant in (
      record { proofs = h.proofs; are = h.are },
      λ tree made. (let so = (rw (last_got c.args.steps.now c.last.result c.last.ensures.value) at c.if-not-is_typing.ensures.1) (all_so _ _ _ tree h made).2 in cc),
    )

pub returns : goal.returns
returns c =
    of_one_typing _ _ _ (whole_list c.args.steps.now c.loop-i.i c.loop-i.lasts.items c.loop-i.have_trees c.loop-i-test.false c.loop-i.invariant) (omega (arith, c.if-len-ne1.false, c.len-2.ensures, c.loop-i.lasts.ok.0)) (let so = c.if-not-have_trees.false in cc)
    ((rw (last_got c.args.steps.now c.last.result c.last.ensures.value) at c.if-not-is_typing.ensures.0) refl)
