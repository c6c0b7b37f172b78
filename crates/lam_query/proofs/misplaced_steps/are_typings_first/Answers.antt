use Rattle.std.proofs.Common.{map, refl}
use Rattle.lam_query.specs.Views.{step_of}
use Rattle.lam_query.specs.inner.Backwards.{said_at}
use Rattle.lam_query.proofs.TreesMade.{typing_drop, not_last, is_last}
use Rattle.lam_query.proofs.misplaced_steps.are_typings_first.Goals as goal

pub loop-k-preserved : goal.loop-k-preserved
loop-k-preserved c =
    let own = rw c.step_at-premise.ensures at c.if-not-is_typing.ensures.0 refl in
    let next = typing_drop (said_at (map step_of c.args.steps.now)) c.args.premises.now c.loop-k.k c.loop-k-test.true own in
    (λ all. next.0 (c.loop-k.invariant.0 all), λ rest. c.loop-k.invariant.1 (next.1 rest))

pub returns-then-k-premises : goal.returns-then-k-premises
returns-then-k-premises c =
    let own = rw c.step_at-premise.ensures at c.if-not-is_typing.ensures.1 in
    (λ no. cc, λ all. absurd (not_last (said_at (map step_of c.args.steps.now)) c.args.premises.now c.loop-k.k c.if-k-premises.true (λ is. (let so = own is in cc)) (c.loop-k.invariant.0 all)))

pub returns-then-not-is_typing : goal.returns-then-not-is_typing
returns-then-not-is_typing c =
    let own = rw c.step_at-premise.ensures at c.if-not-is_typing.ensures.1 in
    let last = is_last (said_at (map step_of c.args.steps.now)) c.args.premises.now c.loop-k.k c.loop-k-test.true c.if-k-premises.false (λ is. (let so = own is in cc)) in
    let told = rw c.step_at-premise.ensures at c.is_subtyping.ensures in
    (λ r. c.loop-k.invariant.1 (last.1 (told.0 r)), λ all. told.1 (last.0 (c.loop-k.invariant.0 all)))
