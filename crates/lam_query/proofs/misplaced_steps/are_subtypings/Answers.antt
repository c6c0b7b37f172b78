use Rattle.std.proofs.Common.{map, refl}
use Rattle.lam_query.specs.Views.{step_of}
use Rattle.lam_query.specs.inner.Backwards.{said_at}
use Rattle.lam_query.proofs.TreesMade.{subtypings_drop}
use Rattle.lam_query.proofs.misplaced_steps.are_subtypings.Goals as goal

pub loop-number-preserved : goal.loop-number-preserved
loop-number-preserved c =
    let next = subtypings_drop (said_at (map step_of c.args.steps.now)) c.args.premises.now c.loop-number.number-index c.loop-number-test.true in
    let own = rw c.step_at.ensures at c.if-not-is_subtyping.ensures.0 refl in
    (λ all. (next.0 (c.loop-number.invariant.0 all)).1, λ rest. c.loop-number.invariant.1 (next.1 (own, rest)))

pub returns-then-not-is_subtyping : goal.returns-then-not-is_subtyping
returns-then-not-is_subtyping c =
    let next = subtypings_drop (said_at (map step_of c.args.steps.now)) c.args.premises.now c.loop-number.number-index c.loop-number-test.true in
    let own = rw c.step_at.ensures at c.if-not-is_subtyping.ensures.1 in
    (λ no. cc, λ all. own (next.0 (c.loop-number.invariant.0 all)).0)
