use Rattle.std.proofs.Common.{refl}
use Rattle.lam_rules.proofs.Contexts.{wf_drop}
use Rattle.lam_rules.proofs.typing.wf_context.Goals as goal

pub loop-entry-preserved : goal.loop-entry-preserved
loop-entry-preserved c =
    let step = wf_drop c.args.context.now c.loop-entry.entry-index c.entry-item.result c.loop-entry-test.true c.entry-item.is in (
      λ all. (step.0 (c.loop-entry.invariant.0 all)).1,
      λ rest. c.loop-entry.invariant.1 (step.1 (rw c.as_ref.ensures.value at c.if-not-wf_entry.ensures.0 refl, rest)),
    )

pub returns-then-not-wf_entry : goal.returns-then-not-wf_entry
returns-then-not-wf_entry c =
    let step = wf_drop c.args.context.now c.loop-entry.entry-index c.entry-item.result c.loop-entry-test.true c.entry-item.is in
    (λ no. cc, λ all. (rw c.as_ref.ensures.value at c.if-not-wf_entry.ensures).1 (step.0 (c.loop-entry.invariant.0 all)).0)
