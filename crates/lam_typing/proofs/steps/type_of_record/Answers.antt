use Rattle.std.proofs.Common.{IsTrue, subst, sym}
use Rattle.lam_rules.specs.Numbers.{HaveDistinctLabels}
use Rattle.lam_rules.proofs.TableFields.{distinct_of}
use Rattle.lam_typing.proofs.steps.type_of_record.Goals as goal

pub returns-then-not-labels_differ-clause-rule : goal.returns-then-not-labels_differ-clause-rule
returns-then-not-labels_differ-clause-rule c = rw c.if-not-all.false (λ wf.
    let differ : IsTrue c.labels_differ.result = c.labels_differ.ensures.1 (subst HaveDistinctLabels (sym c.deref.ensures.value) (distinct_of c.args.table.now c.args.fields.items wf)) in
    let other = c.if-not-labels_differ.true in
    absurd (cc))
