use Rattle.std.proofs.Common.{subst}
use Rattle.lam_query.specs.inner.ChangedNames.{AreDifferences}
use Rattle.lam_query.proofs.MarkedNames.{unmarked_same, same_unmarked}
use Rattle.lam_query.proofs.changed_names.ChangedNames.between.Goals as goal

pub returns-clause-same : goal.returns-clause-same
returns-clause-same c =
    unmarked_same (record { names = c.in_ok-differences.field-0; type_names = c.in_ok-differences-2.field-0 }) c.args.earlier.now c.args.bound.now
    (subst (λ es. AreDifferences es c.args.bound.now.names c.in_ok-differences.field-0.items) c.deref.ensures.value c.in_ok-differences.ensures)
    (subst (λ es. AreDifferences es c.args.bound.now.type_names c.in_ok-differences-2.field-0.items) c.deref-2.ensures.value c.in_ok-differences-2.ensures)

pub returns-clause-other : goal.returns-clause-other
returns-clause-other c =
    same_unmarked (record { names = c.in_ok-differences.field-0; type_names = c.in_ok-differences-2.field-0 }) c.args.earlier.now c.args.bound.now
    (subst (λ es. AreDifferences es c.args.bound.now.names c.in_ok-differences.field-0.items) c.deref.ensures.value c.in_ok-differences.ensures)
    (subst (λ es. AreDifferences es c.args.bound.now.type_names c.in_ok-differences-2.field-0.items) c.deref-2.ensures.value c.in_ok-differences-2.ensures)
