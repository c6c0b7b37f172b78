use Rattle.lam_typing.proofs.StepRules.{no_field_found}
use Rattle.lam_typing.proofs.steps.type_of_project.Goals as goal

pub returns-in_default-field-clause-rule : goal.returns-in_default-field-clause-rule
returns-in_default-field-clause-rule c = rw c.in-Some.is (no_field_found c.args.table.now _ _ c.in_default-field.ensures.none)
