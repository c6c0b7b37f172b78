use Rattle.lam_typing.proofs.Projections.{untyped_operand, field_of_least, field_is_least}
use Rattle.lam_typing.proofs.laws.projections_are_fields.Goals as goal

pub returns-clause-field : goal.returns-clause-field
returns-clause-field c = field_is_least

pub returns-clause-of_record : goal.returns-clause-of_record
returns-clause-of_record c = λ s e l u t d least is. let f = field_of_least s e l u t d least is in (f.0, f.1)

pub returns-clause-of_typed : goal.returns-clause-of_typed
returns-clause-of_typed c = untyped_operand
