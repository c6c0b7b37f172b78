use Rattle.lam_rules.proofs.TypingSteps.{field_there, no_field_there}
use Rattle.lam_rules.proofs.parts.of_fields.Goals as goal

pub returns-in-Some : goal.returns-in-Some
returns-in-Some c = λ g. let h = c.in-Some.ensures.lookup in field_there g c.args.fields.now c.args.k c.in-Some.field.now h.3.0 h.1

pub returns-in-None : goal.returns-in-None
returns-in-None c = λ g. no_field_there g c.args.fields.now c.args.k c.in-None.ensures.lookup.3
