use Rattle.std.proofs.Common.{sym, subst}
use Rattle.serde_json.specs.View.{view}
use Rattle.lam_session.proofs.Plain.{NoFloats, steps_plain, each_plain}
use Rattle.lam_session.proofs.session.Session.step.Goals as goal

pub returns-clause-plain : goal.returns-clause-plain
returns-clause-plain c = λ plain. each_plain view c.in-Ok.values.items (subst NoFloats (sym c.in-Ok.ensures.values) (steps_plain _ _ _ _ plain c.in_ok-sent.ensures.answers.steps))
