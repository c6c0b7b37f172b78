use Rattle.std.proofs.Common.{◌∷◌, [], map, ◌∙◌, ap}
use Rattle.lam_query.specs.Views.{step_of}
use Rattle.lam_query.specs.inner.Backwards.{said_at}
use Rattle.lam_query.specs.inner.Walking.{first_said}
use Rattle.lam_query.proofs.PendingProofs.{first_of}
use Rattle.lam_query.proofs.wrong_steps.first_type.Goals as goal

pub returns-in-Some : goal.returns-in-Some
returns-in-Some c =
    c.type_in.ensures
    ∙ ap (λ x. first_said (x ∷ [])) c.step_at.ensures
    ∙ first_of (said_at (map step_of c.args.steps.now)) c.args.premises.now c.in-Some.number.now c.in-Some.ensures.value
