use Rattle.std.proofs.Common.{◌∙◌, ap}
use Rattle.lam_query.specs.inner.Walking.{last_claim}
use Rattle.lam_query.proofs.PendingProofs.{bare_step}
use Rattle.lam_query.proofs.wrong_steps.bare_typing.Goals as goal

pub returns : goal.returns
returns c = λ g e.
    bare_step _ _ _ _ _ _ _ c.in_ok-ty.ensures c.in_ok-typings.ensures.types (c.in_ok-sub.ensures ∙ ap last_claim c.in_ok-typings.ensures.claims) g e
