use Rattle.lam_query.proofs.PendingProofs.{bare_sub_step}
use Rattle.lam_query.proofs.wrong_steps.is_right_sub.Goals as goal

pub returns-in_ok-upper-in-Sub : goal.returns-in_ok-upper-in-Sub
returns-in_ok-upper-in-Sub c =
    let same = bare_sub_step _ _ _ _ _ _ _ _ c.in_ok-lower-in-Sub.ensures c.in_ok-upper-in-Sub.ensures c.in_ok-subs-in-Sub.ensures.claims in
    rw c.in-Sub.is (λ r. same.0 (c.check_sub_step.ensures.0 r), λ h. c.check_sub_step.ensures.1 (same.1 h))
