use Rattle.std.proofs.Common.{◌++◌, string_bytes, Some, ap, sym, ◌∙◌}
use Rattle.lam_check.specs.Verdicts.{claim_in}
use Rattle.lam_query.proofs.Verifying.{last_concluded}
use Rattle.lam_check.proofs.verdicts.push_claim.Goals as goal

pub returns-in_ok-push_str-in-Some : goal.returns-in_ok-push_str-in-Some
returns-in_ok-push_str-in-Some c =
    let claim = c.deref.ensures ∙ c.in_ok-claim-in-Some.ensures ∙ ap (claim_in c.args.text.now) (sym (last_concluded c.args.steps.now (Some c.in-Some.last.now) c.in-Some.ensures.value)) in
    c.in_ok-push_str-in-Some.ensures.bytes ∙ ap (λ t. string_bytes c.args.out.now ++ t) claim
