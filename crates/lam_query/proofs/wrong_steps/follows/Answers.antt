use Rattle.lam_rules.specs.TermViews.{term_of}
use Rattle.lam_rules.specs.TypingViews.{context_of}
use Rattle.lam_query.proofs.wrong_steps.follows.Goals as goal

pub returns : goal.returns
returns c =
    let same = c.in_ok-proof.ensures (context_of c.args.entries.now) (term_of c.args.term.now) in
    (λ r. same.0 (c.check_type_step.ensures.0 r), λ h. c.check_type_step.ensures.1 (same.1 h))
