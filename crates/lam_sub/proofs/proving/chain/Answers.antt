use Rattle.std.proofs.Common.{subst}
use Rattle.lam_sub.specs.inner.Steps.{LeadsTo}
use Rattle.lam_sub.proofs.proving.chain.Goals as goal

pub returns : goal.returns
returns c = λ s u t d first second.
    c.in_ok-joined.ensures s u t d (subst (λ p. LeadsTo p s u d) c.in-Some.is first) (subst (λ p. LeadsTo p u t d) c.in-Some-second.is second)
