use Rattle.std.proofs.Common.{◌≡◌, ◌++◌, map, drop}
use Rattle.lam_rules.specs.SubViews.{claims_of}
use Rattle.lam_rules.specs.TypingViews.{types_concluded}
use Rattle.lam_query.specs.Views.{step_of}
use Rattle.lam_query.specs.inner.Backwards.{said_at}
use Rattle.lam_query.specs.inner.Walking.{types_said, claims_said}
use Rattle.lam_query.proofs.wrong_steps.bare_premises.Given as goal

abbrev pub invariant-loop-number : goal.invariant-loop-number
invariant-loop-number l =
    let said = said_at (map step_of l.steps) in
    (types_concluded l.made.typings.items ++ types_said (map said (drop l.number-index l.premises)) ≡ types_said (map said l.premises))
    × (claims_of l.made.subs.items ++ claims_said (map said (drop l.number-index l.premises)) ≡ claims_said (map said l.premises))
