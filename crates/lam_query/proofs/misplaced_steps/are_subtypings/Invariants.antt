use Rattle.std.proofs.Common.{◌↔◌, map, drop}
use Rattle.lam_query.specs.Views.{step_of}
use Rattle.lam_query.specs.inner.Placing.{AreSubtypings}
use Rattle.lam_query.specs.inner.Backwards.{said_at}
use Rattle.lam_query.proofs.misplaced_steps.are_subtypings.Given as goal

abbrev pub invariant-loop-number : goal.invariant-loop-number
invariant-loop-number l =
    let said = said_at (map step_of l.steps) in
    AreSubtypings (map said l.premises) ↔ AreSubtypings (map said (drop l.number-index l.premises))
