use Rattle.std.proofs.Common.{◌↔◌, map, drop}
use Rattle.lam_query.specs.Views.{step_of}
use Rattle.lam_query.specs.inner.Placing.{AreTypingsFirst}
use Rattle.lam_query.specs.inner.Backwards.{said_at}
use Rattle.lam_query.proofs.misplaced_steps.are_typings_first.Given as goal

abbrev pub invariant-loop-k : goal.invariant-loop-k
invariant-loop-k l =
    let said = said_at (map step_of l.steps) in
    AreTypingsFirst (map said l.premises) ↔ AreTypingsFirst (map said (drop l.k l.premises))
