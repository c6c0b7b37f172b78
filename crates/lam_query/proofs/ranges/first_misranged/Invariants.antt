use Rattle.std.proofs.Common.{◌-◌, length, map}
use Rattle.lam_rules.specs.Typing.{TypingTree}
use Rattle.lam_scope.specs.Views.{table_of}
use Rattle.lam_query.specs.Steps.{steps_of}
use Rattle.lam_query.specs.Views.{step_of}
use Rattle.lam_query.specs.inner.Ranges.{AreCompared, number_of}
use Rattle.lam_query.specs.inner.RowSteps.{row_proof}
use Rattle.lam_query.proofs.ranges.first_misranged.Given as goal
use Rattle.lam_query.specs.ProofTrees.{MakeTree}

abbrev pub invariant-loop-back : goal.invariant-loop-back
invariant-loop-back l =
    (tree : TypingTree) → MakeTree (map step_of l.steps) tree
    → AreCompared (table_of l.scopes) (map step_of l.steps) (steps_of 0 (row_proof (table_of l.scopes) l.fn.place.0 tree)) (length l.steps - l.back) (map number_of l.pending.items) l.other
