use Rattle.std.proofs.Common.{map, take}
use Rattle.lam_query.specs.Views.{step_of}
use Rattle.lam_query.proofs.Misplaced.{AreSoFar}
use Rattle.lam_query.proofs.misplaced_steps.placing_of.Given as goal

abbrev pub invariant-loop-i : goal.invariant-loop-i
invariant-loop-i l = AreSoFar (take l.i (map step_of l.steps)) l.lasts.items l.have_trees
