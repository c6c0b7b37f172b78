use Rattle.std.proofs.Common.{take}
use Rattle.lam_lattice.specs.inner.Matches.{AreMatches}
use Rattle.lam_lattice.proofs.matching.matched.Given as goal

abbrev pub invariant-loop-i : goal.invariant-loop-i
invariant-loop-i l = AreMatches l.right (take l.i l.left) l.made.items
