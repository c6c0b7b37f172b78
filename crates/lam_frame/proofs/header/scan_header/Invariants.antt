use Rattle.std.proofs.Common.{length}
use Rattle.lam_frame.proofs.Walk.{Walked}
use Rattle.lam_frame.proofs.header.scan_header.Given as goal

abbrev pub invariant-loop-line : goal.invariant-loop-line
invariant-loop-line l = Walked l.bytes l.rest l.body

abbrev pub decreases-loop-line : goal.decreases-loop-line
decreases-loop-line l = length l.rest
