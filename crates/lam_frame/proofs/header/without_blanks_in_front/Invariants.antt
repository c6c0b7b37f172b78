use Rattle.std.proofs.Common.{◌≡◌, length}
use Rattle.lam_frame.specs.Header.{trim_front}
use Rattle.lam_frame.proofs.header.without_blanks_in_front.Given as goal

abbrev pub invariant-loop-first : goal.invariant-loop-first
invariant-loop-first l = trim_front l.rest ≡ trim_front l.value

abbrev pub decreases-loop-first : goal.decreases-loop-first
decreases-loop-first l = length l.rest
