use Rattle.std.proofs.Common.{◌≡◌, length}
use Rattle.lam_frame.specs.Header.{trim_back}
use Rattle.lam_frame.proofs.header.without_blanks_behind.Given as goal

abbrev pub invariant-loop-last : goal.invariant-loop-last
invariant-loop-last l = trim_back l.rest ≡ trim_back l.value

abbrev pub decreases-loop-last : goal.decreases-loop-last
decreases-loop-last l = length l.rest
