-- Each mark so far was moved, and the others are as they were.
use Rattle.std.proofs.Common.{◌≡◌, ◌+◌, ◌++◌, take, drop, map}
use Rattle.lam_text.specs.inner.Splice.{moved}
use Rattle.lam_text.proofs.splice.move_marks.Given as goal

abbrev pub invariant-loop-mark : goal.invariant-loop-mark
invariant-loop-mark l =
    l.later ≡ map (moved l.splice.end (l.splice.start + l.splice.inserted)) (take l.mark-index l.initial.later) ++ drop l.mark-index l.initial.later
