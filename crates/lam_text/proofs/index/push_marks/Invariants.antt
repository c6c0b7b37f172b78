-- The lines found so far and those that are still to be found are those of the whole search.
use Rattle.std.proofs.Common.{◌≡◌, ◌-◌, ◌≤◌, ◌++◌, drop}
use Rattle.lam_text.specs.inner.Search.{marks_from}
use Rattle.lam_text.proofs.index.push_marks.Given as goal

abbrev pub invariant-loop-plain : goal.invariant-loop-plain
invariant-loop-plain l =
    (l.from ≤ l.at) × (l.at ≤ l.to) × (l.marks.items ++ marks_from l.open l.at (drop l.at l.text) ≡ l.initial.marks.items ++ marks_from l.initial.open l.from (drop l.from l.text))

abbrev pub decreases-loop-plain : goal.decreases-loop-plain
decreases-loop-plain l = l.to - l.at
