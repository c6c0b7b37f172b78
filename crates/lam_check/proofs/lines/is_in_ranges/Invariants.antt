use Rattle.std.proofs.Common.{◌≡◌, drop}
use Rattle.lam_check.specs.Lines.{is_in_ranges}
use Rattle.lam_check.proofs.lines.is_in_ranges.Given as goal

-- whether `c` is in one of the ranges is whether it is in one of those that are left
abbrev pub invariant-loop-range : goal.invariant-loop-range
invariant-loop-range l = is_in_ranges (drop l.range-index l.ranges) l.c ≡ is_in_ranges l.ranges l.c
