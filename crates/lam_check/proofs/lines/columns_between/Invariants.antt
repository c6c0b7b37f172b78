use Rattle.std.proofs.Common.{◌≡◌, ◌+◌, length, drop, take}
use Rattle.std.specs.List.{sum_by}
use Rattle.std.specs.Str.{chars}
use Rattle.lam_check.specs.Lines.{columns, columns_between}
use Rattle.lam_check.proofs.lines.columns_between.Given as goal

-- the columns so far, and those of the characters that are left, are all
abbrev pub invariant-loop-c : goal.invariant-loop-c
invariant-loop-c l =
    l.sum + sum_by columns (drop (length l.yielded) (drop l.start (take l.end (chars l.line)))) ≡ columns_between l.start l.end l.line
