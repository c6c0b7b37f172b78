use Rattle.std.proofs.Common.{◌≡◌, ◌++◌, length, drop, take, flat_map, string_bytes}
use Rattle.std.specs.Str.{chars}
use Rattle.lam_check.specs.Lines.{blank, blanks}
use Rattle.lam_check.proofs.lines.push_blanks.Given as goal

-- what is written, and the blanks below the characters that are left, are all
abbrev pub invariant-loop-c : goal.invariant-loop-c
invariant-loop-c l =
    string_bytes l.out ++ flat_map blank (drop (length l.yielded) (take l.count (chars l.line))) ≡ string_bytes l.initial.out ++ blanks l.count l.line
