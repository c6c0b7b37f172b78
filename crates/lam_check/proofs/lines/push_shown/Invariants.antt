use Rattle.std.proofs.Common.{◌≡◌, ◌++◌, length, drop, map, string_bytes}
use Rattle.std.specs.Str.{chars, encode_utf8_all}
use Rattle.lam_check.specs.Lines.{shown}
use Rattle.lam_check.proofs.lines.push_shown.Given as goal

-- what is written, and the characters that are left as they are shown, are all
abbrev pub invariant-loop-c : goal.invariant-loop-c
invariant-loop-c l =
    string_bytes l.out ++ encode_utf8_all (map shown (drop (length l.yielded) (chars l.line))) ≡ string_bytes l.initial.out ++ encode_utf8_all (map shown (chars l.line))
