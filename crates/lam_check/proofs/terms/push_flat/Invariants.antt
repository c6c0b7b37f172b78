use Rattle.std.proofs.Common.{◌≡◌, ◌++◌, length, drop, map, string_bytes}
use Rattle.std.specs.Str.{chars, encode_utf8_all}
use Rattle.lam_check.specs.Terms.{flat}
use Rattle.lam_check.proofs.terms.push_flat.Given as goal

-- what is written, and the characters that are left, are all
abbrev pub invariant-loop-c : goal.invariant-loop-c
invariant-loop-c l =
    string_bytes l.out ++ encode_utf8_all (map flat (drop (length l.yielded) (chars l.line))) ≡ string_bytes l.initial.out ++ encode_utf8_all (map flat (chars l.line))
