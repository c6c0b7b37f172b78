use Rattle.std.proofs.Common.{◌≡◌, ◌≤◌, ◌++◌, length, drop, string_bytes}
use Rattle.std.specs.Str.{chars}
use Rattle.lam_check.specs.Terms.{uncommented}
use Rattle.lam_check.proofs.terms.uncommented.Given as goal

-- what is written, and what is kept of the characters that are left, are all
abbrev pub invariant-loop-c : goal.invariant-loop-c
invariant-loop-c l =
    (l.depth ≤ length l.yielded) × (string_bytes l.out ++ uncommented l.depth l.before (drop (length l.yielded) (chars l.text)) ≡ uncommented 0 32 (chars l.text))
