-- The bytes so far and those that still fit are those that fit in all.
use Rattle.std.proofs.Common.{◌≡◌, ◌+◌, length, drop}
use Rattle.std.specs.Str.{chars}
use Rattle.lam_text.proofs.Walks.{front_bytes}
use Rattle.lam_text.proofs.units.bytes_within.Given as goal

abbrev pub invariant-loop-c : goal.invariant-loop-c
invariant-loop-c l = l.bytes + front_bytes l.encoding l.left (drop (length l.yielded) (chars l.line)) ≡ front_bytes l.encoding l.room (chars l.line)
