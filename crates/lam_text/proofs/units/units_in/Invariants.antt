-- The units so far and those of the characters that are left are those of the text.
use Rattle.std.proofs.Common.{◌≡◌, ◌+◌, length, drop}
use Rattle.std.specs.Str.{chars}
use Rattle.lam_text.specs.Units.{units}
use Rattle.lam_text.proofs.units.units_in.Given as goal

abbrev pub invariant-loop-c : goal.invariant-loop-c
invariant-loop-c l = l.units + units l.encoding (drop (length l.yielded) (chars l.text)) ≡ units l.encoding (chars l.text)
