use Rattle.std.proofs.Common.{◌≡◌, ◌-◌, length, drop}
use Rattle.lam_query.proofs.ends.end_from.Given as goal

abbrev pub invariant-loop-i : goal.invariant-loop-i
invariant-loop-i l = drop (length l.old - l.i) l.old ≡ drop (length l.new - l.i) l.new
