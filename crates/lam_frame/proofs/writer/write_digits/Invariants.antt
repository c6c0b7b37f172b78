use Rattle.std.proofs.Common.{◌≡◌, ◌≤◌, ◌<◌, ◌-◌, ◌^◌, ◌++◌, drop, length}
use Rattle.std.specs.Prelude.{decimal}
use Rattle.lam_frame.proofs.writer.write_digits.Given as goal

abbrev pub invariant-loop-rest : goal.invariant-loop-rest
invariant-loop-rest l = record {
  low : 17 ≤ l.start;
  high : l.start ≤ 36;
  digits : l.rest < 10 ^ (l.start - 16);
  text : decimal l.number ++ drop 36 l.initial.room ≡ decimal l.rest ++ drop l.start l.room;
  room : length l.room ≡ 40;
}

abbrev pub decreases-loop-rest : goal.decreases-loop-rest
decreases-loop-rest l = l.rest
