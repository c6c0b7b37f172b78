use Rattle.std.proofs.Common.{◌≡◌, ◌≤◌, take}
use Rattle.lam_query.specs.inner.Kept.{rows_of, bytes_of}
use Rattle.lam_query.proofs.fronts.rows_within.Given as goal

abbrev pub invariant-loop-i : goal.invariant-loop-i
invariant-loop-i l = record {
  counted : l.end ≡ bytes_of (take l.i (rows_of l.rows));
  within : l.end ≤ l.bytes;
}
