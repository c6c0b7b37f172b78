use Rattle.std.proofs.Common.{◌≡◌, ◌+◌, ◌<◌, ◌≤◌, length, drop}
use Rattle.lam_query.proofs.rows.row_around.Given as goal
use Rattle.lam_query.specs.inner.Kept.{rows_of, bytes_of}

abbrev pub invariant-loop-i : goal.invariant-loop-i
invariant-loop-i l = record {
  passed : l.start ≤ l.offset;
  counted : l.start + bytes_of (rows_of (drop l.i l.rows)) ≡ bytes_of (rows_of l.rows);
  some_left : 0 < length l.rows → l.i < length l.rows;
}
