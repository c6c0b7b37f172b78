use Rattle.std.proofs.Common.{◌≡◌, ◌≤◌, ◌-◌, length, drop}
use Rattle.lam_query.proofs.ends.common_end.Given as goal

abbrev pub invariant-loop-end : goal.invariant-loop-end
invariant-loop-end l = record {
  in_old : l.end ≤ length l.old;
  in_new : l.end ≤ length l.new;
  same : drop (length l.old - l.end) l.old ≡ drop (length l.new - l.end) l.new;
}

abbrev pub decreases-loop-end : goal.decreases-loop-end
decreases-loop-end l = length l.old - l.end
