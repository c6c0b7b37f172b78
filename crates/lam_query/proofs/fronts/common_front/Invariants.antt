use Rattle.std.proofs.Common.{◌≡◌, ◌≤◌, ◌-◌, length, take}
use Rattle.lam_query.proofs.fronts.common_front.Given as goal

abbrev pub invariant-loop-front : goal.invariant-loop-front
invariant-loop-front l = record {
  in_old : l.front ≤ length l.old;
  in_new : l.front ≤ length l.new;
  same : take l.front l.old ≡ take l.front l.new;
}

abbrev pub decreases-loop-front : goal.decreases-loop-front
decreases-loop-front l = length l.old - l.front
