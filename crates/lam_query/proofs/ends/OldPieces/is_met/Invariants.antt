use Rattle.std.proofs.Common.{◌≡◌, ◌≤◌, ◌-◌, List, length}
use Rattle.lam_query.specs.inner.Ends.{IsLeftOf}
use Rattle.lam_query.specs.inner.Kept.{Row as KeptRow}
use Rattle.lam_query.proofs.ends.OldPieces.is_met.Given as goal

abbrev pub invariant-loop-self : goal.invariant-loop-self
invariant-loop-self l = record {
  left : (rows : List KeptRow) → IsLeftOf rows l.fn.self → IsLeftOf rows l.self;
  forward : l.fn.self.next ≤ l.self.next;
  common : l.self.common ≡ l.fn.self.common;
}

abbrev pub decreases-loop-self : goal.decreases-loop-self
decreases-loop-self l = length l.self.rows.now - l.self.next
