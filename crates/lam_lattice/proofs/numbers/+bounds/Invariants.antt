use Rattle.std.proofs.Common.{◌≡◌, ◌+◌, ◌*◌, length}
use Rattle.lam_rules.specs.Numbers.{Keeps, AreEarlier}
use Rattle.lam_sub.specs.Remembered.{AreRight}
use Rattle.lam_lattice.specs.inner.Records.{OrderlyJoins, OrderlyMeets}
use Rattle.lam_lattice.proofs.SideBySide.{bound_of, JoinsSoFar, MeetsSoFar}
use Rattle.lam_lattice.proofs.numbers.+bounds.Given as goal

abbrev pub invariant-join_fields-loop-i : goal.invariant-join_fields-loop-i
invariant-join_fields-loop-i l = record {
  keeps : Keeps l.fn.table l.table;
  dialect : l.verdicts.dialect ≡ l.fn.verdicts.dialect;
  right : AreRight l.table l.verdicts;
  stand : AreEarlier (length l.table) l.made.items;
  joins : JoinsSoFar (OrderlyJoins l.fn.verdicts.dialect) l.fn.table l.table l.matches l.i l.made.items;
}

abbrev pub invariant-meet_fields-loop-i : goal.invariant-meet_fields-loop-i
invariant-meet_fields-loop-i l = record {
  keeps : Keeps l.fn.table l.table;
  dialect : l.verdicts.dialect ≡ l.fn.verdicts.dialect;
  right : AreRight l.table l.verdicts;
  stand : AreEarlier (length l.table) l.made.items;
  meets : MeetsSoFar (OrderlyMeets l.fn.verdicts.dialect) l.fn.table l.table l.matches l.i l.made.items;
}

abbrev pub decreases-join_no : goal.decreases-join_no
decreases-join_no l = 3 * l.left.index + 2

abbrev pub decreases-meet_no : goal.decreases-meet_no
decreases-meet_no l = 3 * l.left.index + 2

abbrev pub decreases-join_by_shape : goal.decreases-join_by_shape
decreases-join_by_shape l = 3 * l.left.index + 1

abbrev pub decreases-meet_by_shape : goal.decreases-meet_by_shape
decreases-meet_by_shape l = 3 * l.left.index + 1

abbrev pub decreases-join_fields : goal.decreases-join_fields
decreases-join_fields l = 3 * bound_of l.matches.now

abbrev pub decreases-meet_fields : goal.decreases-meet_fields
decreases-meet_fields l = 3 * bound_of l.matches.now
