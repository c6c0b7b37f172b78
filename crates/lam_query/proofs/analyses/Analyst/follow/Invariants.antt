use Rattle.std.proofs.Common.{◌≡◌, ◌≤◌, List, length}
use Rattle.lam_rules.specs.Types.{Typ}
use Rattle.lam_typing.specs.Checking.{dialect_in}
use Rattle.lam_query.specs.declared.bound.Bound.{Bound}
use Rattle.lam_query.specs.inner.Analysts.{IsSound}
use Rattle.lam_query.specs.inner.ChangedNames.{AgreeOnUnchanged}
use Rattle.lam_query.specs.inner.Changes.{IsFollowedTo}
use Rattle.lam_query.proofs.analyses.Analyst.follow.Given as goal

abbrev pub invariant-loop-i : goal.invariant-loop-i
invariant-loop-i l = record {
  sound : IsSound l.self;
  dialect : dialect_in l.self.types ≡ dialect_in l.fn.self.types;
  count : length l.self.rows.items ≡ l.i-end;
  bytes_read : l.fn.self.bytes_read ≤ l.self.bytes_read;
  followed : (ts : List Typ) × (b : Bound) × IsFollowedTo l.fn.text l.i ts b (AgreeOnUnchanged b l.changed) l.self;
}
