use Rattle.std.proofs.Common.{◌≡◌, ◌≤◌, ◌-◌, List, ℕ, length}
use Rattle.lam_rules.specs.Numbers.{Keeps}
use Rattle.lam_typing.specs.Checking.{types_in, dialect_in}
use Rattle.lam_query.specs.inner.Analysts.{IsSound, IsReadTo}
use Rattle.lam_query.specs.inner.Bound.{KeepsNumbers}
use Rattle.lam_query.specs.inner.Changes.{AreOldPieces}
use Rattle.lam_query.specs.inner.PieceRows.{Sight}
use Rattle.lam_query.proofs.analyses.Analyst.read_until.Given as goal

abbrev pub invariant-loop-self : goal.invariant-loop-self
invariant-loop-self l = record {
  sound : IsSound l.self;
  dialect : dialect_in l.self.types ≡ dialect_in l.fn.self.types;
  keeps : Keeps (types_in l.fn.self.types) (types_in l.self.types);
  numbers : KeepsNumbers l.fn.self.bound l.self.bound;
  forward : l.fn.old.next ≤ l.old.next;
  pieces : (before : List ℕ) (pieces : List (List ℕ)) → AreOldPieces before l.fn.text pieces l.fn.old → AreOldPieces before l.fn.text pieces l.old;
  read : (ahead : List ℕ) (s : Sight) (rest : List ℕ) → IsReadTo ahead s l.fn.text rest l.fn.self → (left : List ℕ) × IsReadTo ahead s l.fn.text left l.self;
}

abbrev pub decreases-loop-self : goal.decreases-loop-self
decreases-loop-self l = length l.fn.text - l.self.end
