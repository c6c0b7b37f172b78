-- The common prefix of two texts, and the pieces there. For private functions only.
use Rattle.std.specs.Prelude.{◌≡◌, ◌≤◌, ◌<◌, ◌+◌, ◌⊎◌, ℕ, List, take, length, slice_get, Some}
use Rattle.lam_rules.specs.Types.{Typ}
use Rattle.lam_rules.specs.declared.rules.Dialect.{Dialect}
use Rattle.lam_query.specs.declared.bound.Bound.{Bound}
use Rattle.lam_query.specs.declared.fronts.FrontRows.{FrontRows}
use Rattle.lam_query.specs.inner.Analysts.{IsBoundAs}
use Rattle.lam_query.specs.inner.Bound.{AllStand}
use Rattle.lam_query.specs.inner.Kept.{Row, bytes_of}
use Rattle.lam_query.specs.inner.PieceRows.{Sight, outset, AreRows}

-- the common prefix has exactly n bytes
pub record IsFrontOfBoth (n : ℕ) (old new : List ℕ) : Type 0 where
  pub in_old : n ≤ length old
  pub in_new : n ≤ length new
  pub same : take n old ≡ take n new
  pub no_more : (byte : ℕ) → slice_get old n ≡ Some byte → slice_get new n ≡ Some byte → ⊥

-- the first pieces, without the last one, that end within n bytes; the next one does not, or is the last one
pub record AreRowsWithin (n : ℕ) (front : FrontRows) (rows : List Row) : Type 0 where
  pub not_last : (front.count ≡ 0) ⊎ (front.count < length rows)
  pub counted : front.end ≡ bytes_of (take front.count rows)
  pub within : front.end ≤ n
  pub no_more : (r : Row) → slice_get rows front.count ≡ Some r → (n < front.end + r.end) ⊎ (front.count + 1 ≡ length rows)

-- names mean what they mean after the pieces of these rows, where each row knows the number of what it binds
abbrev pub AreBoundBy : List Row → Bound → Bound → Type 0
AreBoundBy rows old now =
    (pieces : List (List ℕ)) (s : Sight) (ts : List Typ) (d : Dialect) → AreRows outset pieces rows s ts old d → IsBoundAs s.names s.types ts now

-- each entry that is bound stands for a type of the table that the rows use
abbrev pub StandBy : List Row → Bound → Bound → Type 0
StandBy rows old now =
    (pieces : List (List ℕ)) (s : Sight) (ts : List Typ) (d : Dialect) → AreRows outset pieces rows s ts old d → AllStand ts now
