-- The common suffix of two texts, and the pieces there. For private functions only.
use Rattle.std.specs.Prelude.{◌≡◌, ◌≤◌, ◌<◌, ◌+◌, ◌-◌, ℕ, List, drop, length, slice_get, Some}
use Rattle.lam_query.specs.declared.ends.OldPieces.{OldPieces}
use Rattle.lam_query.specs.inner.Kept.{Row, rows_of, bytes_of}

-- the common suffix has exactly n bytes
pub record IsEndOfBoth (n : ℕ) (old new : List ℕ) : Type 0 where
  pub in_old : n ≤ length old
  pub in_new : n ≤ length new
  pub same : drop (length old - n) old ≡ drop (length new - n) new
  pub no_more : (byte : ℕ) → n < length old → n < length new → slice_get old (length old - (n + 1)) ≡ Some byte → slice_get new (length new - (n + 1)) ≡ Some byte → ⊥

-- the bytes of the pieces that have not been passed are counted
pub record IsLeftOf (all : List Row) (b : OldPieces) : Type 0 where
  pub rows : all ≡ rows_of b.rows.now
  pub inside : b.next ≤ length all
  pub counted : b.bytes ≡ bytes_of (drop b.next all)

-- the rest of the new text, of this many bytes, is the rest of the old one: pieces at the end of both texts
pub record IsMetAt (left : ℕ) (b : OldPieces) : Type 0 where
  pub some : b.next < length b.rows.now
  pub same : b.bytes ≡ left
  pub common : left ≤ b.common
