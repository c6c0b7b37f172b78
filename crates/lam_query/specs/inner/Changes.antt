-- Changed texts, while the rows after the change are followed. For private functions only.
use Rattle.std.specs.Prelude.{◌≡◌, ◌<◌, ◌≤◌, ◌-◌, ◌⊎◌, ℕ, List, [], ◌∷◌, ◌++◌, length, take, drop}
use Rattle.std.specs.List.{AllZip}
use Rattle.lam_rules.specs.Types.{Typ}
use Rattle.lam_rules.specs.Numbers.{Keeps}
use Rattle.lam_typing.specs.Checking.{types_in, dialect_in}
use Rattle.lam_query.specs.declared.analyses.Analyst.{Analyst}
use Rattle.lam_query.specs.declared.bound.Bound.{Bound}
use Rattle.lam_query.specs.declared.ends.OldPieces.{OldPieces}
use Rattle.lam_query.specs.inner.Analysts.{IsBoundAs, IsReadTo, IsReadThrough}
use Rattle.lam_query.specs.inner.Bound.{HaveNumbers, KeepsNumbers}
use Rattle.lam_query.specs.inner.Ends.{IsLeftOf}
use Rattle.lam_query.specs.inner.Kept.{rows_of}
use Rattle.lam_query.specs.inner.PieceRows.{Sight, outset, AreRows, IsMadeUpOf, joined}

-- The rest of the text consists of the old text's pieces from this index on; or all of it was read, and the index is past all pieces.
abbrev pub IsMet : (ahead : List ℕ) (s : Sight) (text : List ℕ) (pieces : List (List ℕ)) (next : ℕ) → Analyst → Type 0
IsMet ahead s text pieces next a =
    ((next < length pieces) × IsReadTo ahead s text (joined (drop next pieces)) a) ⊎ ((next ≡ length pieces) × IsReadThrough ahead s text a)

-- The rows are those of the old text's pieces, and the bytes of those not passed are counted; both texts have a common suffix of `common` bytes.
pub record AreOldPieces (old new : List ℕ) (pieces : List (List ℕ)) (b : OldPieces) : Type 0 where
  pub whole : old ≡ joined pieces
  pub lengths : AllZip (λ r p. r.end ≡ length p) (rows_of b.rows.now) pieces
  pub left : IsLeftOf (rows_of b.rows.now) b
  pub common : b.common ≤ length old
  pub fits : b.common ≤ length new
  pub same : drop (length old - b.common) old ≡ drop (length new - b.common) new

-- The first n rows are those of the text's pieces, after which names mean what is bound. The others were right in the old text, by the type table and the
-- numbers of that time. What names meant before them is related to what names mean now.
pub record IsFollowedTo (text : List ℕ) (n : ℕ) (ts : List Typ) (b : Bound) (AreRelated : (was now : Sight) → Type 0) (a : Analyst) : Type 0 where
  pub ended : List (List ℕ)
  pub last : List ℕ
  pub made_up : IsMadeUpOf text ended last
  pub done : List (List ℕ)
  pub left : List (List ℕ)
  pub parts : ended ++ last ∷ [] ≡ done ++ left
  pub counted : length done ≡ n
  pub end : a.end ≡ length (joined done)
  pub sight : Sight
  pub rows : AreRows outset done (rows_of (take n a.rows.items)) sight (types_in a.types) a.bound (dialect_in a.types)
  pub bound : IsBoundAs sight.names sight.types (types_in a.types) a.bound
  pub old_sight : Sight
  pub old_last : Sight
  pub old_rows : AreRows old_sight left (rows_of (drop n a.rows.items)) old_last ts b (dialect_in a.types)
  pub related : AreRelated old_sight sight
  pub old_numbers : HaveNumbers b
  pub keeps : Keeps ts (types_in a.types)
  pub numbers : KeepsNumbers b a.bound
