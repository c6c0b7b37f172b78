-- The row of the piece that has an offset.
use Rattle.std.proofs.Common.{◌≡◌, ◌⊎◌, ℕ, ◌+◌, ◌<◌, ◌≤◌, List, [], ◌∷◌, ◌++◌, length, take, drop, slice_range, get_or, sym, ap, subst, ◌∙◌, inl, inr, arith}
use Rattle.std.proofs.lemmas.List.{length-map, length-take-le, drop_all}
use Rattle.lam_rules.specs.Types.{Typ}
use Rattle.lam_rules.specs.declared.rules.Dialect.{Dialect}
use Rattle.lam_query.specs.declared.rows.Row.{Row as RustRow}
use Rattle.lam_query.specs.inner.Kept.{Row, row_of, rows_of, row_after, placed, bytes_of}
use Rattle.lam_query.specs.inner.Rows.{Front, nothing, front_with, IsRow, AreRowsFrom, IsRowAround}
use Rattle.lam_query.proofs.RowLists.{rows_split}
use Rattle.lam_query.proofs.RowPieces.{part_ends}
use Rattle.lam_query.proofs.RowsPlaced.{placed_append, as_many_placed, placed_ends, around_row, starts_there}

-- the offset is in front of the end of the row, or that is the last one
module _ (text : List ℕ) (offset : ℕ) (rows before : List Row) (r : Row) (after : List Row) (are : rows ≡ before ++ r ∷ after) (i start : ℕ)
    (counted : i ≡ length before) (starts : start ≡ bytes_of before) (passed : start ≤ offset) (ends : (offset < start + r.end) ⊎ (after ≡ []))
    (f : Front) (ts : List Typ) (d : Dialect) (all : AreRowsFrom text nothing (placed 0 rows) f ts d) (whole : f.end ≡ length text) where
  abbrev Before : List Row
  Before = placed 0 before

  abbrev There : Row
  There = row_after start r

  abbrev After : List Row
  After = placed (r.end + start) after

  parts : placed 0 rows ≡ Before ++ There ∷ After
  parts =
      let at : bytes_of before + 0 ≡ start = omega (arith, starts) in
      ap (placed 0) are ∙ placed_append 0 before (r ∷ after) ∙ ap (λ n. Before ++ placed n (r ∷ after)) at

  split : (mid : Front) × AreRowsFrom text nothing Before mid ts d × AreRowsFrom text mid (There ∷ After) f ts d
  split = rows_split text nothing Before (There ∷ After) f ts d (subst (λ rs. AreRowsFrom text nothing rs f ts d) parts all)

  here : IsRow text split.0 split.2.0 There ts d
  here = split.2.1

  at_its_start : start ≡ split.0.end
  at_its_start = omega (arith, starts, placed_ends text nothing before split.0 ts d split.1)

  begin_inside : split.0.end ≤ length text
  begin_inside = omega (arith, here.forward, here.inside)

  in_or_last : (offset < start + r.end) ⊎ (after ≡ [])
      → (offset < length (take split.0.end text) + length (slice_range text split.0.end There.end)) ⊎ (drop There.end text ≡ [])
  in_or_last (inl in_front) = inl (omega (arith, in_front, part_ends text split.0.end There.end here.forward here.inside))
  in_or_last (inr none) =
      let last : front_with split.0 split.2.0 ts There ≡ f =
      subst (λ rs. AreRowsFrom text (front_with split.0 split.2.0 ts There) (placed (r.end + start) rs) f ts d) none split.2.2 in
      inr (drop_all There.end text (omega (arith, ap (λ g. g.end) last, whole)))

  in_row_or_last : (offset < start + r.end) ⊎ (after ≡ []) → (offset < There.end) ⊎ (After ≡ [])
  in_row_or_last (inl in_front) = inl (omega (arith, in_front))
  in_row_or_last (inr none) = inr (ap (placed (r.end + start)) none)

  row_is_around : IsRowAround text offset (placed 0 rows) (record { start = start; number = i }) ts d
  row_is_around = record {
    before = Before;
    row = There;
    after = After;
    are = parts;
    counted = counted ∙ sym (as_many_placed 0 before);
    front = split.0;
    rows_before = split.1;
    starts = at_its_start;
    own = split.2.0;
    is_row = here;
    is_there = record {
      from_its_start = omega (arith, length-take-le split.0.end text begin_inside, at_its_start, passed);
      to_its_end = in_or_last ends;
    };
    in_or_last = in_row_or_last ends;
  }

-- so the row around the offset is the one with this number
pub row_around : (text : List ℕ) (offset : ℕ) (rows : List RustRow) (i : ℕ) (e : RustRow) (start : ℕ) → i < length rows
    → start + bytes_of (rows_of (drop i rows)) ≡ bytes_of (rows_of rows) → start ≤ offset
    → (offset < start + (get_or rows i e).end) ⊎ (i + 1 ≡ length rows)
    → (f : Front) (ts : List Typ) (d : Dialect) → AreRowsFrom text nothing (placed 0 (rows_of rows)) f ts d → f.end ≡ length text
    → IsRowAround text offset (placed 0 (rows_of rows)) (record { start = start; number = i }) ts d
row_around text offset rows i e start lt counted passed ends f ts d all whole =
    row_is_around text offset (rows_of rows) (rows_of (take i rows)) (row_of (get_or rows i e)) (rows_of (drop (i + 1) rows)) (around_row rows i e lt) i start
    (omega (arith, lt, length-take-le i rows (omega (arith, lt)), length-map (take i rows) row_of)) (starts_there rows i e lt start counted) passed (by ends)
    f ts d all whole
  where
    by : (offset < start + (get_or rows i e).end) ⊎ (i + 1 ≡ length rows) → (offset < start + (get_or rows i e).end) ⊎ (rows_of (drop (i + 1) rows) ≡ [])
    by (inl in_front) = inl in_front
    by (inr last) = inr (ap rows_of (drop_all (i + 1) rows (omega (arith, last))))
