-- How many bytes pieces have: the first of them, those behind, and one more.
use Rattle.std.proofs.Common.{◌≡◌, inl, inr, ◌<◌, ◌≤◌, ◌+◌, ℕ, zero, suc, List, [], ◌∷◌, ◌++◌, length, get_or, take, drop, take-append-drop, slice_get, Some, sym, ap, ◌∙◌, arith}
use Rattle.std.proofs.lemmas.List.{drop_more, drop-map, length-map}
use Rattle.lam_query.specs.declared.fronts.FrontRows.{FrontRows}
use Rattle.lam_query.specs.declared.rows.Row.{Row as RustRow}
use Rattle.lam_query.specs.inner.Fronts.{AreRowsWithin}
use Rattle.lam_query.specs.inner.Kept.{Row, row_of, rows_of, bytes_of}

pub bytes_append : (rows others : List Row) → bytes_of (rows ++ others) ≡ bytes_of rows + bytes_of others
bytes_append [] others = omega arith
bytes_append (r ∷ rows) others = omega (arith, bytes_append rows others)

-- pieces have the bytes of the first ones and of the others
pub bytes_split : (n : ℕ) (rows : List Row) → bytes_of rows ≡ bytes_of (take n rows) + bytes_of (drop n rows)
bytes_split n rows = ap bytes_of (sym (take-append-drop n rows)) ∙ bytes_append (take n rows) (drop n rows)

-- the others without the first of them have fewer bytes, by those of that one
pub bytes_fewer : (rows : List RustRow) (i : ℕ) (d : RustRow) → i < length rows
    → bytes_of (drop i (rows_of rows)) ≡ (get_or rows i d).end + bytes_of (drop (i + 1) (rows_of rows))
bytes_fewer rows i d lt =
    ap bytes_of (drop-map row_of i rows)
    ∙ ap (λ (rs : List RustRow). bytes_of (rows_of rs)) (drop_more rows i d lt)
    ∙ ap (λ rs. (get_or rows i d).end + bytes_of rs) (sym (drop-map row_of (i + 1) rows))

-- the first ones with one more have more bytes, by those of that one
pub bytes_more : (rows : List RustRow) (i : ℕ) (d : RustRow) → i < length rows
    → bytes_of (take (i + 1) (rows_of rows)) ≡ bytes_of (take i (rows_of rows)) + (get_or rows i d).end
bytes_more rows i d lt = omega (arith, bytes_split (i + 1) (rows_of rows), bytes_split i (rows_of rows), bytes_fewer rows i d lt)

-- one row more is within all
pub within_all : (rows : List RustRow) (i : ℕ) (d : RustRow) → i < length rows → bytes_of (take i (rows_of rows)) + (get_or rows i d).end ≤ bytes_of (rows_of rows)
within_all rows i d lt = omega (arith, bytes_more rows i d lt, bytes_split (i + 1) (rows_of rows))

-- ---- the row of an index

pub many : (rows : List RustRow) → length (rows_of rows) ≡ length rows
many rows = length-map rows row_of

row_ends : (rows : List RustRow) (i : ℕ) (d : RustRow) (r : Row) → slice_get (rows_of rows) i ≡ Some r → (get_or rows i d).end ≡ r.end
row_ends [] i d r is = absurd cc
row_ends (q ∷ rows) zero d r is = let same : row_of q ≡ r = cc in ap (λ (p : Row). p.end) same
row_ends (q ∷ rows) (suc i) d r is = row_ends rows i d r is

-- the next row is not within so many bytes
pub next_not_within : (bytes : ℕ) (front : FrontRows) (rows : List RustRow) (d : RustRow) → front.count < length rows
    → front.end ≡ bytes_of (take front.count (rows_of rows)) → front.end ≤ bytes → bytes < front.end + (get_or rows front.count d).end
    → AreRowsWithin bytes front (rows_of rows)
next_not_within bytes front rows d lt counted within over = record {
  not_last = inr (omega (arith, lt, many rows));
  counted = counted;
  within = within;
  no_more = λ r is. inl (omega (arith, over, row_ends rows front.count d r is));
}
