-- Rows placed in a text: cut in two, as many as before, and where they end; and the next of those that are left.
use Rattle.std.proofs.Common.{◌≡◌, ℕ, ◌+◌, ◌<◌, suc, List, [], ◌∷◌, ◌++◌, length, take, drop, get_or, refl, sym, ap, ◌∙◌, arith}
use Rattle.std.proofs.lemmas.List.{drop_more, map-append, take-append-drop}
use Rattle.lam_rules.specs.Types.{Typ}
use Rattle.lam_rules.specs.declared.rules.Dialect.{Dialect}
use Rattle.lam_query.specs.declared.rows.Row.{Row as RustRow}
use Rattle.lam_query.specs.inner.Kept.{Row, row_of, rows_of, row_after, placed, bytes_of}
use Rattle.lam_query.specs.inner.Rows.{Front, front_with, AreRowsFrom}
use Rattle.lam_query.proofs.RowBytes.{bytes_append}

pub placed_append : (n : ℕ) (rows others : List Row) → placed n (rows ++ others) ≡ placed n rows ++ placed (bytes_of rows + n) others
placed_append n [] others = ap (λ m. placed m others) (omega arith)
placed_append n (r ∷ rows) others =
    let end : bytes_of rows + (r.end + n) ≡ (r.end + bytes_of rows) + n = omega arith in
    ap (λ rs. row_after n r ∷ rs) (placed_append (r.end + n) rows others ∙ ap (λ m. placed (r.end + n) rows ++ placed m others) end)

pub as_many_placed : (n : ℕ) (rows : List Row) → length (placed n rows) ≡ length rows
as_many_placed n [] = refl
as_many_placed n (r ∷ rows) = ap suc (as_many_placed (r.end + n) rows)

pub placed_ends : (text : List ℕ) (f : Front) (rows : List Row) (last : Front) (ts : List Typ) (d : Dialect) → AreRowsFrom text f (placed f.end rows) last ts d
    → last.end ≡ bytes_of rows + f.end
placed_ends text f [] last ts d are = omega (arith, ap (λ g. g.end) are)
placed_ends text f (r ∷ rows) last ts d are =
    let rest = placed_ends text (front_with f are.0 ts (row_after f.end r)) rows last ts d are.2 in
    omega (arith, rest)

-- ---- one of the rows

module _ (rows : List RustRow) (i : ℕ) (e : RustRow) (lt : i < length rows) where
  pub next_row : rows_of (drop i rows) ≡ row_of (get_or rows i e) ∷ rows_of (drop (i + 1) rows)
  next_row = ap rows_of (drop_more rows i e lt)

  pub around_row : rows_of rows ≡ rows_of (take i rows) ++ row_of (get_or rows i e) ∷ rows_of (drop (i + 1) rows)
  around_row = ap rows_of (sym (take-append-drop i rows)) ∙ map-append row_of (take i rows) (drop i rows) ∙ ap (λ rs. rows_of (take i rows) ++ rs) next_row

  -- bytes that were counted so far, and those of this row
  module _ (start : ℕ) (counted : start + bytes_of (rows_of (drop i rows)) ≡ bytes_of (rows_of rows)) where
    pub next_counted : (start + (get_or rows i e).end) + bytes_of (rows_of (drop (i + 1) rows)) ≡ bytes_of (rows_of rows)
    next_counted = omega (arith, counted, ap bytes_of next_row)

    pub starts_there : start ≡ bytes_of (rows_of (take i rows))
    starts_there = omega (
      arith,
      counted,
      ap bytes_of next_row,
      ap bytes_of around_row,
      bytes_append (rows_of (take i rows)) (row_of (get_or rows i e) ∷ rows_of (drop (i + 1) rows)),
    )
