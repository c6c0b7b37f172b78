-- The message beside a code, from one row of a table on.
use Rattle.std.proofs.Common.{◌≡◌, ℕ, ◌+◌, ◌<◌, true, false, cond, List, ◌∷◌, length, drop, map, get_or, drop-cons, add-one, Bor, sym, ap, ◌∙◌}
use Rattle.std.specs.Str.{bytes_eq}
use Rattle.lam_session.specs.Diagnostics.{message_beside}

abbrev Row : Type 0
Row = Bor (List ℕ) × Bor (List ℕ)

-- the message beside the code, from this row on
abbrev beside_from : List ℕ → List Row → List ℕ
beside_from code rows = message_beside code (map (λ m. (m.0.now, m.1.now)) rows)

first_row : (code : List ℕ) (rows : List Row) (i : ℕ) (d : Row) → i < length rows
    → beside_from code (drop i rows) ≡ cond (bytes_eq code (get_or rows i d).0.now) (get_or rows i d).1.now (beside_from code (drop (i + 1) rows))
first_row code rows i d inside = ap (beside_from code) (drop-cons rows i d inside ∙ ap (λ n. get_or rows i d ∷ drop n rows) (sym (add-one i)))

pub row_found : (code : List ℕ) (rows : List Row) (i : ℕ) (d : Row) → i < length rows → bytes_eq code (get_or rows i d).0.now ≡ true → beside_from code (drop i rows) ≡ (get_or rows i d).1.now
row_found code rows i d inside is = first_row code rows i d inside ∙ ap (λ b. cond b (get_or rows i d).1.now (beside_from code (drop (i + 1) rows))) is

pub row_passed : (code : List ℕ) (rows : List Row) (i : ℕ) (d : Row) → i < length rows → bytes_eq code (get_or rows i d).0.now ≡ false → beside_from code (drop i rows) ≡ beside_from code (drop (i + 1) rows)
row_passed code rows i d inside is = first_row code rows i d inside ∙ ap (λ b. cond b (get_or rows i d).1.now (beside_from code (drop (i + 1) rows))) is
