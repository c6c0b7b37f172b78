-- Where the first type that is too large is, sought row after row.
use Rattle.std.proofs.Common.{◌≡◌, ℕ, ◌+◌, ◌<◌, List, drop, length, get_or, ◌∷◌, Option, Some, None, refl, sym, ap, ◌∙◌, arith}
use Rattle.std.specs.Option.{option_map, option_or}
use Rattle.lam_token.specs.declared.span.Span.{Span}
use Rattle.lam_query.specs.declared.rows.Row.{Row as RustRow}
use Rattle.lam_query.specs.inner.Kept.{Found, written_too_large, term_too_large, typed, CommandRow, row_of, rows_of, found_in, large_written_type, large_term, first_in, span_after, place_after, found_after, command_row_after, row_after, placed}
use Rattle.lam_query.proofs.RowsPlaced.{next_row}

or_or : (a b c : Option Span) → option_or a (option_or b c) ≡ option_or (option_or a b) c
or_or None b c = refl
or_or (Some s) b c = refl

-- ---- of a row that is placed

abbrev IsPlaced : (Option Found → Option Span) → Type 0
IsPlaced f = (n : ℕ) (o : Option Found) → f (option_map (found_after n) o) ≡ option_map (span_after n) (f o)

pub written_placed : IsPlaced large_written_type
written_placed n None = refl
written_placed n (Some (written_too_large s)) = refl
written_placed n (Some (term_too_large s)) = refl
written_placed n (Some (typed t)) = refl

pub term_placed : IsPlaced large_term
term_placed n None = refl
term_placed n (Some (written_too_large s)) = refl
term_placed n (Some (term_too_large s)) = refl
term_placed n (Some (typed t)) = refl

-- what was found of its command
pub found_placed : (n : ℕ) (o : Option CommandRow)
    → option_map (λ k. k.found) (option_map (command_row_after n) o) ≡ option_map (found_after n) (option_map (λ k. k.found) o)
found_placed n None = refl
found_placed n (Some k) = refl

-- ---- the next row

pub next_first : (f : Option Found → Option Span) → IsPlaced f → (rows : List RustRow) (i : ℕ) (r : RustRow) → r ≡ get_or rows i r → i < length rows
    → (start : ℕ) (first more : Option (ℕ × Span)) (all : Option Span)
    → option_map place_after more ≡ option_or (option_map place_after first) (option_map (span_after start) (f (found_in (row_of r))))
    → option_or (option_map place_after first) (first_in f (placed start (rows_of (drop i rows)))) ≡ all
    → option_or (option_map place_after more) (first_in f (placed (start + r.end) (rows_of (drop (i + 1) rows)))) ≡ all
next_first f is_placed rows i r is lt start first more all found so_far =
    let others = first_in f (placed (start + r.end) (rows_of (drop (i + 1) rows))) in
    let here : f (found_in (row_after start (row_of r))) ≡ option_map (span_after start) (f (found_in (row_of r))) =
    ap f (found_placed start (row_of r).command) ∙ is_placed start (found_in (row_of r)) in
    let end : r.end + start ≡ start + r.end = omega arith in
    let left : first_in f (placed start (rows_of (drop i rows))) ≡ option_or (option_map (span_after start) (f (found_in (row_of r)))) others =
    ap (λ rs. first_in f (placed start rs)) (next_row rows i r lt)
    ∙ ap (λ (q : RustRow). first_in f (placed start (row_of q ∷ rows_of (drop (i + 1) rows)))) (sym is)
    ∙ ap (λ o. option_or o (first_in f (placed (r.end + start) (rows_of (drop (i + 1) rows))))) here
    ∙ ap (λ n. option_or (option_map (span_after start) (f (found_in (row_of r)))) (first_in f (placed n (rows_of (drop (i + 1) rows))))) end in
    ap (λ o. option_or o others) found
    ∙ sym (or_or (option_map place_after first) (option_map (span_after start) (f (found_in (row_of r)))) others)
    ∙ ap (option_or (option_map place_after first)) (sym left)
    ∙ so_far
