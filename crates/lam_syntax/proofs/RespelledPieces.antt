-- Tokens changed to others of their kinds are divided into the same pieces, and are too many or bad exactly if they were before.
use Rattle.std.proofs.Common.{◌≡◌, ◌↔◌, ℕ, ◌≤◌, Bool, true, false, ◌||◌, if◌then◌else◌, List, [], ◌∷◌, map, filter, refl, sym, ap, ◌∙◌, subst}
use Rattle.std.proofs.lemmas.List.{length-map}
use Rattle.lam_token.specs.Lexeme.{Lexeme, lexeme, kind_of}
use Rattle.lam_token.specs.Edits.{respelled}
use Rattle.lam_syntax.specs.Answers.{token_limit, is_bad, has_bad, IsLexed, ends_piece, onto_first, runs_of, has_tokens, pieces_of}
use Rattle.lam_syntax.specs.Respelled.{Letters}

module _ (change : Lexeme → Lexeme) (same_kind : (t : Lexeme) → kind_of (change t) ≡ kind_of t) where
  -- a changed token joins the first of the changed runs
  onto_first_changed : (t : Lexeme) (runs : List (List Lexeme)) → onto_first (change t) (map (map change) runs) ≡ map (map change) (onto_first t runs)
  onto_first_changed t [] = refl
  onto_first_changed t (run ∷ runs) = refl

  -- the changed token divides the changed runs as the token divided the runs, whether it ends a piece or not
  divided_changed : (ends : Bool) (t : Lexeme) (runs : List (List Lexeme))
      → (if ends then [] ∷ map (map change) runs else onto_first (change t) (map (map change) runs)) ≡ map (map change) (if ends then [] ∷ runs else onto_first t runs)
  divided_changed true t runs = refl
  divided_changed false t runs = onto_first_changed t runs

  -- the runs between the semicolons are changed token by token
  runs_changed : (ts : List Lexeme) → runs_of (map change ts) ≡ map (map change) (runs_of ts)
  runs_changed [] = refl
  runs_changed (t ∷ ts) =
      ap (λ kind. if ends_piece kind then [] ∷ runs_of (map change ts) else onto_first (change t) (runs_of (map change ts))) (same_kind t)
      ∙ ap (λ runs. if ends_piece (kind_of t) then [] ∷ runs else onto_first (change t) runs) (runs_changed ts)
      ∙ divided_changed (ends_piece (kind_of t)) t (runs_of ts)

  -- a changed run is empty exactly if the run was
  filled_changed : (runs : List (List Lexeme)) → filter has_tokens (map (map change) runs) ≡ map (map change) (filter has_tokens runs)
  filled_changed [] = refl
  filled_changed ([] ∷ runs) = filled_changed runs
  filled_changed ((t ∷ run) ∷ runs) = ap (λ rest. map change (t ∷ run) ∷ rest) (filled_changed runs)

  -- so the pieces are changed token by token
  pieces_changed : (ts : List Lexeme) → pieces_of (map change ts) ≡ map (map change) (pieces_of ts)
  pieces_changed ts = ap (filter has_tokens) (runs_changed ts) ∙ filled_changed (runs_of ts)

  -- a bad token stays bad, and no other becomes bad
  bad_changed : (ts : List Lexeme) → has_bad (map change ts) ≡ has_bad ts
  bad_changed [] = refl
  bad_changed (t ∷ ts) = ap (λ kind. is_bad kind || has_bad (map change ts)) (same_kind t) ∙ ap (λ bad. is_bad (kind_of t) || bad) (bad_changed ts)

  -- the grammar decides on the changed tokens exactly if it decides on the tokens before
  taken_changed : (ts : List Lexeme) → IsLexed (map change ts) ↔ IsLexed ts
  taken_changed ts = (
    λ taken. record { few = subst (λ n. n ≤ token_limit) (length-map ts change) taken.few; none_bad = sym (bad_changed ts) ∙ taken.none_bad },
    λ taken. record { few = subst (λ n. n ≤ token_limit) (sym (length-map ts change)) taken.few; none_bad = bad_changed ts ∙ taken.none_bad },
  )

-- a token that is respelled keeps its kind
kind_respelled : (place : ℕ → ℕ) (letters : Letters) (t : Lexeme) → kind_of (respelled place letters t) ≡ kind_of t
kind_respelled place letters (lexeme k x s) = refl

-- tokens that are respelled fall into the same pieces
pub pieces_respelled : (place : ℕ → ℕ) (letters : Letters) (ts : List Lexeme) → pieces_of (map (respelled place letters) ts) ≡ map (map (respelled place letters)) (pieces_of ts)
pieces_respelled place letters ts = pieces_changed (respelled place letters) (kind_respelled place letters) ts

-- they are too many or bad exactly if they were before
pub taken_respelled : (place : ℕ → ℕ) (letters : Letters) (ts : List Lexeme) → IsLexed (map (respelled place letters) ts) ↔ IsLexed ts
taken_respelled place letters ts = taken_changed (respelled place letters) (kind_respelled place letters) ts
