-- The touched name while the tokens of a text are passed, one after another.
use Rattle.std.proofs.Common.{◌≡◌, ℕ, List, [], ◌∷◌, Bool, true, false, not, Option, Some, None, if◌then◌else◌, refl, sym, ap, ◌∙◌}
use Rattle.std.specs.Option.{option_map, option_or, is_some}
use Rattle.std.specs.List.{find}
use Rattle.lam_token.specs.Lexeme.{Lexeme, start_of}
use Rattle.lam_query.specs.Touched.{is_name_over, is_name_before, touched}

-- the byte at which the touched name begins, where these tokens are left and a name before them that ends at the byte begins at `before`
abbrev pub touched_from : (before : Option ℕ) → ℕ → List Lexeme → Option ℕ
touched_from before o left = option_or (option_map start_of (find (is_name_over o) left)) (option_or before (option_map start_of (find (is_name_before o) left)))

start_or : (a b : Option Lexeme) → option_map start_of (option_or a b) ≡ option_or (option_map start_of a) (option_or None (option_map start_of b))
start_or None b = refl
start_or (Some t) b = refl

-- what is found of all tokens is what is touched
pub touched_told : (o : ℕ) (all : List Lexeme) (found : Option ℕ) → touched_from None o all ≡ found → found ≡ option_map start_of (touched o all)
touched_told o all found is = sym is ∙ sym (start_or (find (is_name_over o) all) (find (is_name_before o) all))

-- a name that has the byte
pub over_passed : (before : Option ℕ) (o : ℕ) (t : Lexeme) (tokens left : List Lexeme) → tokens ≡ t ∷ left → is_name_over o t ≡ true → touched_from before o tokens ≡ Some (start_of t)
over_passed before o t tokens left first over = rw (first, over) refl

-- another token

first_before : (b : Bool) (t : Lexeme) (rest : Option Lexeme) → option_map start_of (if b then Some t else rest) ≡ option_or (if b then Some (start_of t) else None) (option_map start_of rest)
first_before true t rest = refl
first_before false t rest = refl

-- what ends at the byte and was passed with this token
abbrev pub IsPassed : (before next : Option ℕ) → ℕ → Lexeme → Type 0
IsPassed None next o t = next ≡ (if is_name_before o t then Some (start_of t) else None)
IsPassed (Some s) next o t = next ≡ Some s

passed_before : (before next : Option ℕ) (o : ℕ) (t : Lexeme) (left : List Lexeme) → IsPassed before next o t
    → option_or before (option_map start_of (find (is_name_before o) (t ∷ left))) ≡ option_or next (option_map start_of (find (is_name_before o) left))
passed_before None next o t left is = first_before (is_name_before o t) t (find (is_name_before o) left) ∙ ap (λ n. option_or n (option_map start_of (find (is_name_before o) left))) (sym is)
passed_before (Some s) next o t left is = ap (λ n. option_or n (option_map start_of (find (is_name_before o) left))) (sym is)

pub other_passed : (before next : Option ℕ) (o : ℕ) (t : Lexeme) (tokens left : List Lexeme) → tokens ≡ t ∷ left → is_name_over o t ≡ false → IsPassed before next o t → touched_from before o tokens ≡ touched_from next o left
other_passed before next o t tokens left first over is =
    rw (first, over) (ap (option_or (option_map start_of (find (is_name_over o) left))) (passed_before before next o t left is))

pub first_passed : (before next : Option ℕ) (o : ℕ) (t : Lexeme) (none : Bool) → is_some before ≡ not none → none ≡ true → next ≡ (if is_name_before o t then Some (start_of t) else None) → IsPassed before next o t
first_passed None next o t none is_none empty is = is
first_passed (Some s) next o t none is_none empty is = absurd (let clash : true ≡ not true = is_none ∙ ap not empty in cc)

pub later_passed : (before next : Option ℕ) (o : ℕ) (t : Lexeme) (none : Bool) → is_some before ≡ not none → none ≡ false → next ≡ before → IsPassed before next o t
later_passed None next o t none is_none full is = absurd (let clash : false ≡ not false = is_none ∙ ap not full in cc)
later_passed (Some s) next o t none is_none full is = is

-- no token is left
pub all_passed : (before : Option ℕ) (o : ℕ) (tokens : List Lexeme) → tokens ≡ [] → touched_from before o tokens ≡ before
all_passed None o tokens none = rw none refl
all_passed (Some s) o tokens none = rw none refl
