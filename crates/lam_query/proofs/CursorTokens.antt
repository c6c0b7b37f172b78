-- The dot before the cursor and the word that it touches while the tokens of a text are passed, one after another.
use Rattle.std.proofs.Common.{◌≡◌, ℕ, ◌+◌, ◌<◌, List, [], ◌∷◌, Bool, true, false, cond, Option, Some, None, IfSome, if◌then◌else◌, refl, sym, ap, ◌∙◌}
use Rattle.std.specs.Prelude.{filter}
use Rattle.std.specs.Option.{option_map, option_and_then}
use Rattle.std.specs.List.{list_any, last_or}
use Rattle.lam_token.specs.declared.kind.Kind.TheVariants as kind
use Rattle.lam_token.specs.Lexeme.{Lexeme, lexeme, start_of}
use Rattle.lam_query.specs.Completions.{is_touched, is_around, is_in_front, touched_word, if_dot, dot_before}

-- the byte of the last of the tokens, if it is a dot; where there are none, that of the one before them
abbrev last_dot : (before : Option ℕ) → List Lexeme → Option ℕ
last_dot before [] = before
last_dot before (t ∷ ts) = last_dot (option_map start_of (if_dot t)) ts

-- the byte of the dot before the cursor, where these tokens are left and the last one in front of the cursor that was passed, if it was a dot, begins at `before`
abbrev pub dot_from : (before : Option ℕ) → ℕ → List Lexeme → Option ℕ
dot_from before o left = if list_any (is_around o) left then None else last_dot before (filter (is_in_front o) left)

last_dot_told : (before : Option Lexeme) (ts : List Lexeme) → last_dot (option_map start_of (option_and_then if_dot before)) ts ≡ option_map start_of (option_and_then if_dot (last_or before ts))
last_dot_told before [] = refl
last_dot_told before (t ∷ ts) = last_dot_told (Some t) ts

-- what is found of all tokens is the dot before the cursor
pub dot_told : (o : ℕ) (all : List Lexeme) (found : Option ℕ) → dot_from None o all ≡ found → found ≡ option_map start_of (dot_before o all)
dot_told o all found is = sym is ∙ by (list_any (is_around o) all) (filter (is_in_front o) all)
  where
    by : (b : Bool) (ts : List Lexeme) → (if b then None else last_dot None ts) ≡ option_map start_of (if b then None else option_and_then if_dot (last_or None ts))
    by true ts = refl
    by false ts = last_dot_told None ts

-- a token around the cursor
pub around_passed : (before : Option ℕ) (o : ℕ) (t : Lexeme) (tokens left : List Lexeme) → tokens ≡ t ∷ left → is_around o t ≡ true → dot_from before o tokens ≡ None
around_passed before o t tokens left first around = rw (first, around) refl

-- another token: its byte, if it is a dot in front of the cursor
abbrev pub dot_behind : (before : Option ℕ) → ℕ → Lexeme → Option ℕ
dot_behind before o t = if is_in_front o t then option_map start_of (if_dot t) else before

front_or : (b : Bool) (before : Option ℕ) (t : Lexeme) (ts : List Lexeme) → last_dot before (cond b (t ∷ ts) ts) ≡ last_dot (if b then option_map start_of (if_dot t) else before) ts
front_or true before t ts = refl
front_or false before t ts = refl

pub other_passed : (before next : Option ℕ) (o : ℕ) (t : Lexeme) (tokens left : List Lexeme) → tokens ≡ t ∷ left → is_around o t ≡ false → next ≡ dot_behind before o t → dot_from before o tokens ≡ dot_from next o left
other_passed before next o t tokens left first other is =
    rw (first, other, is) (ap (λ found. if list_any (is_around o) left then None else found) (front_or (is_in_front o t) before t (filter (is_in_front o) left)))

pub next_there : (before next : Option ℕ) (o : ℕ) (t : Lexeme) → is_in_front o t ≡ true → next ≡ option_map start_of (if_dot t) → next ≡ dot_behind before o t
next_there before next o t front is = rw front is

pub next_kept : (before next : Option ℕ) (o : ℕ) (t : Lexeme) → is_in_front o t ≡ false → next ≡ before → next ≡ dot_behind before o t
next_kept before next o t front is = rw front is

-- the byte behind the dot
pub dot_fits : (t : Lexeme) (limit : ℕ) → start_of t + 1 < limit → IfSome (option_map start_of (if_dot t)) (λ start. start + 1 < limit)
dot_fits (lexeme kind.Dot x s) limit fits = fits
dot_fits t limit fits = tt

-- no token is left
pub all_passed : (before : Option ℕ) (o : ℕ) (tokens : List Lexeme) → tokens ≡ [] → dot_from before o tokens ≡ before
all_passed before o tokens none = rw none refl

-- the word that the cursor touches

pub touched_here : (o : ℕ) (t : Lexeme) (tokens left : List Lexeme) → tokens ≡ t ∷ left → is_touched o t ≡ true → touched_word o tokens ≡ Some t
touched_here o t tokens left first is = rw (first, is) refl

pub touched_later : (o : ℕ) (t : Lexeme) (tokens left : List Lexeme) → tokens ≡ t ∷ left → is_touched o t ≡ false → touched_word o tokens ≡ touched_word o left
touched_later o t tokens left first is = rw (first, is) refl

pub none_touched : (o : ℕ) (tokens : List Lexeme) → tokens ≡ [] → touched_word o tokens ≡ None
none_touched o tokens none = rw none refl
