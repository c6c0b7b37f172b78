-- A text that is divided after a semicolon.
use Rattle.std.specs.Prelude.{◌≡◌, ℕ, List, [], ◌∷◌, ◌++◌, length, take, drop}
use Rattle.std.specs.Str.{IsUtf8}
use Rattle.lam_token.specs.declared.kind.Kind.TheVariants.{Semicolon}
use Rattle.lam_token.specs.Lexeme.{Lexeme, kind_of, end_of}
use Rattle.lam_token.specs.Cut.{AreTokensFrom, AreTokensOf}

-- the last of these tokens is a semicolon, and ends at this byte offset
abbrev pub SemicolonEndsAt : (end : ℕ) → List Lexeme → Type 0
SemicolonEndsAt end [] = ⊥
SemicolonEndsAt end (t ∷ []) = (kind_of t ≡ Semicolon) × (end_of t ≡ end)
SemicolonEndsAt end (t ∷ u ∷ ts) = SemicolonEndsAt end (u ∷ ts)

-- the last of the tokens of a text is a semicolon, and ends where the text ends
abbrev pub EndsInSemicolon : (front : List ℕ) → List Lexeme → Type 0
EndsInSemicolon front tokens = SemicolonEndsAt (length front) tokens

-- A text is divided after this semicolon into a prefix and a rest: the tokens up to and including it are those of the prefix, and the others are those of the rest.
pub record IsDividedAfter (text : List ℕ) (before : List Lexeme) (t : Lexeme) (behind : List Lexeme) : Type 0 where
  pub is_front : IsUtf8 (take (end_of t) text)
  pub are_front : AreTokensOf (take (end_of t) text) (before ++ (t ∷ []))
  pub ends : EndsInSemicolon (take (end_of t) text) (before ++ (t ∷ []))
  pub are_rest : AreTokensFrom (end_of t) (drop (end_of t) text) behind
