-- The results of `parse` and `pieces`.
use Rattle.std.specs.Prelude.{◌≡◌, ℕ, ◌+◌, ◌<◌, ◌≤◌, Bool, true, false, List, [], ◌∷◌, length, take, filter, if◌then◌else◌}
use Rattle.std.specs.List.{list_any}
use Rattle.lam_token.specs.declared.kind.Kind.{Kind}
use Rattle.lam_token.specs.declared.kind.Kind.TheVariants as kind
use Rattle.lam_token.specs.Lexeme.{Lexeme, kind_of}
use Rattle.lam_syntax.specs.declared.fault.ParseFault.{ParseFault}
use Rattle.lam_syntax.specs.declared.fault.ParseFault.TheVariants as faults
use Rattle.lam_syntax.specs.Trees.{CommandTree}
use Rattle.lam_syntax.specs.Grammar.{Spells, Begins}

-- the maximum number of tokens in a command
abbrev pub token_limit : ℕ
token_limit = 2000

-- the kinds of tokens that are not lexemes
abbrev pub is_bad : Kind → Bool
is_bad kind.BadCharacter = true
is_bad kind.BadComment = true
is_bad k = false

-- some token is not a lexeme
abbrev pub has_bad : List Lexeme → Bool
has_bad ts = list_any (λ t. is_bad (kind_of t)) ts

-- there are not too many tokens and none is bad, so the grammar decides
pub record IsLexed (ts : List Lexeme) : Type 0 where
  pub few : length ts ≤ token_limit
  pub none_bad : has_bad ts ≡ false

-- the token at this index does not fit: some command starts with the tokens before it, but none starts with it included
pub record GoesWrongAt (ts : List Lexeme) (k : ℕ) : Type 0 where
  pub inside : k < length ts
  pub before : Begins (take k ts)
  pub through : Begins (take (k + 1) ts) → ⊥

-- some command starts with these tokens, but they are not a command themselves
pub record EndsEarly (ts : List Lexeme) : Type 0 where
  pub begins : Begins ts
  pub none : (c : CommandTree) → Spells ts c → ⊥

-- what each error says about the tokens
abbrev pub IsFaultOf : List Lexeme → ParseFault → Type 0
IsFaultOf ts faults.TooManyTokens = token_limit < length ts
IsFaultOf ts faults.BadToken = (length ts ≤ token_limit) × (has_bad ts ≡ true)
IsFaultOf ts (faults.WrongToken k) = IsLexed ts × GoesWrongAt ts k
IsFaultOf ts faults.WrongEnd = IsLexed ts × EndsEarly ts
IsFaultOf ts faults.Memory = IsLexed ts

-- Tokens are divided at each semicolon, and the pieces are the nonempty parts.

-- the kind of token that ends a piece
abbrev pub ends_piece : Kind → Bool
ends_piece kind.Semicolon = true
ends_piece k = false

-- the token ends a piece
abbrev pub is_semicolon : Lexeme → Bool
is_semicolon t = ends_piece (kind_of t)

-- add a token to the start of the first run
abbrev pub onto_first : Lexeme → List (List Lexeme) → List (List Lexeme)
onto_first t [] = (t ∷ []) ∷ []
onto_first t (run ∷ runs) = (t ∷ run) ∷ runs

-- the runs of tokens between semicolons, including empty ones
abbrev pub runs_of : List Lexeme → List (List Lexeme)
runs_of [] = [] ∷ []
runs_of (t ∷ ts) = if is_semicolon t then [] ∷ runs_of ts else onto_first t (runs_of ts)

-- the run is not empty
abbrev pub has_tokens : List Lexeme → Bool
has_tokens [] = false
has_tokens (t ∷ ts) = true

-- the pieces, in order
abbrev pub pieces_of : List Lexeme → List (List Lexeme)
pieces_of ts = filter has_tokens (runs_of ts)
