-- The name under the cursor.
use Rattle.std.specs.Prelude.{◌==◌, ℕ, List, Bool, ◌&&◌, not, Option, ltb}
use Rattle.std.specs.Option.{option_or}
use Rattle.std.specs.List.{find}
use Rattle.lam_token.specs.Edits.{is_name_kind}
use Rattle.lam_token.specs.Lexeme.{Lexeme, kind_of, start_of, end_of}

-- whether a token is a name or a type name that contains byte o
abbrev pub is_name_over : ℕ → Lexeme → Bool
is_name_over o t = is_name_kind (kind_of t) && (not (ltb o (start_of t)) && ltb o (end_of t))

-- whether a token is a name or a type name that ends at byte o
abbrev pub is_name_before : ℕ → Lexeme → Bool
is_name_before o t = is_name_kind (kind_of t) && (end_of t == o)

-- the name or type name that contains the byte at the cursor, or else the one that ends there
abbrev pub touched : ℕ → List Lexeme → Option Lexeme
touched o tokens = option_or (find (is_name_over o) tokens) (find (is_name_before o) tokens)
