-- The keywords of the language, and how other words are classified.
use Rattle.std.specs.Prelude.{ℕ, Bool, ◌&&◌, nat_le, if◌then◌else◌, Option, Some, None, List, [], ◌∷◌, codes}
use Rattle.std.specs.Option.{unwrap_or}
use Rattle.std.specs.Str.{bytes_eq}
use Rattle.lam_token.specs.declared.kind.Kind.{Kind}
use Rattle.lam_token.specs.declared.kind.Kind.TheVariants.{Name, TypeName, Lambda, If, Then, Else, Let, Letrec, In, Fix, Succ, Pred, IsZero, True, False, UnitTerm, As, BoolType, NatType, UnitType, TopType}

-- the keywords of the language, as the bytes of their texts
unfoldable pub words : List (List ℕ × Kind)
words =
    (codes "lambda", Lambda) ∷ (codes "if", If) ∷ (codes "then", Then) ∷ (codes "else", Else)
    ∷ (codes "let", Let) ∷ (codes "letrec", Letrec) ∷ (codes "in", In)
    ∷ (codes "fix", Fix) ∷ (codes "succ", Succ) ∷ (codes "pred", Pred) ∷ (codes "iszero", IsZero)
    ∷ (codes "true", True) ∷ (codes "false", False) ∷ (codes "unit", UnitTerm) ∷ (codes "as", As)
    ∷ (codes "Bool", BoolType) ∷ (codes "Nat", NatType) ∷ (codes "Unit", UnitType) ∷ (codes "Top", TopType) ∷ []

-- the kind of a text that is one of these words, or None
abbrev pub kind_among : List (List ℕ × Kind) → List ℕ → Option Kind
kind_among [] text = None
kind_among (w ∷ ws) text = if bytes_eq text w.0 then Some w.1 else kind_among ws text

-- A to Z
unfoldable pub is_capital : ℕ → Bool
is_capital c = nat_le 65 c && nat_le c 90

-- the kind of a word that is not a keyword, by its first character
abbrev pub kind_of_name : (first : ℕ) → Kind
kind_of_name first = if is_capital first then TypeName else Name

-- the kind of a word, given as the bytes of its text: a keyword, or else a name or type name
unfoldable pub word_kind : (first : ℕ) → List ℕ → Kind
word_kind first word = unwrap_or (kind_among words word) (kind_of_name first)
