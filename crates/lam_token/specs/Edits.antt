-- Tokens with other spellings, and a text in which some names are replaced by a new one.
use Rattle.std.specs.Prelude.{◌≡◌, ◌⊎◌, ℕ, ◌+◌, ◌-◌, ◌≤◌, ◌==◌, Bool, true, false, ◌&&◌, nat_le, if◌then◌else◌, List, [], ◌∷◌, ◌++◌, length, take, drop, Contains, Some}
use Rattle.std.specs.List.{list_any}
use Rattle.std.specs.Str.{chars, IsUtf8}
use Rattle.lam_token.specs.declared.kind.Kind.{Kind}
use Rattle.lam_token.specs.declared.kind.Kind.TheVariants.{Name, TypeName}
use Rattle.lam_token.specs.declared.segment.Segment.TheVariants.{Token}
use Rattle.lam_token.specs.declared.span.Span.{Span}
use Rattle.lam_token.specs.Lexeme.{Lexeme, lexeme, kind_of, span_of}
use Rattle.lam_token.specs.Shape.{shape_of}
use Rattle.lam_token.specs.Cut.{AreTokensOf}

-- Tokens with other spellings and other spans.

-- a span whose ends are mapped to other offsets
abbrev pub span_placed : (place : ℕ → ℕ) → Span → Span
span_placed place s = record { start = place s.start; end = place s.end }

-- a token of the same kind with a mapped span, and a spelling that depends on its kind, its old spelling and its old span
abbrev pub respelled : (place : ℕ → ℕ) → (letters : Kind → List ℕ → Span → List ℕ) → Lexeme → Lexeme
respelled place letters (lexeme k x s) = lexeme k (letters k x s) (span_placed place s)

-- Replacing some of the tokens of a text by a new name.

-- whether two spans are equal
abbrev pub is_span : Span → Span → Bool
is_span s t = (s.start == t.start) && (s.end == t.end)

-- whether a span is in the list
abbrev pub among : List Span → Span → Bool
among spans s = list_any (is_span s) spans

-- the text with each span replaced by the new name, from the last span to the first
abbrev pub edited : List ℕ → List Span → (new : List ℕ) → List ℕ
edited text [] new = text
edited text (s ∷ spans) new = let later = edited text spans new in take s.start later ++ new ++ drop s.end later

-- where a byte offset outside the spans lies in the edited text: it shifts by the change in length of each span that ends at or before it
abbrev pub moved : List Span → (new : List ℕ) → ℕ → ℕ
moved [] new o = o
moved (s ∷ spans) new o = if nat_le s.end o then (moved spans new o + length new) - (s.end - s.start) else moved spans new o

-- whether tokens of this kind are names or type names
abbrev pub is_name_kind : Kind → Bool
is_name_kind Name = true
is_name_kind TypeName = true
is_name_kind _ = false

-- the new name at these spans if the token is a name or type name, and its old spelling elsewhere
abbrev pub renaming : List Span → (new : List ℕ) → Kind → List ℕ → Span → List ℕ
renaming spans new kind text s = if is_name_kind kind && among spans s then new else text

-- a token as it is in the edited text
abbrev pub retold : List Span → (new : List ℕ) → Lexeme → Lexeme
retold spans new t = respelled (moved spans new) (renaming spans new) t

-- the kind is that of names or that of type names
abbrev pub IsNameKind : Kind → Type 0
IsNameKind kind = (kind ≡ Name) ⊎ (kind ≡ TypeName)

-- the text is a single token of this kind
abbrev pub IsOne : Kind → List ℕ → Type 0
IsOne kind text = shape_of (chars text) ≡ Some (Token kind)

-- the spans are in order and disjoint, start at or after this offset, and each is the span of a token of this kind
abbrev pub AreSpansOf : Kind → List Lexeme → (low : ℕ) → List Span → Type 0
AreSpansOf kind tokens low [] = Unit {0}
AreSpansOf kind tokens low (s ∷ spans) =
    (low ≤ s.start) × ((t : Lexeme) × Contains tokens t × (kind_of t ≡ kind) × (span_of t ≡ s)) × AreSpansOf kind tokens s.end spans

-- a new name to replace some of the names in a text, or a new type name to replace some of its type names
pub record IsNewName (kind : Kind) (text new : List ℕ) (tokens : List Lexeme) (spans : List Span) : Type 0 where
  pub of_names : IsNameKind kind
  pub is_text : IsUtf8 text
  pub are_tokens : AreTokensOf text tokens
  pub are_spans : AreSpansOf kind tokens 0 spans
  pub is_new : IsUtf8 new
  pub is_one : IsOne kind new
