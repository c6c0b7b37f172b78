-- The cut of a text into its longest segments, and its tokens.
use Rattle.std.specs.Prelude.{◌≡◌, ℕ, ◌+◌, ◌-◌, ◌<◌, true, false, Option, Some, None, List, [], ◌∷◌, ◌++◌, length, slice_index, encode_utf8_all}
use Rattle.std.specs.Str.{chars, IsCharBoundary}
use Rattle.lam_token.specs.declared.kind.Kind.{Kind}
use Rattle.lam_token.specs.declared.kind.Kind.TheVariants.{BadCharacter, BadComment}
use Rattle.lam_token.specs.declared.segment.Segment.{Segment}
use Rattle.lam_token.specs.declared.segment.Segment.TheVariants.{Blank, Comment, Token}
use Rattle.lam_token.specs.Lexeme.{Lexeme, kind_of, text_of, lexeme_at, start_of, end_of}
use Rattle.lam_token.specs.Shape.{shape_of, opens_comment}

-- no prefix of the text has a shape
abbrev pub NothingBegins : List ℕ → Type 0
NothingBegins text = (front after : List ℕ) → text ≡ front ++ after → shape_of front ≡ None

-- no prefix of the text that is longer than these characters has a shape
abbrev pub NothingLonger : List ℕ → List ℕ → Type 0
NothingLonger text cs = (front after : List ℕ) → text ≡ front ++ after → length cs < length front → shape_of front ≡ None

-- The first segment, of this sort, of a text that begins with the first list of characters and continues with the second: the longest prefix with a shape. If no
-- prefix has a shape, it is the whole text when that opens a comment, and a single character otherwise.
pub data IsFirst : Segment → List ℕ → List ℕ → Type 0 where
  longest : {s : Segment} {cs rest : List ℕ} → shape_of cs ≡ Some s → NothingLonger (cs ++ rest) cs → IsFirst s cs rest
  unclosed : {cs rest : List ℕ} → NothingBegins (cs ++ rest) → opens_comment (cs ++ rest) ≡ true → rest ≡ [] → IsFirst (Token BadComment) cs rest
  stray : {cs rest : List ℕ} → NothingBegins (cs ++ rest) → opens_comment (cs ++ rest) ≡ false → length cs ≡ 1 → IsFirst (Token BadCharacter) cs rest

-- a segment: its sort and its characters
pub record Part : Type 0 where
  pub sort : Segment
  pub characters : List ℕ

-- the segments make up the text, and each is the first segment of what is left after those before it
abbrev pub IsCut : List ℕ → List Part → Type 0
IsCut text [] = text ≡ []
IsCut text (p ∷ ps) = (rest : List ℕ) × (text ≡ p.characters ++ rest) × IsFirst p.sort p.characters rest × IsCut rest ps

-- the token of a segment, if it has one, followed by the others; blanks and comments have no token
abbrev pub with_token : Segment → (bytes : List ℕ) → (start : ℕ) → List Lexeme → List Lexeme
with_token Blank bytes start others = others
with_token Comment bytes start others = others
with_token (Token kind) bytes start others = lexeme_at kind bytes start ∷ others

-- the tokens of a list of segments, the first of which begins at this byte offset
abbrev pub tokens_of : ℕ → List Part → List Lexeme
tokens_of start [] = []
tokens_of start (p ∷ ps) = let bytes = encode_utf8_all p.characters in with_token p.sort bytes start (tokens_of (start + length bytes) ps)

-- the tokens of the text with these UTF-8 bytes, whose first byte has this offset
pub record AreTokensFrom (start : ℕ) (text : List ℕ) (tokens : List Lexeme) : Type 0 where
  pub parts : List Part
  pub cut : IsCut (chars text) parts
  pub tokens_are : tokens ≡ tokens_of start parts

-- the tokens of a whole text
abbrev pub AreTokensOf : List ℕ → List Lexeme → Type 0
AreTokensOf text tokens = AreTokensFrom 0 text tokens

-- a token begins and ends at character boundaries of the text
abbrev pub StandsIn : List ℕ → Lexeme → Type 0
StandsIn text t = IsCharBoundary text (start_of t) × IsCharBoundary text (end_of t)

-- a CR is right before the offset, and an LF at it
pub record IsBetweenCrAndLf (text : List ℕ) (offset : ℕ) : Type 0 where
  pub after_start : 0 < offset
  pub cr : slice_index text (offset - 1) ≡ 13
  pub lf : slice_index text offset ≡ 10

-- neither end of the token is between a CR and an LF
pub record KeepsLineEnds (text : List ℕ) (t : Lexeme) : Type 0 where
  pub start : ¬ (IsBetweenCrAndLf text (start_of t))
  pub end : ¬ (IsBetweenCrAndLf text (end_of t))

-- the kind of the token that the whole text is by itself, or None if it is not a token
abbrev pub IsWholeKind : List ℕ → Option Kind → Type 0
IsWholeKind text None = (kind : Kind) → shape_of text ≡ Some (Token kind) → ⊥
IsWholeKind text (Some kind) = IsFirst (Token kind) text []

-- what holds of every token: its span is as long as its text, and its kind is the one that its text has by itself
pub record IsToken (t : Lexeme) : Type 0 where
  pub ends : end_of t ≡ start_of t + length (text_of t)
  pub kind : IsWholeKind (chars (text_of t)) (Some (kind_of t))
