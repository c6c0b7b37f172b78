-- Scanning a text from its start.
use Rattle.std.specs.Prelude.{◌≡◌, ℕ, Bool, true, false, Option, Some, None, List, [], ◌∷◌, ◌++◌, encode_utf8, encode_utf8_all}
use Rattle.std.specs.List.{list_all}
use Rattle.std.specs.Str.{chars, IsUtf8}
use Rattle.lam_token.specs.declared.segment.Segment.{Segment}
use Rattle.lam_token.specs.Shape.{rest_of_comment}
use Rattle.lam_token.specs.Cut.{IsFirst}

-- the text is this character followed by the rest
pub record FirstIs (text : List ℕ) (first : ℕ) (rest : List ℕ) : Type 0 where
  pub bytes : text ≡ encode_utf8 first ++ rest
  pub characters : chars text ≡ first ∷ chars rest
  pub is_text : IsUtf8 rest

-- the text is these characters followed by the rest
pub record FrontIs (text front rest : List ℕ) : Type 0 where
  pub bytes : text ≡ encode_utf8_all front ++ rest
  pub characters : chars text ≡ front ++ chars rest
  pub is_text : IsUtf8 rest

-- the text does not begin with a character that passes the test
abbrev pub EndsRun : (ℕ → Bool) → List ℕ → Type 0
EndsRun passes [] = Unit {0}
EndsRun passes (c ∷ cs) = passes c ≡ false

-- the text is a longest run of characters that pass the test, followed by the rest
pub record RunIs (passes : ℕ → Bool) (text rest : List ℕ) : Type 0 where
  pub run : List ℕ
  pub front : FrontIs text run rest
  pub all_pass : list_all passes run ≡ true
  pub ends : EndsRun passes (chars rest)

-- the text after a comment with this many open marks, given the previous character; None if it does not close
abbrev pub IsBehind : (depth before : ℕ) → List ℕ → Option (List ℕ) → Type 0
IsBehind depth before text None = rest_of_comment depth before (chars text) ≡ None
IsBehind depth before text (Some rest) = (front : List ℕ) × FrontIs text front rest × (rest_of_comment depth before (chars text) ≡ Some (chars rest))

-- the text is a first segment of this sort, followed by the rest
pub record SegmentIs (text : List ℕ) (sort : Segment) (rest : List ℕ) : Type 0 where
  pub segment : List ℕ
  pub front : FrontIs text segment rest
  pub is_first : IsFirst sort segment (chars rest)
