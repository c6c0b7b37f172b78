-- The first segment of a text, by its first character.
use Rattle.std.proofs.Common.{◌≡◌, ℕ, ◌<◌, true, false, cond, Some, None, List, [], ◌∷◌, ◌++◌, length, sym, refl, ap, ◌∙◌, subst, arith}
use Rattle.std.specs.Prelude.{◌==◌, encode_utf8_all}
use Rattle.std.specs.Str.{chars, IsUtf8}
use Rattle.std.specs.List.{list_all}
use Rattle.std.proofs.lemmas.Str.{chars-nil}
use Rattle.lam_token.specs.declared.kind.Kind.{Kind}
use Rattle.lam_token.specs.declared.kind.Kind.TheVariants.{Name, Numeral, Underscore, Arrow, BadCharacter, BadComment}
use Rattle.lam_token.specs.declared.segment.Segment.{Segment}
use Rattle.lam_token.specs.declared.segment.Segment.TheVariants.{Blank, Comment, Token}
use Rattle.lam_token.specs.declared.segment.Beginning.{Beginning}
use Rattle.lam_token.specs.declared.segment.Beginning.TheVariants as begin
use Rattle.lam_token.specs.Shape.{is_digit, is_continuing, beginning_of, rest_of_comment, alone, closed_at_end, begun, shape_of, opened, opens_comment}
use Rattle.lam_token.specs.Words.{word_kind}
use Rattle.lam_token.specs.Cut.{NothingBegins, NothingLonger, longest, unclosed, stray}
use Rattle.lam_token.specs.inner.Reading.{FirstIs, FrontIs, EndsRun, RunIs, IsBehind, SegmentIs}
use Rattle.lam_token.proofs.Reading.{front_none, front_all, front_behind, no_front}
use Rattle.lam_token.proofs.Shapes.{longer_fails, not_alone, longer_comment, open_comment, behind_front, same_choices}

-- a character and those after it are the first segment, if together they have a shape and with more they have none
segment_longest : (text rest after cs : List ℕ) (c : ℕ) (b : Beginning) (s : Segment) → beginning_of c ≡ b → FirstIs text c rest → FrontIs rest cs after → begun b c cs ≡ Some s → ((front more : List ℕ) → cs ++ chars after ≡ front ++ more → length cs < length front → begun b c front ≡ None) → SegmentIs text s after
segment_longest text rest after cs c b s begins first front is none_longer = record {
  segment = c ∷ cs;
  front = front_behind text rest after cs c first front;
  is_first = longest (ap (λ k. begun k c cs) begins ∙ is) nothing_longer;
}
  where
    nothing_longer : NothingLonger (c ∷ cs ++ chars after) (c ∷ cs)
    nothing_longer [] more same longer = absurd (omega arith)
    nothing_longer (d ∷ front) more same longer =
        let head : d ≡ c = cc in
        let tail : cs ++ chars after ≡ front ++ more = cc in
        ap (λ x. shape_of (x ∷ front)) head ∙ ap (λ k. begun k c front) begins ∙ none_longer front more tail (omega arith)

-- no prefix of a text that begins with this character has a shape
pub nothing_begins : (c : ℕ) (cs : List ℕ) (b : Beginning) → beginning_of c ≡ b → ((front more : List ℕ) → cs ≡ front ++ more → begun b c front ≡ None) → NothingBegins (c ∷ cs)
nothing_begins c cs b begins none [] more same = refl
nothing_begins c cs b begins none (d ∷ front) more same =
    let head : d ≡ c = cc in
    let tail : cs ≡ front ++ more = cc in
    ap (λ x. shape_of (x ∷ front)) head ∙ ap (λ k. begun k c front) begins ∙ none front more tail

segment_stray : (text rest : List ℕ) (c : ℕ) (b : Beginning) → beginning_of c ≡ b → FirstIs text c rest → ((front more : List ℕ) → chars rest ≡ front ++ more → begun b c front ≡ None) → opened b (chars rest) ≡ false → SegmentIs text (Token BadCharacter) rest
segment_stray text rest c b begins first none not_opened = record {
  segment = c ∷ [];
  front = front_behind text rest rest [] c first (front_none rest first.is_text);
  is_first = stray (nothing_begins c (chars rest) b begins none) (ap (λ k. opened k (chars rest)) begins ∙ not_opened) refl;
}

segment_unclosed : (text rest : List ℕ) (c : ℕ) (b : Beginning) → IsUtf8 text → beginning_of c ≡ b → FirstIs text c rest → ((front more : List ℕ) → chars rest ≡ front ++ more → begun b c front ≡ None) → opened b (chars rest) ≡ true → SegmentIs text (Token BadComment) []
segment_unclosed text rest c b is_text begins first none is_opened =
    let whole : c ∷ chars rest ≡ chars text ++ chars [] = sym first.characters ∙ (front_all text is_text).characters in
    record {
      segment = chars text;
      front = front_all text is_text;
      is_first = unclosed
          (subst NothingBegins whole (nothing_begins c (chars rest) b begins none))
          (ap opens_comment (sym whole) ∙ ap (λ k. opened k (chars rest)) begins ∙ is_opened)
          chars-nil;
    }

-- the segments by their first characters

pub blank_segment : (text rest : List ℕ) (c : ℕ) → FirstIs text c rest → beginning_of c ≡ begin.Blank → SegmentIs text Blank rest
blank_segment text rest c first begins =
    segment_longest text rest rest [] c begin.Blank Blank begins first (front_none rest first.is_text) refl
    (λ front more same longer. not_alone Blank front longer)

pub mark_segment : (text rest : List ℕ) (c : ℕ) (kind : Kind) → FirstIs text c rest → beginning_of c ≡ begin.Mark kind → SegmentIs text (Token kind) rest
mark_segment text rest c kind first begins =
    segment_longest text rest rest [] c (begin.Mark kind) (Token kind) begins first (front_none rest first.is_text) refl
    (λ front more same longer. not_alone (Token kind) front longer)

pub stray_segment : (text rest : List ℕ) (c : ℕ) → FirstIs text c rest → beginning_of c ≡ begin.Stray → SegmentIs text (Token BadCharacter) rest
stray_segment text rest c first begins = segment_stray text rest c begin.Stray begins first (λ front more same. refl) refl

pub numeral_segment : (text rest after : List ℕ) (c : ℕ) → FirstIs text c rest → beginning_of c ≡ begin.Digit → RunIs is_digit rest after → SegmentIs text (Token Numeral) after
numeral_segment text rest after c first begins run =
    segment_longest text rest after run.run c begin.Digit (Token Numeral) begins first run.front
    (ap (λ b. cond b (Some (Token Numeral)) None) run.all_pass)
    (λ front more same longer. ap (λ b. cond b (Some (Token Numeral)) None) (longer_fails is_digit run.run (chars after) front more run.ends same longer))

pub word_segment : (text rest after : List ℕ) (c : ℕ) → FirstIs text c rest → beginning_of c ≡ begin.Letter → (run : RunIs is_continuing rest after) → SegmentIs text (Token (word_kind c (encode_utf8_all (c ∷ run.run)))) after
word_segment text rest after c first begins run =
    segment_longest text rest after run.run c begin.Letter (Token (word_kind c (encode_utf8_all (c ∷ run.run)))) begins first run.front
    (ap (λ b. cond b (Some (Token (word_kind c (encode_utf8_all (c ∷ run.run))))) None) run.all_pass)
    (λ front more same longer. ap (λ b. cond b (Some (Token (word_kind c (encode_utf8_all (c ∷ front))))) None) (longer_fails is_continuing run.run (chars after) front more run.ends same longer))

-- an underscore with more behind it
begun_underscore : (c : ℕ) (front : List ℕ) → 0 < length front → begun begin.Underscore c front ≡ cond (list_all is_continuing front) (Some (Token Name)) None
begun_underscore c [] some = absurd (omega arith)
begun_underscore c (d ∷ front) some = refl

pub longer_underscore : (c : ℕ) (cs rest front after : List ℕ) → EndsRun is_continuing rest → cs ++ rest ≡ front ++ after → length cs < length front → begun begin.Underscore c front ≡ None
longer_underscore c cs rest front after ends same longer =
    begun_underscore c front (omega arith)
    ∙ ap (λ b. cond b (Some (Token Name)) None) (longer_fails is_continuing cs rest front after ends same longer)

pub underscore_segment : (text rest after : List ℕ) (c : ℕ) → FirstIs text c rest → beginning_of c ≡ begin.Underscore → RunIs is_continuing rest after → length after ≡ length rest → SegmentIs text (Token Underscore) after
underscore_segment text rest after c first begins run same_length =
    let none : run.run ≡ [] = no_front rest run.run after run.front same_length in
    segment_longest text rest after run.run c begin.Underscore (Token Underscore) begins first run.front
    (ap (begun begin.Underscore c) none)
    (λ front more same longer. longer_underscore c run.run (chars after) front more run.ends same longer)

pub underscore_name_segment : (text rest after : List ℕ) (c : ℕ) → FirstIs text c rest → beginning_of c ≡ begin.Underscore → RunIs is_continuing rest after → (length after ≡ length rest → ⊥) → SegmentIs text (Token Name) after
underscore_name_segment text rest after c first begins run shorter =
    segment_longest text rest after run.run c begin.Underscore (Token Name) begins first run.front
    (begun_underscore c run.run (some_run run.run run.front) ∙ ap (λ b. cond b (Some (Token Name)) None) run.all_pass)
    (λ front more same longer. longer_underscore c run.run (chars after) front more run.ends same longer)
  where
    some_run : (cs : List ℕ) → FrontIs rest cs after → 0 < length cs
    some_run [] front = absurd (shorter (ap length (sym front.bytes)))
    some_run (d ∷ cs) front = omega arith

-- a dash, and what follows it
begun_arrow : (c : ℕ) (d : ℕ) (cs front more : List ℕ) → (d == 62) ≡ false → d ∷ cs ≡ front ++ more → begun begin.Dash c front ≡ None
begun_arrow c d cs [] more no_arrow same = refl
begun_arrow c d cs (e ∷ front) more no_arrow same =
    let head : e ≡ d = cc in
    ap (λ x. cond (x == 62) (alone (Token Arrow) front) None) head ∙ ap (λ b. cond b (alone (Token Arrow) front) None) no_arrow

pub lone_dash_segment : (text rest : List ℕ) (c : ℕ) → FirstIs text c rest → beginning_of c ≡ begin.Dash → rest ≡ [] → SegmentIs text (Token BadCharacter) rest
lone_dash_segment text rest c first begins is_end =
    let none : chars rest ≡ [] = ap chars is_end ∙ chars-nil in
    segment_stray text rest c begin.Dash begins first (λ front more same. at_end front more (sym none ∙ same)) refl
  where
    at_end : (front more : List ℕ) → [] ≡ front ++ more → begun begin.Dash c front ≡ None
    at_end [] more same = refl
    at_end (e ∷ front) more same = absurd cc

pub stray_dash_segment : (text rest after : List ℕ) (c d : ℕ) → FirstIs text c rest → beginning_of c ≡ begin.Dash → FirstIs rest d after → (d == 62) ≡ false → SegmentIs text (Token BadCharacter) rest
stray_dash_segment text rest after c d first begins second no_arrow =
    segment_stray text rest c begin.Dash begins first
    (λ front more same. begun_arrow c d (chars after) front more no_arrow (sym second.characters ∙ same)) refl

pub arrow_segment : (text rest after : List ℕ) (c d : ℕ) → FirstIs text c rest → beginning_of c ≡ begin.Dash → FirstIs rest d after → (d == 62) ≡ true → SegmentIs text (Token Arrow) after
arrow_segment text rest after c d first begins second arrow =
    segment_longest text rest after (d ∷ []) c begin.Dash (Token Arrow) begins first (front_behind rest after after [] d second (front_none after second.is_text))
    (ap (λ b. cond b (alone (Token Arrow) []) None) arrow)
    (λ front more same longer. longer_arrow front longer)
  where
    longer_arrow : (front : List ℕ) → 1 < length front → begun begin.Dash c front ≡ None
    longer_arrow [] longer = absurd (omega arith)
    longer_arrow (x ∷ []) longer = absurd (omega arith)
    longer_arrow (x ∷ y ∷ front) longer = same_choices (x == 62) None

-- comments
pub lone_slash_segment : (text rest : List ℕ) (c : ℕ) → FirstIs text c rest → beginning_of c ≡ begin.Slash → rest ≡ [] → SegmentIs text (Token BadCharacter) rest
lone_slash_segment text rest c first begins is_end =
    let none : chars rest ≡ [] = ap chars is_end ∙ chars-nil in
    segment_stray text rest c begin.Slash begins first (λ front more same. at_end front more (sym none ∙ same)) (ap (opened begin.Slash) none)
  where
    at_end : (front more : List ℕ) → [] ≡ front ++ more → begun begin.Slash c front ≡ None
    at_end [] more same = refl
    at_end (e ∷ front) more same = absurd cc

pub begun_slash : (c d : ℕ) (cs front more : List ℕ) → d ∷ cs ≡ front ++ more → ((inside : List ℕ) → front ≡ d ∷ inside → cs ≡ inside ++ more → cond (d == 42) (closed_at_end (rest_of_comment 1 32 inside)) None ≡ None) → begun begin.Slash c front ≡ None
begun_slash c d cs [] more same none = refl
begun_slash c d cs (e ∷ inside) more same none =
    let head : e ≡ d = cc in
    let tail : cs ≡ inside ++ more = cc in
    ap (λ x. cond (x == 42) (closed_at_end (rest_of_comment 1 32 inside)) None) head ∙ none inside (ap (λ x. x ∷ inside) head) tail

pub stray_slash_segment : (text rest after : List ℕ) (c d : ℕ) → FirstIs text c rest → beginning_of c ≡ begin.Slash → FirstIs rest d after → (d == 42) ≡ false → SegmentIs text (Token BadCharacter) rest
stray_slash_segment text rest after c d first begins second no_star =
    segment_stray text rest c begin.Slash begins first
    (λ front more same. begun_slash c d (chars after) front more (sym second.characters ∙ same)
    (λ inside front_is after_is. ap (λ b. cond b (closed_at_end (rest_of_comment 1 32 inside)) None) no_star))
    (ap (opened begin.Slash) second.characters ∙ no_star)

pub comment_segment : (text rest inside after : List ℕ) (c d : ℕ) → FirstIs text c rest → beginning_of c ≡ begin.Slash → FirstIs rest d inside → (d == 42) ≡ true → IsBehind 1 32 inside (Some after) → SegmentIs text Comment after
comment_segment text rest inside after c d first begins second star (cs, front, closes) =
    segment_longest text rest after (d ∷ cs) c begin.Slash Comment begins first (front_behind rest inside after cs d second front)
    (ap (λ b. cond b (closed_at_end (rest_of_comment 1 32 cs)) None) star ∙ ap closed_at_end closed)
    longer_none
  where
    closed : rest_of_comment 1 32 cs ≡ Some []
    closed = behind_front 1 32 cs (chars after) (ap (rest_of_comment 1 32) (sym front.characters) ∙ closes)

    longer_none : (f more : List ℕ) → d ∷ cs ++ chars after ≡ f ++ more → length (d ∷ cs) < length f → begun begin.Slash c f ≡ None
    longer_none f more same longer =
        begun_slash c d (cs ++ chars after) f more same
        (λ g f_is tail. ap (λ b. cond b (closed_at_end (rest_of_comment 1 32 g)) None) star
        ∙ longer_comment cs (chars after) g more closed tail (omega (arith, ap length f_is)))

pub unclosed_segment : (text rest inside : List ℕ) (c d : ℕ) → IsUtf8 text → FirstIs text c rest → beginning_of c ≡ begin.Slash → FirstIs rest d inside → (d == 42) ≡ true → IsBehind 1 32 inside None → SegmentIs text (Token BadComment) []
unclosed_segment text rest inside c d is_text first begins second star stays_open =
    segment_unclosed text rest c begin.Slash is_text begins first
    (λ front more same. begun_slash c d (chars inside) front more (sym second.characters ∙ same)
    (λ g front_is tail. ap (λ b. cond b (closed_at_end (rest_of_comment 1 32 g)) None) star ∙ open_comment (chars inside) g more stays_open tail))
    (ap (opened begin.Slash) second.characters ∙ star)
