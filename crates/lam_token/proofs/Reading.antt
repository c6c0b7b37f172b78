-- How a text is read: its first character, a front, a run, a comment.
use Rattle.std.proofs.Common.{◌≡◌, ℕ, ◌+◌, ◌-◌, ◌<◌, Bool, true, false, Option, Some, None, List, [], ◌∷◌, ◌++◌, length, take, sym, refl, ap, ◌∙◌, subst, append_assoc, arith, length-append}
use Rattle.std.specs.Prelude.{encode_utf8, encode_utf8_all, ◌==◌}
use Rattle.std.specs.Str.{chars, IsUtf8, IsCharBoundary}
use Rattle.std.proofs.lemmas.Str.{chars-nil, chars_past_char, IsUtf8-past_char, IsUtf8-nil, IsUtf8-take, chars-append, encodes-chars, IsCharBoundary-at_seam, length-le-encodes, length-encode, len_utf8_bounds}
use Rattle.std.proofs.lemmas.List.{append-nil, append_cancel_right}
use Rattle.std.proofs.Math.Seq.{take-append_seam}
use Rattle.lam_token.specs.Shape.{rest_of_comment, is_opening, is_closing}
use Rattle.lam_token.specs.inner.Reading.{FirstIs, FrontIs, EndsRun, RunIs, IsBehind}

pub first_is : (text rest : List ℕ) (c : ℕ) → IsUtf8 text → text ≡ encode_utf8 c ++ rest → FirstIs text c rest
first_is text rest c is_text bytes = record {
  bytes = bytes;
  characters = chars_past_char text rest c is_text bytes;
  is_text = IsUtf8-past_char text rest c is_text bytes;
}

-- a character takes at least a byte
pub first_shorter : (text rest : List ℕ) (c : ℕ) → FirstIs text c rest → length rest < length text
first_shorter text rest c first =
    omega (arith, ap length first.bytes, length-append (encode_utf8 c) rest, length-encode c, (len_utf8_bounds c).0)

-- nothing has been read
pub front_none : (text : List ℕ) → IsUtf8 text → FrontIs text [] text
front_none text is_text = record { bytes = refl; characters = refl; is_text = is_text }

-- the whole text has been read
pub front_all : (text : List ℕ) → IsUtf8 text → FrontIs text (chars text) []
front_all text is_text = record {
  bytes = sym (encodes-chars text is_text) ∙ sym (append-nil _);
  characters = sym (append-nil (chars text)) ∙ ap (λ l. chars text ++ l) (sym chars-nil);
  is_text = IsUtf8-nil;
}

-- a character, and what is read behind it
pub front_behind : (text rest after cs : List ℕ) (c : ℕ) → FirstIs text c rest → FrontIs rest cs after → FrontIs text (c ∷ cs) after
front_behind text rest after cs c first front = record {
  bytes = first.bytes ∙ ap (λ l. encode_utf8 c ++ l) front.bytes ∙ sym (append_assoc (encode_utf8 c) (encode_utf8_all cs) after);
  characters = first.characters ∙ ap (λ l. c ∷ l) front.characters;
  is_text = front.is_text;
}

-- a front's length in bytes
pub length_front : (text cs rest : List ℕ) → FrontIs text cs rest → length text ≡ length (encode_utf8_all cs) + length rest
length_front text cs rest front = ap length front.bytes ∙ length-append (encode_utf8_all cs) rest

-- the text may be cut behind a front
pub cut_behind : (text cs rest : List ℕ) → FrontIs text cs rest → IsCharBoundary text (length text - length rest)
cut_behind text cs rest front =
    let all = length_front text cs rest front in
    let at : length (encode_utf8_all cs) ≡ length text - length rest = omega arith in
    subst (IsCharBoundary text) at (IsCharBoundary-at_seam text (encode_utf8_all cs) rest front.bytes front.is_text)

-- the front, cut off
pub take_front : (text cs rest : List ℕ) → FrontIs text cs rest → take (length text - length rest) text ≡ encode_utf8_all cs
take_front text cs rest front =
    let all = length_front text cs rest front in
    let at : length text - length rest ≡ length (encode_utf8_all cs) = omega arith in
    ap (λ n. take n text) at ∙ ap (take (length (encode_utf8_all cs))) front.bytes ∙ take-append_seam (encode_utf8_all cs) rest

-- the bytes of a front spell its characters
pub chars_front : (text cs rest : List ℕ) → IsUtf8 text → FrontIs text cs rest → chars (encode_utf8_all cs) ≡ cs
chars_front text cs rest is_text front =
    let taken = IsUtf8-take text (length text - length rest) is_text (cut_behind text cs rest front) in
    let is_front = subst IsUtf8 (take_front text cs rest front) taken in
    append_cancel_right _ _ (chars rest)
    (sym (chars-append (encode_utf8_all cs) rest is_front) ∙ ap chars (sym front.bytes) ∙ front.characters)

-- a front of no bytes has no character
pub no_front : (text cs rest : List ℕ) → FrontIs text cs rest → length rest ≡ length text → cs ≡ []
no_front text [] rest front same = refl
no_front text (c ∷ cs) rest front same =
    absurd (omega (arith, length_front text (c ∷ cs) rest front, length-le-encodes (c ∷ cs)))

-- a run that ends at once
pub run_none : (passes : ℕ → Bool) (text : List ℕ) → IsUtf8 text → EndsRun passes (chars text) → RunIs passes text text
run_none passes text is_text ends = record { run = []; front = front_none text is_text; all_pass = refl; ends = ends }

-- the end of the text ends a run
pub run_at_end : (passes : ℕ → Bool) (text : List ℕ) → IsUtf8 text → text ≡ [] → RunIs passes text text
run_at_end passes text is_text is_end =
    run_none passes text is_text (subst (EndsRun passes) (sym (ap chars is_end ∙ chars-nil)) tt)

-- one character more in front of a run
pub run_more : (passes : ℕ → Bool) (text rest after : List ℕ) (c : ℕ) → FirstIs text c rest → passes c ≡ true → RunIs passes rest after → RunIs passes text after
run_more passes text rest after c first pass run = record {
  run = c ∷ run.run;
  front = front_behind text rest after run.run c first run.front;
  all_pass = rw pass run.all_pass;
  ends = run.ends;
}

-- the marks of a comment, one at a time
pub behind_opening : (depth before c : ℕ) (cs : List ℕ) → is_opening before c ≡ true → rest_of_comment depth before (c ∷ cs) ≡ rest_of_comment (depth + 1) 32 cs
unfolding rest_of_comment
behind_opening depth before c cs e = rw e refl

pub behind_closing : (depth before c : ℕ) (cs : List ℕ) → is_opening before c ≡ false → is_closing before c ≡ true → (depth == 1) ≡ false → rest_of_comment depth before (c ∷ cs) ≡ rest_of_comment (depth - 1) 32 cs
unfolding rest_of_comment
behind_closing depth before c cs e f g = rw (e, f, g) refl

pub behind_last : (before c : ℕ) (cs : List ℕ) → is_opening before c ≡ false → is_closing before c ≡ true → rest_of_comment 1 before (c ∷ cs) ≡ Some cs
unfolding rest_of_comment
behind_last before c cs e f = rw (e, f) refl

pub behind_other : (depth before c : ℕ) (cs : List ℕ) → is_opening before c ≡ false → is_closing before c ≡ false → rest_of_comment depth before (c ∷ cs) ≡ rest_of_comment depth c cs
unfolding rest_of_comment
behind_other depth before c cs e f = rw (e, f) refl

-- a step over one character
pub step_behind : (depth before depth' before' : ℕ) (text rest : List ℕ) (c : ℕ) (r : Option (List ℕ)) → FirstIs text c rest → rest_of_comment depth before (c ∷ chars rest) ≡ rest_of_comment depth' before' (chars rest) → IsBehind depth' before' rest r → IsBehind depth before text r
step_behind depth before depth' before' text rest c None first same is = ap (rest_of_comment depth before) first.characters ∙ same ∙ is
step_behind depth before depth' before' text rest c (Some after) first same is = (
  c ∷ is.0,
  front_behind text rest after is.0 c first is.1,
  ap (rest_of_comment depth before) first.characters ∙ same ∙ is.2,
)

pub end_behind : (depth before : ℕ) (text : List ℕ) → text ≡ [] → IsBehind depth before text None
unfolding rest_of_comment
end_behind depth before text is_end = ap (λ l. rest_of_comment depth before (chars l)) is_end ∙ ap (rest_of_comment depth before) chars-nil

pub last_behind : (before : ℕ) (text rest : List ℕ) (c : ℕ) → FirstIs text c rest → is_opening before c ≡ false → is_closing before c ≡ true → IsBehind 1 before text (Some rest)
last_behind before text rest c first e f = (
  c ∷ [],
  front_behind text rest rest [] c first (front_none rest first.is_text),
  ap (rest_of_comment 1 before) first.characters ∙ behind_last before c (chars rest) e f,
)
