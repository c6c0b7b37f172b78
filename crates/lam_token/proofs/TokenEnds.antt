-- No token begins with an LF, and none ends with a CR unless the text ends there. So none begins or ends between the two.
use Rattle.std.proofs.Common.{◌≡◌, ℕ, ◌+◌, ◌-◌, ◌<◌, true, false, Some, None, List, [], ◌∷◌, ◌++◌, length, get_or, ◌⊎◌, inl, inr, ⊎_elim, refl, sym, ap, subst, ◌∙◌, append_assoc, arith}
use Rattle.std.specs.Prelude.{◌==◌, encode_utf8_all}
use Rattle.std.specs.List.{All, AllByRecursion}
use Rattle.std.specs.Str.{chars, IsUtf8, NonePass}
use Rattle.std.proofs.lemmas.Bool.{ne_eqb}
use Rattle.std.proofs.lemmas.List.{length-append, get_or_append_left, get_or-append-add, get_or_past}
use Rattle.std.proofs.lemmas.List.Elements.{All-from_recursion}
use Rattle.std.proofs.lemmas.Str.{encodes-append, encodes-chars, length-le-encodes}
use Rattle.std.proofs.lemmas.Str.Pattern.{NoCharPasses-char}
use Rattle.lam_token.specs.declared.kind.Kind.{Kind}
use Rattle.lam_token.specs.declared.segment.Segment.{Segment}
use Rattle.lam_token.specs.declared.segment.Segment.TheVariants.{Blank, Comment, Token}
use Rattle.lam_token.specs.declared.segment.Beginning.TheVariants as begin
use Rattle.lam_token.specs.Shape.{is_blank, beginning_of, alone, begun, shape_of, opened, opens_comment}
use Rattle.lam_token.specs.Lexeme.{Lexeme, start_of, end_of}
use Rattle.lam_token.specs.Cut.{NothingBegins, IsFirst, longest, unclosed, stray, Part, IsCut, with_token, tokens_of, AreTokensOf, IsBetweenCrAndLf, KeepsLineEnds}
use Rattle.lam_token.proofs.Cuts.{some_characters}
use Rattle.lam_token.proofs.ForeignCharacters.{cr_continues_nothing, none_behind}

-- ---- what begins with a CR or an LF is a blank

cr_is_blank : beginning_of 13 ≡ begin.Blank
unfolding beginning_of is_blank
cr_is_blank = refl

lf_is_blank : beginning_of 10 ≡ begin.Blank
unfolding beginning_of is_blank
lf_is_blank = refl

-- the character is no blank, so it is neither a CR nor an LF
abbrev BeginsNoBlank : ℕ → Type 0
BeginsNoBlank c = beginning_of c ≡ begin.Blank → ⊥

other_blank : (c d : ℕ) → BeginsNoBlank c → beginning_of d ≡ begin.Blank → (c == d) ≡ false
other_blank c d begins blank = ne_eqb c d (λ same. begins (ap beginning_of same ∙ blank))

blank_token : (kind : Kind) (cs : List ℕ) → alone Blank cs ≡ Some (Token kind) → ⊥
blank_token kind [] shape = absurd cc
blank_token kind (c ∷ cs) shape = absurd cc

token_begins : (c : ℕ) (cs : List ℕ) (kind : Kind) → shape_of (c ∷ cs) ≡ Some (Token kind) → BeginsNoBlank c
token_begins c cs kind shape blank = blank_token kind cs (sym (ap (λ b. begun b c cs) blank) ∙ shape)

stray_begins : (c : ℕ) (rest : List ℕ) → NothingBegins (c ∷ rest) → BeginsNoBlank c
stray_begins c rest none blank =
    let both : None ≡ Some Blank = sym (none (c ∷ []) rest refl) ∙ ap (λ b. begun b c []) blank in absurd cc

comment_begins : (c : ℕ) (cs : List ℕ) → opens_comment (c ∷ cs) ≡ true → BeginsNoBlank c
comment_begins c cs opens blank = let both : true ≡ false = sym opens ∙ ap (λ b. opened b cs) blank in absurd cc

-- ---- the first and the last byte of a token

-- a byte of some characters among which one is not
never : (d : ℕ) (cs : List ℕ) (i : ℕ) → d < 128 → NonePass (λ c. c == d) cs → i < length (encode_utf8_all cs) → get_or (encode_utf8_all cs) i 0 ≡ d → ⊥
never d cs i low none inside = NoCharPasses-char d (encode_utf8_all cs) i (cs, refl, none) low inside

byte_between : (before bytes behind : List ℕ) (i : ℕ) → i < length bytes → get_or (before ++ (bytes ++ behind)) (length before + i) 0 ≡ get_or bytes i 0
byte_between before bytes behind i inside = get_or-append-add before (bytes ++ behind) i 0 ∙ get_or_append_left bytes behind 0 i inside

starts_with_no_lf : (text before : List ℕ) (start c : ℕ) (rest : List ℕ) → text ≡ before ++ encode_utf8_all (c ∷ rest) → start ≡ length before → BeginsNoBlank c → get_or text start 0 ≡ 10 → ⊥
starts_with_no_lf text before start c rest whole at begins lf =
    let first = encode_utf8_all (c ∷ []) in
    let behind = encode_utf8_all rest in
    let long : 0 < length first = omega (arith, length-le-encodes (c ∷ [])) in
    let split : text ≡ before ++ (first ++ behind) = whole ∙ ap (λ l. before ++ l) (encodes-append (c ∷ []) rest) in
    let place : start ≡ length before + 0 = omega arith in
    let here : get_or text start 0 ≡ get_or first 0 0 = (λ i. get_or (split i) (place i) 0) ∙ byte_between before first behind 0 long in
    never 10 (c ∷ []) 0 (omega arith) (other_blank c 10 begins lf_is_blank, tt) long (sym here ∙ lf)

ends_with_no_cr : (text before cs rest : List ℕ) (end : ℕ) → text ≡ before ++ encode_utf8_all (cs ++ rest) → end ≡ length before + length (encode_utf8_all cs) → 0 < length cs
    → NonePass (λ c. c == 13) cs → get_or text (end - 1) 0 ≡ 13 → ⊥
ends_with_no_cr text before cs rest end whole at some none cr =
    let bytes = encode_utf8_all cs in
    let behind = encode_utf8_all rest in
    let long : 0 < length bytes = omega (arith, length-le-encodes cs) in
    let split : text ≡ before ++ (bytes ++ behind) = whole ∙ ap (λ l. before ++ l) (encodes-append cs rest) in
    let place : end - 1 ≡ length before + (length bytes - 1) = omega arith in
    let last : get_or text (end - 1) 0 ≡ get_or bytes (length bytes - 1) 0 =
    (λ i. get_or (split i) (place i) 0) ∙ byte_between before bytes behind (length bytes - 1) (omega arith) in
    never 13 cs (length bytes - 1) (omega arith) none (omega arith) (sym last ∙ cr)

ends_the_text : (text before cs rest : List ℕ) (end : ℕ) → text ≡ before ++ encode_utf8_all (cs ++ rest) → end ≡ length before + length (encode_utf8_all cs) → rest ≡ [] → end ≡ length text
ends_the_text text before cs rest end whole at none =
    let long : length text ≡ length before + length (encode_utf8_all cs ++ encode_utf8_all rest) =
    ap length (whole ∙ ap (λ l. before ++ l) (encodes-append cs rest)) ∙ length-append before _ in
    let nothing : length (encode_utf8_all rest) ≡ 0 = ap (λ l. length (encode_utf8_all l)) none in
    omega (arith, long, nothing, length-append (encode_utf8_all cs) (encode_utf8_all rest))

-- ---- all tokens of a text

-- where a token begins there is no LF, and where it ends there is no CR in front, or no byte behind
record KeepsApart (text : List ℕ) (start end : ℕ) : Type 0 where
  no_lf : get_or text start 0 ≡ 10 → ⊥
  no_cr : (get_or text (end - 1) 0 ≡ 13 → ⊥) ⊎ (end ≡ length text)

token_keeps : (text before : List ℕ) (start end : ℕ) (s : Segment) (kind : Kind) (cs rest : List ℕ) → text ≡ before ++ encode_utf8_all (cs ++ rest) → start ≡ length before
    → end ≡ length before + length (encode_utf8_all cs) → s ≡ Token kind → IsFirst s cs rest → KeepsApart text start end
token_keeps text before start end s kind [] rest whole at stop sort first = absurd (omega (arith, some_characters s [] rest first))
token_keeps text before start end s kind (c ∷ cs) rest whole at stop sort (longest shape none_longer) =
    let token : shape_of (c ∷ cs) ≡ Some (Token kind) = shape ∙ ap (λ k. Some k) sort in
    let begins = token_begins c cs kind token in
    record {
      no_lf = starts_with_no_lf text before start c (cs ++ rest) whole at begins;
      no_cr = inl (ends_with_no_cr text before (c ∷ cs) rest end whole stop (omega arith)
          (other_blank c 13 begins cr_is_blank, none_behind 13 cr_continues_nothing (beginning_of c) c cs kind token));
    }
token_keeps text before start end s kind (c ∷ cs) rest whole at stop sort (unclosed none opens ends) = record {
  no_lf = starts_with_no_lf text before start c (cs ++ rest) whole at (comment_begins c (cs ++ rest) opens);
  no_cr = inr (ends_the_text text before (c ∷ cs) rest end whole stop ends);
}
token_keeps text before start end s kind (c ∷ []) rest whole at stop sort (stray none opens one) =
    let begins = stray_begins c rest none in
    record {
      no_lf = starts_with_no_lf text before start c rest whole at begins;
      no_cr = inl (ends_with_no_cr text before (c ∷ []) rest end whole stop (omega arith) (other_blank c 13 begins cr_is_blank, tt));
    }
token_keeps text before start end s kind (c ∷ d ∷ cs) rest whole at stop sort (stray none opens one) = absurd (omega arith)

abbrev TokenKeeps : List ℕ → Lexeme → Type 0
TokenKeeps text t = KeepsApart text (start_of t) (end_of t)

with_kept : (text bytes : List ℕ) (start : ℕ) (s : Segment) (ts : List Lexeme) → ((kind : Kind) → s ≡ Token kind → KeepsApart text start (start + length bytes))
    → AllByRecursion (TokenKeeps text) ts → AllByRecursion (TokenKeeps text) (with_token s bytes start ts)
with_kept text bytes start Blank ts here behind = behind
with_kept text bytes start Comment ts here behind = behind
with_kept text bytes start (Token kind) ts here behind = (here kind refl, behind)

parts_keep : (text before : List ℕ) (start : ℕ) (left : List ℕ) (ps : List Part) → text ≡ before ++ encode_utf8_all left → start ≡ length before → IsCut left ps
    → AllByRecursion (TokenKeeps text) (tokens_of start ps)
parts_keep text before start left [] whole at cut = tt
parts_keep text before start left (p ∷ ps) whole at cut =
    let bytes = encode_utf8_all p.characters in
    let split : text ≡ before ++ encode_utf8_all (p.characters ++ cut.0) = whole ∙ ap (λ l. before ++ encode_utf8_all l) cut.1 in
    let further : text ≡ (before ++ bytes) ++ encode_utf8_all cut.0 =
    split ∙ ap (λ l. before ++ l) (encodes-append p.characters cut.0) ∙ sym (append_assoc before bytes (encode_utf8_all cut.0)) in
    with_kept text bytes start p.sort _
    (λ kind sort. token_keeps text before start (start + length bytes) p.sort kind p.characters cut.0 split at (omega arith) sort cut.2)
    (parts_keep text (before ++ bytes) (start + length bytes) cut.0 ps further (omega (arith, length-append before bytes)) cut.3)

all_keep : (text : List ℕ) (ts : List Lexeme) → IsUtf8 text → AreTokensOf text ts → All (TokenKeeps text) ts
all_keep text ts is_text are =
    subst (All (TokenKeeps text)) (sym are.tokens_are)
    (All-from_recursion (TokenKeeps text) _ (parts_keep text [] 0 (chars text) are.parts (sym (encodes-chars text is_text)) refl are.cut))

-- ---- between a CR and an LF

end_apart : (text : List ℕ) (start end : ℕ) → KeepsApart text start end → IsBetweenCrAndLf text end → ⊥
end_apart text start end kept between =
    ⊎_elim
    (λ no_cr. no_cr between.cr)
    (λ last. let none = get_or_past text end 0 (omega arith) in let clash : ◌≡◌ {A = ℕ} 0 10 = sym none ∙ between.lf in absurd cc)
    kept.no_cr

pub tokens_keep : (text : List ℕ) (ts : List Lexeme) → IsUtf8 text → AreTokensOf text ts → All (KeepsLineEnds text) ts
tokens_keep text ts is_text are = λ k t inside.
    let kept = all_keep text ts is_text are k t inside in
    record { start = λ between. kept.no_lf between.lf; end = end_apart text _ _ kept }
