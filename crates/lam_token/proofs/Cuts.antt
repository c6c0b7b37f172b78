-- A text has one cut, and its tokens are slices of it in ascending order.
use Rattle.std.proofs.Common.{◌≡◌, ℕ, ◌+◌, ◌-◌, ◌≤◌, ◌<◌, true, false, Some, None, List, [], ◌∷◌, ◌++◌, length, take, drop, ⊎_elim, sym, refl, ap, ◌∙◌, subst, append_assoc, arith, length-append, add-one, zero, suc}
use Rattle.std.specs.Prelude.{encode_utf8, encode_utf8_all, map, slice_index, All, ◌==◌}
use Rattle.std.specs.List.{slice_range, AllByRecursion}
use Rattle.std.specs.List.Sorted.{IsStrictlyIncreasing}
use Rattle.std.specs.Str.{chars, IsUtf8, IsCharBoundary}
use Rattle.std.proofs.lemmas.Bool.{cases_order, eqb-true, eqb-false}
use Rattle.std.proofs.lemmas.List.{append-nil, nil_from_length}
use Rattle.std.proofs.lemmas.List.Elements.{All-from_recursion}
use Rattle.std.proofs.lemmas.Str.{encodes-append, encodes-chars, chars-nil, length-le-encodes, IsCharBoundary-at_seam, IsUtf8-past_char}
use Rattle.std.proofs.Math.Seq.{take-append_seam, drop-append_seam}
use Rattle.lam_token.specs.declared.kind.Kind.{Kind}
use Rattle.lam_token.specs.declared.kind.Kind.TheVariants.{Name, TypeName, BadComment}
use Rattle.lam_token.specs.declared.segment.Segment.{Segment}
use Rattle.lam_token.specs.declared.segment.Segment.TheVariants.{Blank, Comment, Token}
use Rattle.lam_token.specs.declared.segment.Beginning.{Beginning}
use Rattle.lam_token.specs.declared.segment.Beginning.TheVariants as begin
use Rattle.lam_token.specs.Lexeme.{Lexeme, lexeme_at, text_of, start_of, end_of}
use Rattle.lam_token.specs.Shape.{beginning_of, shape_of, opened, opens_comment}
use Rattle.lam_token.specs.inner.Reading.{SegmentIs}
use Rattle.lam_token.proofs.Reading.{length_front, chars_front}
use Rattle.lam_token.specs.Cut.{NothingBegins, NothingLonger, IsFirst, longest, unclosed, stray, Part, IsCut, with_token, tokens_of, AreTokensFrom, AreTokensOf, StandsIn, IsWholeKind}

-- two fronts of a list that are equally long are the same
same_front : (xs ys r m : List ℕ) → xs ++ r ≡ ys ++ m → length xs ≡ length ys → (xs ≡ ys) × (r ≡ m)
same_front [] [] r m same lengths = (refl, same)
same_front [] (y ∷ ys) r m same lengths = absurd (omega arith)
same_front (x ∷ xs) [] r m same lengths = absurd (omega arith)
same_front (x ∷ xs) (y ∷ ys) r m same lengths =
    let head : x ≡ y = cc in
    let tail : xs ++ r ≡ ys ++ m = cc in
    let found = same_front xs ys r m tail (omega arith) in
    ((λ i. head i ∷ found.0 i), found.1)

-- two first segments of one text are the same
abbrev SameFirst : Segment → Segment → List ℕ → List ℕ → List ℕ → List ℕ → Type 0
SameFirst s t cs ds rest more = (s ≡ t) × (cs ≡ ds) × (rest ≡ more)

two_longest : (s t : Segment) (cs ds rest more : List ℕ) → cs ++ rest ≡ ds ++ more → shape_of cs ≡ Some s → NothingLonger (cs ++ rest) cs → shape_of ds ≡ Some t → NothingLonger (ds ++ more) ds → SameFirst s t cs ds rest more
two_longest s t cs ds rest more same one none_longer other none_longer' =
    ⊎_elim
    (λ (equal : length cs ≡ length ds).
    let found = same_front cs ds rest more same equal in
    let sorts : Some s ≡ Some t = sym one ∙ ap shape_of found.0 ∙ other in
    let sort : s ≡ t = cc in
    (sort, found.0, found.1))
    (λ unequal. ⊎_elim
    (λ (shorter : length cs < length ds). let none = none_longer ds more same shorter in absurd cc)
    (λ (shorter : length ds < length cs). let none = none_longer' cs rest (sym same) shorter in absurd cc)
    unequal)
    (cases_order (length cs) (length ds))

one_first : (s t : Segment) (cs ds rest more : List ℕ) → cs ++ rest ≡ ds ++ more → IsFirst s cs rest → IsFirst t ds more → SameFirst s t cs ds rest more
one_first s t cs ds rest more same (longest one none_longer) (longest other none_longer') =
    two_longest s t cs ds rest more same one none_longer other none_longer'
one_first s t cs ds rest more same (longest one none_longer) (unclosed none is_open ends) =
    let no = none cs rest (sym same) in absurd cc
one_first s t cs ds rest more same (longest one none_longer) (stray none not_open single) =
    let no = none cs rest (sym same) in absurd cc
one_first s t cs ds rest more same (unclosed none is_open ends) (longest other none_longer) =
    let no = none ds more same in absurd cc
one_first s t cs ds rest more same (unclosed none is_open ends) (unclosed none' is_open' ends') =
    let lengths : length cs ≡ length ds = omega (arith, length-append cs rest, length-append ds more, ap length same, ap length ends, ap length ends') in
    let found = same_front cs ds rest more same lengths in
    (refl, found.0, found.1)
one_first s t cs ds rest more same (unclosed none is_open ends) (stray none' not_open single) =
    let no = ap opens_comment same in absurd cc
one_first s t cs ds rest more same (stray none not_open single) (longest other none_longer) =
    let no = none ds more same in absurd cc
one_first s t cs ds rest more same (stray none not_open single) (unclosed none' is_open ends) =
    let no = ap opens_comment same in absurd cc
one_first s t cs ds rest more same (stray none not_open single) (stray none' not_open' single') =
    let lengths : length cs ≡ length ds = omega arith in
    let found = same_front cs ds rest more same lengths in
    (refl, found.0, found.1)

-- a first segment has a character
pub some_characters : (s : Segment) (cs rest : List ℕ) → IsFirst s cs rest → 0 < length cs
some_characters s [] rest (longest one none_longer) = absurd cc
some_characters s (c ∷ cs) rest (longest one none_longer) = omega arith
some_characters s [] rest (unclosed none is_open ends) = let no = ap opens_comment ends in absurd cc
some_characters s (c ∷ cs) rest (unclosed none is_open ends) = omega arith
some_characters s cs rest (stray none not_open single) = omega arith

not_empty : (p : Part) (rest : List ℕ) → IsFirst p.sort p.characters rest → [] ≡ p.characters ++ rest → ⊥
not_empty p rest is_first same =
    let some = some_characters p.sort p.characters rest is_first in
    absurd (omega (arith, ap length same, length-append p.characters rest))

one_cut : (text text' : List ℕ) (ps qs : List Part) → text ≡ text' → IsCut text ps → IsCut text' qs → ps ≡ qs
one_cut text text' [] [] same cut cut' = refl
one_cut text text' [] (q ∷ qs) same cut cut' = absurd (not_empty q cut'.0 cut'.2 (sym cut ∙ same ∙ cut'.1))
one_cut text text' (p ∷ ps) [] same cut cut' = absurd (not_empty p cut.0 cut.2 (sym cut' ∙ sym same ∙ cut.1))
one_cut text text' (p ∷ ps) (q ∷ qs) same cut cut' =
    let found = one_first p.sort q.sort p.characters q.characters cut.0 cut'.0 (sym cut.1 ∙ same ∙ cut'.1) cut.2 cut'.2 in
    let others = one_cut cut.0 cut'.0 ps qs found.2 cut.3 cut'.3 in
    (λ i. record { sort = found.0 i; characters = found.1 i } ∷ others i)

-- a text has one list of tokens

pub one_list_from : (start : ℕ) (text : List ℕ) (ts us : List Lexeme) → AreTokensFrom start text ts → AreTokensFrom start text us → us ≡ ts
one_list_from start text ts us are are' =
    are'.tokens_are ∙ ap (tokens_of start) (one_cut _ _ are'.parts are.parts refl are'.cut are.cut) ∙ sym are.tokens_are

pub one_list : (text : List ℕ) (ts us : List Lexeme) → AreTokensOf text ts → AreTokensOf text us → us ≡ ts
one_list text ts us are are' = one_list_from 0 text ts us are are'

-- each token is the slice of the text between its start and its end

abbrev IsSlice : List ℕ → Lexeme → Type 0
IsSlice text t = slice_range text (start_of t) (end_of t) ≡ text_of t

slice_at : (before bytes after : List ℕ) (kind : Kind) → IsSlice (before ++ (bytes ++ after)) (lexeme_at kind bytes (length before))
slice_at before bytes after kind =
    let count : length before + length bytes - length before ≡ length bytes = omega arith in
    ap (λ n. take n (drop (length before) (before ++ (bytes ++ after)))) count
    ∙ ap (take (length bytes)) (drop-append_seam before (bytes ++ after))
    ∙ take-append_seam bytes after

with_slice : (text before bytes after : List ℕ) (start : ℕ) (s : Segment) (ts : List Lexeme) → text ≡ before ++ (bytes ++ after) → start ≡ length before → AllByRecursion (IsSlice text) ts → AllByRecursion (IsSlice text) (with_token s bytes start ts)
with_slice text before bytes after start Blank ts whole at slices = slices
with_slice text before bytes after start Comment ts whole at slices = slices
with_slice text before bytes after start (Token kind) ts whole at slices =
    let place = slice_at before bytes after kind in
    (rw (whole, at) place, slices)

tokens-slices : (text before : List ℕ) (start : ℕ) (left : List ℕ) (ps : List Part) → text ≡ before ++ encode_utf8_all left → start ≡ length before → IsCut left ps → AllByRecursion (IsSlice text) (tokens_of start ps)
tokens-slices text before start left [] whole at cut = tt
tokens-slices text before start left (p ∷ ps) whole at cut =
    let bytes = encode_utf8_all p.characters in
    let split : encode_utf8_all left ≡ bytes ++ encode_utf8_all cut.0 = ap encode_utf8_all cut.1 ∙ encodes-append p.characters cut.0 in
    let whole' : text ≡ before ++ (bytes ++ encode_utf8_all cut.0) = whole ∙ ap (λ l. before ++ l) split in
    let next : start + length bytes ≡ length (before ++ bytes) = omega (arith, length-append before bytes) in
    with_slice text before bytes (encode_utf8_all cut.0) start p.sort _ whole' at
    (tokens-slices text (before ++ bytes) (start + length bytes) cut.0 ps (whole' ∙ sym (append_assoc before bytes (encode_utf8_all cut.0))) next cut.3)

pub tokens_slices : (text : List ℕ) (ts : List Lexeme) → IsUtf8 text → AreTokensOf text ts → All (λ t. slice_range text (start_of t) (end_of t) ≡ text_of t) ts
tokens_slices text ts is_text are =
    subst (All (IsSlice text)) (sym are.tokens_are)
    (All-from_recursion (IsSlice text) _ (tokens-slices text [] 0 (chars text) are.parts (sym (encodes-chars text is_text)) refl are.cut))

-- the starts ascend

abbrev StartsFrom : ℕ → List Lexeme → Type 0
StartsFrom n [] = Unit {0}
StartsFrom n (t ∷ ts) = (n ≤ start_of t) × StartsFrom (start_of t + 1) ts

starts_lower : (m n : ℕ) (ts : List Lexeme) → m ≤ n → StartsFrom n ts → StartsFrom m ts
starts_lower m n [] below starts = tt
starts_lower m n (t ∷ ts) below starts = (omega (arith, starts.0), starts.1)

with_start : (start : ℕ) (bytes : List ℕ) (s : Segment) (ts : List Lexeme) → 0 < length bytes → StartsFrom (start + length bytes) ts → StartsFrom start (with_token s bytes start ts)
with_start start bytes Blank ts some starts = starts_lower start (start + length bytes) ts (omega arith) starts
with_start start bytes Comment ts some starts = starts_lower start (start + length bytes) ts (omega arith) starts
with_start start bytes (Token kind) ts some starts = (omega arith, starts_lower (start + 1) (start + length bytes) ts (omega arith) starts)

tokens-start : (start : ℕ) (left : List ℕ) (ps : List Part) → IsCut left ps → StartsFrom start (tokens_of start ps)
tokens-start start left [] cut = tt
tokens-start start left (p ∷ ps) cut =
    let bytes = encode_utf8_all p.characters in
    with_start start bytes p.sort _
    (omega (arith, some_characters p.sort p.characters cut.0 cut.2, length-le-encodes p.characters))
    (tokens-start (start + length bytes) cut.0 ps cut.3)

next_start : (n : ℕ) (ts : List Lexeme) → StartsFrom n ts → (k : ℕ) → suc k < length (map start_of ts) → slice_index (map start_of ts) k < slice_index (map start_of ts) (suc k)
next_start n [] starts k inside = absurd (omega arith)
next_start n (t ∷ []) starts k inside = absurd (omega arith)
next_start n (t ∷ u ∷ ts) starts zero inside = omega (arith, starts.1.0)
next_start n (t ∷ u ∷ ts) starts (suc k) inside = next_start (start_of t + 1) (u ∷ ts) starts.1 k (omega arith)

starts_increase : (n : ℕ) (ts : List Lexeme) → StartsFrom n ts → (k : ℕ) → k + 1 < length (map start_of ts) → slice_index (map start_of ts) k < slice_index (map start_of ts) (k + 1)
starts_increase n ts starts k inside = rw add-one (next_start n ts starts k (omega (arith, inside)))

pub tokens_ascend : (text : List ℕ) (ts : List Lexeme) → AreTokensOf text ts → IsStrictlyIncreasing (map start_of ts)
tokens_ascend text ts are =
    subst (λ l. IsStrictlyIncreasing (map start_of l)) (sym are.tokens_are)
    (starts_increase 0 _ (tokens-start 0 (chars text) are.parts are.cut))

-- each token begins and ends between characters

utf8_behind : (cs text rest : List ℕ) → IsUtf8 text → text ≡ encode_utf8_all cs ++ rest → IsUtf8 rest
utf8_behind [] text rest is_text cut = subst IsUtf8 cut is_text
utf8_behind (c ∷ cs) text rest is_text cut =
    let first : text ≡ encode_utf8 c ++ (encode_utf8_all cs ++ rest) = cut ∙ append_assoc (encode_utf8 c) (encode_utf8_all cs) rest in
    utf8_behind cs (encode_utf8_all cs ++ rest) rest (IsUtf8-past_char text (encode_utf8_all cs ++ rest) c is_text first) refl

boundary : (text before after : List ℕ) (at : ℕ) → text ≡ before ++ after → at ≡ length before → IsUtf8 after → IsCharBoundary text at
boundary text before after at cut is is_text = subst (IsCharBoundary text) (sym is) (IsCharBoundary-at_seam text before after cut is_text)

with_standing : (text bytes : List ℕ) (start : ℕ) (s : Segment) (ts : List Lexeme) → IsCharBoundary text start → IsCharBoundary text (start + length bytes) → AllByRecursion (StandsIn text) ts → AllByRecursion (StandsIn text) (with_token s bytes start ts)
with_standing text bytes start Blank ts first last stand = stand
with_standing text bytes start Comment ts first last stand = stand
with_standing text bytes start (Token kind) ts first last stand = ((first, last), stand)

tokens-stand : (text before : List ℕ) (start : ℕ) (left : List ℕ) (ps : List Part) → IsUtf8 (encode_utf8_all left) → text ≡ before ++ encode_utf8_all left → start ≡ length before → IsCut left ps → AllByRecursion (StandsIn text) (tokens_of start ps)
tokens-stand text before start left [] is_text whole at cut = tt
tokens-stand text before start left (p ∷ ps) is_text whole at cut =
    let bytes = encode_utf8_all p.characters in
    let split : encode_utf8_all left ≡ bytes ++ encode_utf8_all cut.0 = ap encode_utf8_all cut.1 ∙ encodes-append p.characters cut.0 in
    let is_rest = utf8_behind p.characters (encode_utf8_all left) (encode_utf8_all cut.0) is_text split in
    let whole' : text ≡ (before ++ bytes) ++ encode_utf8_all cut.0 = whole ∙ ap (λ l. before ++ l) split ∙ sym (append_assoc before bytes (encode_utf8_all cut.0)) in
    let next : start + length bytes ≡ length (before ++ bytes) = omega (arith, length-append before bytes) in
    with_standing text bytes start p.sort _
    (boundary text before (encode_utf8_all left) start whole at is_text)
    (boundary text (before ++ bytes) (encode_utf8_all cut.0) (start + length bytes) whole' next is_rest)
    (tokens-stand text (before ++ bytes) (start + length bytes) cut.0 ps is_rest whole' next cut.3)

pub tokens_stand : (text : List ℕ) (ts : List Lexeme) → IsUtf8 text → AreTokensOf text ts → All (StandsIn text) ts
tokens_stand text ts is_text are =
    let same = encodes-chars text is_text in
    subst (All (StandsIn text)) (sym are.tokens_are)
    (All-from_recursion (StandsIn text) _ (tokens-stand text [] 0 (chars text) are.parts (subst IsUtf8 (sym same) is_text) (sym same) refl are.cut))

-- the tokens of the rest, which begins at this offset, are all the tokens of the text: what comes before has none
abbrev pub Skips : (start : ℕ) (text : List ℕ) (offset : ℕ) (rest : List ℕ) → Type 0
Skips start text offset rest = (others : List Lexeme) → AreTokensFrom offset rest others → AreTokensFrom start text others

-- a segment, and the tokens behind it
segment_and : (text rest : List ℕ) (s : Segment) (start : ℕ) (others : List Lexeme) → (is : SegmentIs text s rest) → AreTokensFrom (start + length (encode_utf8_all is.segment)) rest others → AreTokensFrom start text (with_token s (encode_utf8_all is.segment) start others)
segment_and text rest s start others is are = record {
  parts = record { sort = s; characters = is.segment } ∷ are.parts;
  cut = (chars rest, is.front.characters, is.is_first, are.cut);
  tokens_are = ap (with_token s (encode_utf8_all is.segment) start) are.tokens_are;
}

no_token : (s : Segment) (bytes : List ℕ) (start : ℕ) (others : List Lexeme) → ((kind : Kind) → s ≡ Token kind → ⊥) → with_token s bytes start others ≡ others
no_token Blank bytes start others none = refl
no_token Comment bytes start others none = refl
no_token (Token kind) bytes start others none = absurd (none kind refl)

-- one more segment is skipped, which has no token
pub skip_more : (start : ℕ) (text rest after : List ℕ) (s : Segment) (offset next : ℕ) → (is : SegmentIs rest s after) → ((kind : Kind) → s ≡ Token kind → ⊥) → next ≡ offset + length (encode_utf8_all is.segment) → Skips start text offset rest → Skips start text next after
skip_more start text rest after s offset next is none at skips others are =
    skips others
    (subst (AreTokensFrom offset rest) (no_token s (encode_utf8_all is.segment) offset others none)
    (segment_and rest after s offset others is (subst (λ n. AreTokensFrom n after others) at are)))

-- the token behind what was skipped is the first
pub token_first : (start : ℕ) (text rest after : List ℕ) (s : Segment) (kind : Kind) (front : List ℕ) (offset : ℕ) (t : Lexeme) (others : List Lexeme) → (is : SegmentIs rest s after) → s ≡ Token kind → front ≡ encode_utf8_all is.segment → t ≡ lexeme_at kind front offset → Skips start text offset rest → AreTokensFrom (end_of t) after others → AreTokensFrom start text (t ∷ others)
token_first start text rest after s kind front offset t others is sort bytes token skips are =
    let found : t ≡ lexeme_at kind (encode_utf8_all is.segment) offset = token ∙ ap (λ l. lexeme_at kind l offset) bytes in
    let behind : AreTokensFrom (offset + length (encode_utf8_all is.segment)) after others = subst (λ n. AreTokensFrom n after others) (ap end_of found) are in
    let told : with_token s (encode_utf8_all is.segment) offset others ≡ t ∷ others = ap (λ k. with_token k (encode_utf8_all is.segment) offset others) sort ∙ ap (λ u. u ∷ others) (sym found) in
    skips (t ∷ others) (subst (AreTokensFrom offset rest) told (segment_and rest after s offset others is behind))

-- no token is left
pub none_left : (start : ℕ) (text rest : List ℕ) (offset : ℕ) → rest ≡ [] → Skips start text offset rest → AreTokensFrom start text []
none_left start text rest offset is_end skips = skips [] (record { parts = []; cut = ap chars is_end ∙ chars-nil; tokens_are = refl })

-- The text is what was passed over, followed by the rest. If the text begins at `start`, the rest begins at `offset`.
pub record StandsBehind (start : ℕ) (text : List ℕ) (offset : ℕ) (rest : List ℕ) : Type 0 where
  pub passed : List ℕ
  pub cut : text ≡ passed ++ rest
  pub at : offset ≡ start + length passed

-- the same after one more segment
pub stands_further : (start : ℕ) (text rest after : List ℕ) (s : Segment) (offset next : ℕ) → (is : SegmentIs rest s after) → next ≡ offset + length (encode_utf8_all is.segment) → StandsBehind start text offset rest → StandsBehind start text next after
stands_further start text rest after s offset next is further stands =
    let bytes = encode_utf8_all is.segment in
    record {
      passed = stands.passed ++ bytes;
      cut = stands.cut ∙ ap (λ l. stands.passed ++ l) is.front.bytes ∙ sym (append_assoc stands.passed bytes after);
      at = omega (arith, further, stands.at, length-append stands.passed bytes);
    }

-- the rest is the text from that offset on
pub rest_of_text : (start : ℕ) (text : List ℕ) (offset : ℕ) (rest : List ℕ) → StandsBehind start text offset rest → rest ≡ drop (offset - start) text
rest_of_text start text offset rest stands =
    let count : offset - start ≡ length stands.passed = omega (arith, stands.at) in
    sym (ap (λ n. drop n text) count ∙ ap (drop (length stands.passed)) stands.cut ∙ drop-append_seam stands.passed rest)

-- the tokens of the whole are those so far and those of the rest
abbrev pub GoesOn : (whole rest : List ℕ) → (start : ℕ) → (so_far : List Lexeme) → Type 0
GoesOn whole rest start so_far = (others : List Lexeme) → AreTokensFrom start rest others → AreTokensOf whole (so_far ++ others)

pub goes_no_further : (whole rest : List ℕ) (start : ℕ) (so_far : List Lexeme) → AreTokensFrom start rest [] → GoesOn whole rest start so_far → AreTokensOf whole so_far
goes_no_further whole rest start so_far none goes = subst (AreTokensOf whole) (append-nil so_far) (goes [] none)

-- a first segment is also the first segment of its own characters alone

no_more : (cs : List ℕ) → NothingLonger (cs ++ []) cs
no_more cs front after cut longer =
    absurd (omega (arith, longer, ap length (sym (append-nil cs) ∙ cut), length-append front after))

fewer_begin : (cs rest : List ℕ) → NothingBegins (cs ++ rest) → NothingBegins (cs ++ [])
fewer_begin cs rest none front after cut =
    none front (after ++ rest) (ap (λ l. l ++ rest) (sym (append-nil cs) ∙ cut) ∙ append_assoc front after rest)

-- a single character does not open a comment
opened_by_nothing : (b : Beginning) → opened b [] ≡ false
opened_by_nothing begin.Blank = refl
opened_by_nothing begin.Slash = refl
opened_by_nothing begin.Digit = refl
opened_by_nothing begin.Letter = refl
opened_by_nothing begin.Underscore = refl
opened_by_nothing begin.Dash = refl
opened_by_nothing (begin.Mark kind) = refl
opened_by_nothing begin.Stray = refl

opens_alone : (cs : List ℕ) → length cs ≡ 1 → opens_comment (cs ++ []) ≡ false
opens_alone [] single = absurd (omega arith)
opens_alone (c ∷ []) single = opened_by_nothing (beginning_of c)
opens_alone (c ∷ d ∷ cs) single = absurd (omega arith)

first_alone : (s : Segment) (cs rest : List ℕ) → IsFirst s cs rest → IsFirst s cs []
first_alone s cs rest (longest one none_longer) = longest one (no_more cs)
first_alone s cs rest (unclosed none is_open ends) = subst (IsFirst (Token BadComment) cs) ends (unclosed none is_open ends)
first_alone s cs rest (stray none not_open single) = stray (fewer_begin cs rest none) (opens_alone cs single) single

-- a token's kind is the one that its text has by itself
pub segment_alone : (text rest : List ℕ) (s : Segment) (kind : Kind) (front : List ℕ) → IsUtf8 text → (is : SegmentIs text s rest) → s ≡ Token kind → front ≡ encode_utf8_all is.segment → IsWholeKind (chars front) (Some kind)
segment_alone text rest s kind front is_text is sort bytes =
    let spelt : chars front ≡ is.segment = ap chars bytes ∙ chars_front text is.segment rest is_text is.front in
    subst (λ k. IsFirst k (chars front) []) sort
    (subst (λ l. IsFirst s l []) (sym spelt) (first_alone s is.segment (chars rest) is.is_first))

-- the kind of the whole text

pub name_shape : (k : Kind) (text : List ℕ) → IsFirst (Token k) text [] → k ≡ Name → shape_of text ≡ Some (Token Name)
name_shape k text (longest one none_longer) is = one ∙ ap (λ n. Some (Token n)) is
name_shape k text (unclosed none is_open ends) is = absurd cc
name_shape k text (stray none not_open single) is = absurd cc

pub type_name_shape : (k : Kind) (text : List ℕ) → IsFirst (Token k) text [] → k ≡ TypeName → shape_of text ≡ Some (Token TypeName)
type_name_shape k text (longest one none_longer) is = one ∙ ap (λ n. Some (Token n)) is
type_name_shape k text (unclosed none is_open ends) is = absurd cc
type_name_shape k text (stray none not_open single) is = absurd cc

-- a text that goes on after its first segment has no shape as a whole
longer_whole : (s : Segment) (cs rest : List ℕ) → IsFirst s cs rest → 0 < length rest → shape_of (cs ++ rest) ≡ None
longer_whole s cs rest (longest one none_longer) more =
    none_longer (cs ++ rest) [] (sym (append-nil _)) (omega (arith, length-append cs rest))
longer_whole s cs rest (unclosed none is_open ends) more = none (cs ++ rest) [] (sym (append-nil _))
longer_whole s cs rest (stray none not_open single) more = none (cs ++ rest) [] (sym (append-nil _))

some_chars : (bytes : List ℕ) → IsUtf8 bytes → (bytes ≡ [] → ⊥) → 0 < length (chars bytes)
some_chars bytes is_text some = counted (chars bytes) refl
  where
    counted : (cs : List ℕ) → chars bytes ≡ cs → 0 < length cs
    counted [] e = absurd (some (sym (encodes-chars bytes is_text) ∙ ap encode_utf8_all e))
    counted (c ∷ cs) e = omega arith

pub more_is_none : (text rest : List ℕ) (s : Segment) → SegmentIs text s rest → false ≡ (length rest == 0) → IsWholeKind (chars text) None
more_is_none text rest s is not_empty kind shape =
    let some : rest ≡ [] → ⊥ = λ none. eqb-false (length rest) 0 (sym not_empty) (ap length none) in
    let none = ap shape_of is.front.characters ∙ longer_whole s is.segment (chars rest) is.is_first (some_chars rest is.front.is_text some) in
    absurd cc

pub empty_is_none : (text : List ℕ) → text ≡ [] → IsWholeKind (chars text) None
empty_is_none text is_end kind shape =
    let none : shape_of (chars text) ≡ None = ap shape_of (ap chars is_end ∙ chars-nil) in
    absurd cc

-- the text is its first segment
pub all_is_first : (text rest : List ℕ) (s t : Segment) → SegmentIs text s rest → true ≡ (length rest == 0) → s ≡ t → IsFirst t (chars text) []
all_is_first text rest s t is is_empty sort =
    let none : chars rest ≡ [] = ap chars (nil_from_length rest (eqb-true (length rest) 0 (sym is_empty))) ∙ chars-nil in
    let whole : is.segment ≡ chars text = sym (append-nil _) ∙ ap (λ l. is.segment ++ l) (sym none) ∙ sym is.front.characters in
    subst (λ k. IsFirst k (chars text) []) sort
    (subst (λ l. IsFirst s (chars text) l) none (subst (λ l. IsFirst s l (chars rest)) whole is.is_first))

-- what is left behind a segment is shorter
pub segment_shorter : (text rest : List ℕ) (s : Segment) → SegmentIs text s rest → length rest < length text
segment_shorter text rest s is =
    omega (arith, length_front text is.segment rest is.front, some_characters s is.segment (chars rest) is.is_first, length-le-encodes is.segment)
