-- A blank ends a segment: a first segment is still the first one if a blank and anything else come after it, unless it is a comment that is not closed.
use Rattle.std.proofs.Common.{◌≡◌, ℕ, ◌<◌, false, cond, Option, Some, None, List, [], ◌∷◌, ◌++◌, length, refl, ap, ◌∙◌, arith}
use Rattle.std.specs.Prelude.{◌==◌, encode_utf8_all}
use Rattle.unicode_ident.proofs.IdentLemmas.{is_xid_continue-ascii}
use Rattle.lam_token.specs.declared.kind.Kind.TheVariants.{Numeral, Arrow, BadComment}
use Rattle.lam_token.specs.declared.segment.Segment.{Segment}
use Rattle.lam_token.specs.declared.segment.Segment.TheVariants.{Blank, Token}
use Rattle.lam_token.specs.declared.segment.Beginning.{Beginning}
use Rattle.lam_token.specs.declared.segment.Beginning.TheVariants as begin
use Rattle.lam_token.specs.Shape.{is_digit, is_continuing, beginning_of, rest_of_comment, alone, closed_at_end, begun, shape_of, opened}
use Rattle.lam_token.specs.Words.{word_kind}
use Rattle.lam_token.specs.Cut.{NothingLonger, IsFirst, longest, unclosed, stray}
use Rattle.lam_token.proofs.Shapes.{longer_fails, not_alone, longer_comment, same_choices}
use Rattle.lam_token.proofs.Segments.{longer_underscore, begun_slash, nothing_begins}
use Rattle.lam_token.proofs.NextSegment.{chosen_is}

-- ---- no segment goes on with a blank

blank_is_no_digit : is_digit 32 ≡ false
unfolding is_digit
blank_is_no_digit = refl

blank_continues_nothing : is_continuing 32 ≡ false
unfolding is_continuing
blank_continues_nothing = is_xid_continue-ascii 32 (omega arith)

-- ---- behind what has a shape

closed_is : (left : Option (List ℕ)) (t : Segment) → closed_at_end left ≡ Some t → left ≡ Some []
closed_is None t e = absurd cc
closed_is (Some []) t e = refl
closed_is (Some (c ∷ cs)) t e = absurd cc

longer_none : (b : Beginning) (c : ℕ) (cs more front after : List ℕ) (s : Segment) → begun b c cs ≡ Some s → cs ++ 32 ∷ more ≡ front ++ after → length cs < length front → begun b c front ≡ None
longer_none begin.Blank c cs more front after s is same longer = not_alone Blank front (omega arith)
longer_none begin.Slash c [] more front after s is same longer = absurd cc
longer_none begin.Slash c (d ∷ cs) more front after s is same longer =
    let star = chosen_is (d == 42) _ s is in
    begun_slash c d (cs ++ 32 ∷ more) front after same
    (λ inside f_is tail. ap (λ b. cond b (closed_at_end (rest_of_comment 1 32 inside)) None) star.0
    ∙ longer_comment cs (32 ∷ more) inside after (closed_is _ s star.1) tail (omega (arith, ap length f_is)))
longer_none begin.Digit c cs more front after s is same longer =
    ap (λ b. cond b (Some (Token Numeral)) None) (longer_fails is_digit cs (32 ∷ more) front after blank_is_no_digit same longer)
longer_none begin.Letter c cs more front after s is same longer =
    ap (λ b. cond b (Some (Token (word_kind c (encode_utf8_all (c ∷ front))))) None) (longer_fails is_continuing cs (32 ∷ more) front after blank_continues_nothing same longer)
longer_none begin.Underscore c cs more front after s is same longer = longer_underscore c cs (32 ∷ more) front after blank_continues_nothing same longer
longer_none begin.Dash c [] more front after s is same longer = absurd cc
longer_none begin.Dash c (d ∷ cs) more [] after s is same longer = absurd (omega arith)
longer_none begin.Dash c (d ∷ cs) more (x ∷ []) after s is same longer = absurd (omega arith)
longer_none begin.Dash c (d ∷ cs) more (x ∷ y ∷ front) after s is same longer = same_choices (x == 62) None
longer_none (begin.Mark k) c cs more front after s is same longer = not_alone (Token k) front (omega arith)
longer_none begin.Stray c cs more front after s is same longer = absurd cc

nothing_longer : (c : ℕ) (cs more : List ℕ) (s : Segment) → shape_of (c ∷ cs) ≡ Some s → NothingLonger (c ∷ cs ++ 32 ∷ more) (c ∷ cs)
nothing_longer c cs more s is [] after same longer = absurd (omega arith)
nothing_longer c cs more s is (d ∷ front) after same longer =
    let head : d ≡ c = cc in
    let tail : cs ++ 32 ∷ more ≡ front ++ after = cc in
    ap (λ x. shape_of (x ∷ front)) head ∙ longer_none (beginning_of c) c cs more front after s is tail (omega arith)

-- what has a shape is the first segment in front of a blank
pub shaped_first : (s : Segment) (cs more : List ℕ) → shape_of cs ≡ Some s → IsFirst s cs (32 ∷ more)
shaped_first s [] more shape = absurd cc
shaped_first s (c ∷ cs) more shape = longest shape (nothing_longer c cs more s shape)

-- ---- behind a stray character

stray_none : (b : Beginning) (c : ℕ) (more front after : List ℕ) → begun b c [] ≡ None → 32 ∷ more ≡ front ++ after → begun b c front ≡ None
stray_none b c more [] after none same = none
stray_none begin.Slash c more (e ∷ front) after none same =
    let head : e ≡ 32 = cc in
    ap (λ x. cond (x == 42) (closed_at_end (rest_of_comment 1 32 front)) None) head
stray_none begin.Dash c more (e ∷ front) after none same =
    let head : e ≡ 32 = cc in
    ap (λ x. cond (x == 62) (alone (Token Arrow) front) None) head
stray_none begin.Stray c more (e ∷ front) after none same = refl
stray_none _ c more (e ∷ front) after none same = absurd cc

opens_none : (b : Beginning) (more : List ℕ) → opened b (32 ∷ more) ≡ false
opens_none begin.Slash more = refl
opens_none _ more = refl

-- ---- behind any segment

pub blank_ends : (s : Segment) (cs rest more : List ℕ) → (s ≡ Token BadComment → rest ≡ [] → ⊥) → IsFirst s cs rest → IsFirst s cs (32 ∷ more)
blank_ends s cs rest more closed (longest shape none) = shaped_first s cs more shape
blank_ends s cs rest more closed (unclosed none is_open ended) = absurd (closed refl ended)
blank_ends s [] rest more closed (stray none not_open single) = absurd (omega arith)
blank_ends s (c ∷ []) rest more closed (stray none not_open single) =
    stray
    (nothing_begins c (32 ∷ more) (beginning_of c) refl (λ front after same. stray_none (beginning_of c) c more front after (none (c ∷ []) rest refl) same))
    (opens_none (beginning_of c) more) refl
blank_ends s (c ∷ d ∷ cs) rest more closed (stray none not_open single) = absurd (omega arith)
