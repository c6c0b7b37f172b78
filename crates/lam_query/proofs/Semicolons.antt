-- A semicolon among the tokens of a text has one byte.
use Rattle.std.proofs.Common.{◌≡◌, ◌==◌, ℕ, ◌+◌, Bool, true, false, cond, Option, Some, None, List, [], ◌∷◌, ◌++◌, length, refl, sym, ap, subst, ◌∙◌, arith}
use Rattle.std.specs.Prelude.{encode_utf8_all}
use Rattle.std.specs.List.{list_all}
use Rattle.std.specs.Option.{unwrap_or}
use Rattle.std.specs.Str.{chars}
use Rattle.std.proofs.lemmas.Bool.{eqb-true}
use Rattle.lam_token.specs.declared.kind.Kind.{Kind}
use Rattle.lam_token.specs.declared.kind.Kind.TheVariants.{Semicolon}
use Rattle.lam_token.specs.declared.segment.Segment.{Segment}
use Rattle.lam_token.specs.declared.segment.Segment.TheVariants.{Token}
use Rattle.lam_token.specs.Cut.{IsFirst, longest, unclosed, stray, AreTokensFrom, IsCut}
use Rattle.lam_token.specs.Lexeme.{Lexeme, kind_of, start_of, end_of}
use Rattle.lam_token.specs.Shape.{is_blank, is_digit, is_continuing, mark_of, beginning_of, begun, alone, shape_of, rest_of_comment, closed_at_end}
use Rattle.lam_token.specs.Words.{word_kind}
use Rattle.lam_token.proofs.Divided.{is_other, word_is_other}
use Rattle.lam_token.proofs.OtherEnds.{in_front, cut_back}

-- ---- no word of letters is one

no_word : (c : ℕ) (word : List ℕ) → Token (word_kind c word) ≡ Token Semicolon → ⊥
no_word c word is =
    let same : word_kind c word ≡ Semicolon = cc in
    let both : true ≡ false = sym (word_is_other c word) ∙ ap is_other same in
    cc

-- ---- it is one character

-- what characters with this shape are
abbrev IsOne : Option Segment → Type 0
IsOne o = o ≡ Some (Token Semicolon)

-- whatever begins it, by one test after another
chosen : {B : Type 0} {R : Type 0} (shape : B → ℕ → List ℕ → Option Segment) (c : ℕ) (cs : List ℕ) (b : Bool) (x y : B)
    → IsOne (shape (cond b x y) c cs) → (b ≡ true → IsOne (shape x c cs) → R) → (IsOne (shape y c cs) → R) → R
chosen shape c cs true x y is first rest = first refl is
chosen shape c cs false x y is first rest = rest is

if_so : (b : Bool) (o : Option Segment) → IsOne (cond b o None) → (IsOne o → ⊥) → ⊥
if_so true o is none = none is
if_so false o is none = cc

no_comment : (left : Option (List ℕ)) → IsOne (closed_at_end left) → ⊥
no_comment None is = cc
no_comment (Some []) is = cc
no_comment (Some (c ∷ cs)) is = cc

no_arrow : (cs : List ℕ) (k : Kind) → is_other k ≡ true → IsOne (alone (Token k) cs) → ⊥
no_arrow [] k other is =
    let same : k ≡ Semicolon = cc in
    let both : true ≡ false = sym other ∙ ap is_other same in
    cc
no_arrow (c ∷ cs) k other is = cc

word_alone : (c : ℕ) → IsOne (Some (Token (word_kind c (encode_utf8_all (c ∷ []))))) → ⊥
word_alone c is = no_word c (encode_utf8_all (c ∷ [])) (ap (λ o. unwrap_or o (Token Semicolon)) is)

word_more : (c d : ℕ) (cs : List ℕ)
    → IsOne (cond (list_all is_continuing (d ∷ cs)) (Some (Token (word_kind c (encode_utf8_all (c ∷ d ∷ cs))))) None) → ⊥
word_more c d cs is =
    if_so (list_all is_continuing (d ∷ cs)) (Some (Token (word_kind c (encode_utf8_all (c ∷ d ∷ cs))))) is
    (λ one. no_word c (encode_utf8_all (c ∷ d ∷ cs)) (ap (λ o. unwrap_or o (Token Semicolon)) one))

mark_is : (c : ℕ) → IsOne (begun (mark_of c) c []) → c ≡ 59
unfolding mark_of
mark_is c is =
    chosen begun c [] (c == 47) _ _ is (λ yes is. absurd cc)
    (λ is. chosen begun c [] (c == 95) _ _ is (λ yes is. absurd cc)
    (λ is. chosen begun c [] (c == 45) _ _ is (λ yes is. absurd cc)
    (λ is. chosen begun c [] (c == 59) _ _ is (λ yes is. eqb-true c 59 yes)
    (λ is. chosen begun c [] (c == 61) _ _ is (λ yes is. absurd cc)
    (λ is. chosen begun c [] (c == 58) _ _ is (λ yes is. absurd cc)
    (λ is. chosen begun c [] (c == 46) _ _ is (λ yes is. absurd cc)
    (λ is. chosen begun c [] (c == 44) _ _ is (λ yes is. absurd cc)
    (λ is. chosen begun c [] (c == 40) _ _ is (λ yes is. absurd cc)
    (λ is. chosen begun c [] (c == 41) _ _ is (λ yes is. absurd cc)
    (λ is. chosen begun c [] (c == 123) _ _ is (λ yes is. absurd cc)
    (λ is. chosen begun c [] (c == 125) _ _ is (λ yes is. absurd cc) (λ is. absurd cc))))))))))))

character_is : (c : ℕ) → IsOne (shape_of (c ∷ [])) → c ≡ 59
unfolding beginning_of
character_is c is =
    chosen begun c [] (is_blank c) _ _ is (λ yes is. absurd cc)
    (λ is. chosen begun c [] (is_digit c) _ _ is (λ yes is. absurd cc)
    (λ is. grind (arith, word_alone, mark_is)))

mark_more : (c d : ℕ) (cs : List ℕ) → IsOne (begun (mark_of c) c (d ∷ cs)) → ⊥
unfolding mark_of
mark_more c d cs is =
    let more = d ∷ cs in
    chosen begun c more (c == 47) _ _ is (λ yes is. if_so (d == 42) _ is (no_comment (rest_of_comment 1 32 cs)))
    (λ is. chosen begun c more (c == 95) _ _ is (λ yes is. if_so (list_all is_continuing more) _ is (λ one. cc))
    (λ is. chosen begun c more (c == 45) _ _ is (λ yes is. if_so (d == 62) _ is (no_arrow cs _ refl))
    (λ is. chosen begun c more (c == 59) _ _ is (λ yes is. cc)
    (λ is. chosen begun c more (c == 61) _ _ is (λ yes is. cc)
    (λ is. chosen begun c more (c == 58) _ _ is (λ yes is. cc)
    (λ is. chosen begun c more (c == 46) _ _ is (λ yes is. cc)
    (λ is. chosen begun c more (c == 44) _ _ is (λ yes is. cc)
    (λ is. chosen begun c more (c == 40) _ _ is (λ yes is. cc)
    (λ is. chosen begun c more (c == 41) _ _ is (λ yes is. cc)
    (λ is. chosen begun c more (c == 123) _ _ is (λ yes is. cc)
    (λ is. chosen begun c more (c == 125) _ _ is (λ yes is. cc) (λ is. cc))))))))))))

no_more : (c d : ℕ) (cs : List ℕ) → IsOne (shape_of (c ∷ d ∷ cs)) → ⊥
unfolding beginning_of
no_more c d cs is =
    let more = d ∷ cs in
    chosen begun c more (is_blank c) _ _ is (λ yes is. cc)
    (λ is. chosen begun c more (is_digit c) _ _ is (λ yes is. if_so (list_all is_digit more) _ is (λ one. cc))
    (λ is. grind (arith, word_more, mark_more)))

one_byte : (s : Segment) (cs rest : List ℕ) → s ≡ Token Semicolon → IsFirst s cs rest → length (encode_utf8_all cs) ≡ 1
unfolding lib.Utf8.encode
one_byte s [] rest is (longest shape none) = absurd cc
one_byte s (c ∷ []) rest is (longest shape none) =
    ap (λ d. length (encode_utf8_all (d ∷ []))) (character_is c (shape ∙ ap (λ t. Some t) is))
one_byte s (c ∷ d ∷ cs) rest is (longest shape none) = absurd (no_more c d cs (shape ∙ ap (λ t. Some t) is))
one_byte s cs rest is (unclosed none is_open ended) = absurd cc
one_byte s cs rest is (stray none not_open single) = absurd cc

-- ---- so it is among tokens

pub semicolon_ends : (start : ℕ) (text : List ℕ) (ts us : List Lexeme) (t : Lexeme) → AreTokensFrom start text (ts ++ t ∷ us) → kind_of t ≡ Semicolon
    → end_of t ≡ start_of t + 1
semicolon_ends start text ts us t are kind =
    let found = in_front start are.parts ts t us (sym are.tokens_are) in
    let cut = cut_back (chars text) found.front (found.first ∷ found.back) (subst (IsCut (chars text)) found.splits are.cut) in
    let one = one_byte found.first.sort found.first.characters cut.0 (found.sort ∙ ap Token kind) cut.2 in
    omega (arith, ap end_of found.is, one)
