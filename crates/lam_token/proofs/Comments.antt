-- Reading marks from the left finds the inside of a comment, and nothing else.
use Rattle.std.proofs.Common.{◌≡◌, ℕ, zero, suc, ◌+◌, ◌-◌, ◌==◌, ◌↔◌, Bool, true, false, Option, Some, List, [], ◌∷◌, sym, refl, ap, ◌∙◌, subst, arith}
use Rattle.std.proofs.lemmas.Bool.{eqb-true, and_parts, or_parts}
use Rattle.std.proofs.lemmas.Bool.Decides.{nat_tests}
use Rattle.lam_token.specs.Shape.{rest_of_comment, is_opening, is_closing}
use Rattle.lam_token.specs.Comment.{begins_mark, Inside, closes, nests, goes_on}
use Rattle.lam_token.proofs.Reading.{behind_opening, behind_closing, behind_last, behind_other}

-- this many nested comments are closed, one after another
abbrev Insides : ℕ → List ℕ → List ℕ → Type 0
Insides zero cs rest = cs ≡ rest
Insides (suc n) cs rest = (mid : List ℕ) × Inside cs mid × Insides n mid rest

opening_is : (b c : ℕ) → is_opening b c ≡ true → (b ≡ 47) × (c ≡ 42)
unfolding is_opening
opening_is b c e = let p = and_parts (b == 47) (c == 42) e in (eqb-true b 47 p.0, eqb-true c 42 p.1)

closing_is : (b c : ℕ) → is_closing b c ≡ true → (b ≡ 42) × (c ≡ 47)
unfolding is_closing
closing_is b c e = let p = and_parts (b == 42) (c == 47) e in (eqb-true b 42 p.0, eqb-true c 47 p.1)

no_mark : (b c : ℕ) (cs : List ℕ) → is_opening b c ≡ false → is_closing b c ≡ false → begins_mark (b ∷ c ∷ cs) ≡ false
no_mark b c cs e f = rw (e, f) refl

-- a space is part of no mark
space_opens : (c : ℕ) → is_opening 32 c ≡ false
unfolding is_opening
space_opens c = refl

space_closes : (c : ℕ) → is_closing 32 c ≡ false
unfolding is_closing
space_closes c = refl

behind_space : (depth c : ℕ) (cs : List ℕ) → rest_of_comment depth 32 (c ∷ cs) ≡ rest_of_comment depth c cs
behind_space depth c cs = behind_other depth 32 c cs (space_opens c) (space_closes c)

rest_of_comment-star : (depth : ℕ) (rest : List ℕ) → (depth == 1) ≡ false → rest_of_comment depth 42 (47 ∷ rest) ≡ rest_of_comment (depth - 1) 32 rest
unfolding is_opening is_closing
rest_of_comment-star depth rest more = behind_closing depth 42 47 rest refl refl more

rest_of_comment-star_last : (rest : List ℕ) → rest_of_comment 1 42 (47 ∷ rest) ≡ Some rest
unfolding is_opening is_closing
rest_of_comment-star_last rest = behind_last 42 47 rest refl refl

rest_of_comment-slash : (depth : ℕ) (rest : List ℕ) → rest_of_comment depth 47 (42 ∷ rest) ≡ rest_of_comment (depth + 1) 32 rest
unfolding is_opening is_closing
rest_of_comment-slash depth rest = behind_opening depth 47 42 rest refl

not_one : (n : ℕ) → (suc (suc n) == 1) ≡ false
not_one n = grind (arith, nat_tests)

heads : (b c : ℕ) (xs ys : List ℕ) → b ∷ xs ≡ c ∷ ys → b ≡ c
heads b c xs ys e = cc

-- ---- what is read is an inside

unspaced : (xs cs mid : List ℕ) → Inside xs mid → xs ≡ 32 ∷ cs → Inside cs mid
unspaced _ cs mid closes e = absurd (omega (arith, heads 42 32 _ _ e))
unspaced _ cs mid (nests i j) e = absurd (omega (arith, heads 47 32 _ _ e))
unspaced _ cs mid (goes_on {cs = ds} plain i) e = let same : ds ≡ cs = cc in subst (λ l. Inside l mid) same i

unspaced_all : (n : ℕ) (cs rest : List ℕ) → Insides (suc n) (32 ∷ cs) rest → Insides (suc n) cs rest
unspaced_all n cs rest i = (i.0, unspaced (32 ∷ cs) cs i.0 i.1 refl, i.2)

-- if reading these characters after `b` leaves a rest, then `b` and they are the insides of n + 1 nested comments, up to this rest
abbrev IsSound : List ℕ → Type 0
IsSound cs = (n b : ℕ) (rest : List ℕ) → rest_of_comment (suc n) b cs ≡ Some rest → Insides (suc n) (b ∷ cs) rest

sound_at : (o s : Bool) (c : ℕ) (cs : List ℕ) (n b : ℕ) (rest : List ℕ) → IsSound cs → is_opening b c ≡ o → is_closing b c ≡ s → rest_of_comment (suc n) b (c ∷ cs) ≡ Some rest → Insides (suc n) (b ∷ c ∷ cs) rest
sound_at true s c cs n b rest shorter opens is e =
    let marks = opening_is b c opens in
    let more : suc n + 1 ≡ suc (suc n) = omega arith in
    let i = unspaced_all (suc n) cs rest (shorter (suc n) 32 rest (sym (ap (λ d. rest_of_comment d 32 cs) more) ∙ sym (behind_opening (suc n) b c cs opens) ∙ e)) in
    (i.2.0, subst (λ x. Inside (x ∷ c ∷ cs) i.2.0) (sym marks.0) (subst (λ x. Inside (47 ∷ x ∷ cs) i.2.0) (sym marks.1) (nests i.1 i.2.1)), i.2.2)
sound_at false true c cs zero b rest shorter opens is e =
    let marks = closing_is b c is in
    let found : Some cs ≡ Some rest = sym (behind_last b c cs opens is) ∙ e in
    (cs, subst (λ x. Inside (x ∷ c ∷ cs) cs) (sym marks.0) (subst (λ x. Inside (42 ∷ x ∷ cs) cs) (sym marks.1) closes), cc)
sound_at false true c cs (suc n) b rest shorter opens is e =
    let marks = closing_is b c is in
    let less : suc (suc n) - 1 ≡ suc n = omega arith in
    let i = unspaced_all n cs rest (shorter n 32 rest (sym (ap (λ d. rest_of_comment d 32 cs) less) ∙ sym (behind_closing (suc (suc n)) b c cs opens is (not_one n)) ∙ e)) in
    (cs, subst (λ x. Inside (x ∷ c ∷ cs) cs) (sym marks.0) (subst (λ x. Inside (42 ∷ x ∷ cs) cs) (sym marks.1) closes), i)
sound_at false false c cs n b rest shorter opens is e =
    let i = shorter n c rest (sym (behind_other (suc n) b c cs opens is) ∙ e) in
    (i.0, goes_on (no_mark b c cs opens is) i.1, i.2)

sound : (cs : List ℕ) → IsSound cs
unfolding rest_of_comment
sound [] n b rest e = absurd cc
sound (c ∷ cs) n b rest e = sound_at (is_opening b c) (is_closing b c) c cs n b rest (sound cs) refl refl e

-- ---- an inside is read

abbrev left_of : ℕ → List ℕ → Option (List ℕ)
left_of zero rest = Some rest
left_of (suc n) rest = rest_of_comment (suc n) 32 rest

abbrev Begun : List ℕ → Type 0
Begun xs = (c : ℕ) × (cs : List ℕ) × (xs ≡ c ∷ cs)

begun : (xs rest : List ℕ) → Inside xs rest → Begun xs
begun _ rest closes = (42, _, refl)
begun _ rest (nests i j) = (47, _, refl)
begun _ rest (goes_on plain i) = (_, _, refl)

complete : {xs rest : List ℕ} → Inside xs rest → (n b : ℕ) (cs : List ℕ) → xs ≡ b ∷ cs → rest_of_comment (suc n) b cs ≡ left_of n rest
complete (closes {rest = rest}) zero b cs e =
    let first : b ≡ 42 = cc in let others : cs ≡ 47 ∷ rest = cc in rw (first, others) (rest_of_comment-star_last rest)
complete (closes {rest = rest}) (suc n) b cs e =
    let first : b ≡ 42 = cc in
    let others : cs ≡ 47 ∷ rest = cc in
    let less : suc (suc n) - 1 ≡ suc n = omega arith in
    rw (first, others) (rest_of_comment-star (suc (suc n)) rest (not_one n) ∙ ap (λ d. rest_of_comment d 32 rest) less)
complete (nests {cs = ds} {mid = mid} {rest = rest} i j) n b cs e =
    let first : b ≡ 47 = cc in
    let others : cs ≡ 42 ∷ ds = cc in
    let more : suc n + 1 ≡ suc (suc n) = omega arith in
    let p = begun ds mid i in
    let q = begun mid rest j in
    let inner : rest_of_comment (suc (suc n)) 32 ds ≡ rest_of_comment (suc n) 32 mid = ap (rest_of_comment (suc (suc n)) 32) p.2 ∙ behind_space (suc (suc n)) p.0 p.1 ∙ complete i (suc n) p.0 p.1 p.2 in
    let outer : rest_of_comment (suc n) 32 mid ≡ left_of n rest = ap (rest_of_comment (suc n) 32) q.2 ∙ behind_space (suc n) q.0 q.1 ∙ complete j n q.0 q.1 q.2 in
    rw (first, others) (rest_of_comment-slash (suc n) ds ∙ ap (λ d. rest_of_comment d 32 ds) more ∙ inner ∙ outer)
complete (goes_on {c = c} {cs = ds} {rest = rest} plain i) n b cs e =
    let first : c ≡ b = cc in
    let others : ds ≡ cs = cc in
    let p = begun ds rest i in
    let flat : begins_mark (b ∷ p.0 ∷ p.1) ≡ false = subst (λ x. begins_mark (x ∷ p.0 ∷ p.1) ≡ false) first (subst (λ l. begins_mark (c ∷ l) ≡ false) p.2 plain) in
    let marks = or_parts (is_opening b p.0) (is_closing b p.0) flat in
    ap (rest_of_comment (suc n) b) (sym others ∙ p.2) ∙ behind_other (suc n) b p.0 p.1 marks.0 marks.1 ∙ complete i n p.0 p.1 p.2

pub inside_read : (text rest : List ℕ) → (rest_of_comment 1 32 text ≡ Some rest) ↔ Inside text rest
inside_read text rest = (
  λ e. let i = unspaced_all 0 text rest (sound text 0 32 rest e) in subst (Inside text) i.2 i.1,
  λ i. let p = begun text rest i in ap (rest_of_comment 1 32) p.2 ∙ behind_space 1 p.0 p.1 ∙ complete i 0 p.0 p.1 p.2,
)
