-- The chains of the uses of each binder.
use Rattle.std.proofs.Common.{◌≡◌, ◌≢◌, ◌⊎◌, inl, inr, ℕ, ◌+◌, ◌-◌, ◌<◌, ◌≤◌, ◌==◌, slice_set, List, [], ◌∷◌, ◌++◌, length, length-append, take, drop, replicate, get_or, zero, suc, refl, ap, subst, sym, ◌∙◌, append_assoc, map, arith, true, false, Some, None}
use Rattle.std.proofs.lemmas.List.{get_or_default, get_or-set_same, get_or-set_other, length-set}
use Rattle.std.proofs.Math.ListN.{get_or-append}
use Rattle.std.proofs.Math.Seq.{get_or-append_seam}
use Rattle.std.proofs.lemmas.Bool.Decides.{nat_tests}
use Rattle.std.specs.Option.{option_map}
use Rattle.lam_scope.specs.declared.seen.Bound.{Bound}
use Rattle.lam_token.specs.declared.span.Span.{Span}
use Rattle.lam_scope.specs.declared.rows.UseRow.{UseRow}
use Rattle.lam_scope.specs.Tables.{TextUse, is_number, is_use_of, use_tokens}
use Rattle.lam_scope.specs.TableViews.{text_use, binder_of}
use Rattle.lam_scope.proofs.Reading.{uses-drop}
use Rattle.lam_scope.specs.inner.UseChains.{IsChain, no_more, one_more, AreChains}

-- a chain

chain_within : {us : List UseRow} {nexts : List ℕ} {n : ℕ} {ts : List Span} → IsChain us nexts n ts → n ≤ length nexts
chain_within no_more = omega arith
chain_within (one_more n next u in_uses in_nexts use_is next_is below rest) = omega arith

chain_longer : {us : List UseRow} {nexts : List ℕ} {n : ℕ} {ts : List Span} (more : List ℕ) → IsChain us nexts n ts → IsChain us (nexts ++ more) n ts
chain_longer more no_more = no_more
chain_longer {us} {nexts} more (one_more n next u in_uses in_nexts use_is next_is below rest) =
    let longer = length-append nexts more in
    one_more n next u in_uses (omega arith) use_is (next_is ∙ sym (get_or-append nexts more 0 n in_nexts)) below (chain_longer more rest)

-- a chain that has a use, and the chain behind that
pub chain_rest : {us : List UseRow} {nexts : List ℕ} {n : ℕ} {ts : List Span} (next : ℕ) → 0 < n → next ≡ get_or nexts (n - 1) next → IsChain us nexts n ts
    → (rest : List Span) × ((d : UseRow) → ts ≡ (get_or us (length us - n) d).token ∷ rest) × IsChain us nexts next rest
chain_rest next some next_is no_more = absurd (omega arith)
chain_rest {us} {nexts} next some next_is (one_more n m u {ts} in_uses in_nexts use_is same_is below rest) =
    let place : suc n - 1 ≡ n = omega arith in
    let same : m ≡ next = same_is ∙ get_or_default nexts n 0 next in_nexts ∙ ap (λ k. get_or nexts k next) (sym place) ∙ sym next_is in
    (ts, (λ d. ap (λ v. v.token ∷ ts) (use_is ∙ get_or_default us (length us - suc n) u d (omega arith))), subst (λ k. IsChain us nexts k ts) same rest)

pub tokens_more : (before longer rest ts all : List Span) (s : Span) → longer ≡ before ++ s ∷ [] → ts ≡ s ∷ rest → before ++ ts ≡ all → longer ++ rest ≡ all
tokens_more before longer rest ts all s pushed is so_far = ap (λ ss. ss ++ rest) pushed ∙ append_assoc before (s ∷ []) rest ∙ ap (λ ss. before ++ ss) (sym is) ∙ so_far

-- no use is in a chain yet

zero_at : (m b : ℕ) → get_or (replicate {A = ℕ} m 0) b 0 ≡ 0
zero_at zero b = refl
zero_at (suc m) zero = refl
zero_at (suc m) (suc b) = zero_at m b

take_none : (n : ℕ) → take {A = ℕ} n [] ≡ []
take_none zero = refl
take_none (suc n) = refl

pub chains_none : (firsts none nexts : List ℕ) (us these : List UseRow) (n m : ℕ) → firsts ≡ take n none ++ replicate m 0 → none ≡ [] → these ≡ [] → AreChains firsts nexts us these
chains_none firsts none nexts us these n m filled empty is b lt =
    let zeros = filled ∙ ap (λ ks. take n ks ++ replicate m 0) empty ∙ ap (λ ks. ks ++ replicate m 0) (take_none n) in
    let first = ap (λ ks. get_or ks b 0) zeros ∙ zero_at m b in
    subst (λ vs. IsChain us nexts (get_or firsts b 0) (use_tokens b (map text_use vs))) (sym is) (subst (λ k. IsChain us nexts k []) (sym first) no_more)

-- one more use

tokens_skip : (n : ℕ) (u : TextUse) (us : List TextUse) → is_use_of n u ≡ false → use_tokens n (u ∷ us) ≡ use_tokens n us
tokens_skip n u us e = rw e refl

tokens_take : (n : ℕ) (u : TextUse) (us : List TextUse) → is_use_of n u ≡ true → use_tokens n (u ∷ us) ≡ u.token ∷ use_tokens n us
tokens_take n u us e = rw e refl

pub same_number : (b n : ℕ) → b ≡ n → (b == n) ≡ true
same_number b n e = grind (arith, nat_tests)

pub other_number : (b n : ℕ) → b ≢ n → (b == n) ≡ false
other_number b n e = grind (arith, nat_tests)

same_or_not : (b n : ℕ) → (b ≡ n) ⊎ (b ≢ n)
same_or_not zero zero = inl refl
same_or_not zero (suc n) = inr (λ e. absurd (omega arith))
same_or_not (suc b) zero = inr (λ e. absurd (omega arith))
same_or_not (suc b) (suc n) = by (same_or_not b n)
  where
    by : (b ≡ n) ⊎ (b ≢ n) → (suc b ≡ suc n) ⊎ (suc b ≢ suc n)
    by (inl e) = inl (ap suc e)
    by (inr off) = inr (λ e. off (omega arith))

-- a use is added that is of no binder with a chain
chains_skip : (firsts nexts more longer : List ℕ) (us : List UseRow) (i : ℕ) (d : UseRow) → i < length us → ((b : ℕ) → b < length firsts → is_use_of b (text_use (get_or us i d)) ≡ false)
    → longer ≡ nexts ++ more → AreChains firsts nexts us (drop (i + 1) us) → AreChains firsts longer us (drop i us)
chains_skip firsts nexts more longer us i d lt off pushed chains b in_firsts =
    let u = get_or us i d in
    let is = get_or_default us i d u lt in
    let here = uses-drop us i u lt is in
    let same = tokens_skip b (text_use u) (map text_use (drop (i + 1) us)) (off b in_firsts) in
    subst (λ ns. IsChain us ns (get_or firsts b 0) (use_tokens b (map text_use (drop i us)))) (sym pushed)
    (subst (λ ts. IsChain us (nexts ++ more) (get_or firsts b 0) ts) (sym (ap (use_tokens b) here ∙ same)) (chain_longer more (chains b in_firsts)))

pub chains_unbound : (firsts nexts more longer : List ℕ) (us : List UseRow) (i : ℕ) (d : UseRow) → length nexts + i + 1 ≡ length us → (get_or us i d).bound ≡ None → longer ≡ nexts ++ more
    → AreChains firsts nexts us (drop (i + 1) us) → AreChains firsts longer us (drop i us)
chains_unbound firsts nexts more longer us i d count unbound pushed chains =
    chains_skip firsts nexts more longer us i d (omega arith) (λ b lt. ap (λ o. is_number b (option_map binder_of o)) unbound) pushed chains

pub chains_past : (firsts nexts more longer : List ℕ) (us : List UseRow) (i : ℕ) (c : Bound) (d : UseRow) → length nexts + i + 1 ≡ length us → (get_or us i d).bound ≡ Some c → length firsts ≤ c.binder.0
    → longer ≡ nexts ++ more → AreChains firsts nexts us (drop (i + 1) us) → AreChains firsts longer us (drop i us)
chains_past firsts nexts more longer us i c d count bound past pushed chains =
    chains_skip firsts nexts more longer us i d (omega arith) (λ b lt. ap (λ o. is_number b (option_map binder_of o)) bound ∙ other_number c.binder.0 b (λ e. absurd (omega arith))) pushed chains

-- a use of this binder is added
chains_more : (firsts nexts : List ℕ) (us : List UseRow) (i c : ℕ) (u : UseRow) → length nexts + i + 1 ≡ length us → u ≡ get_or us i u → (text_use u).binder ≡ Some c → c < length firsts
    → AreChains firsts nexts us (drop (i + 1) us)
    → AreChains (slice_set firsts c (suc (length nexts))) (nexts ++ get_or firsts c 0 ∷ []) us (drop i us)
chains_more firsts nexts us i c u count is bound in_firsts chains b lt = by (same_or_not b c)
  where
    more : List ℕ
    more = get_or firsts c 0 ∷ []

    here : map text_use (drop i us) ≡ text_use u ∷ map text_use (drop (i + 1) us)
    here = uses-drop us i u (omega arith) is

    by : (b ≡ c) ⊎ (b ≢ c) → IsChain us (nexts ++ more) (get_or (slice_set firsts c (suc (length nexts))) b 0) (use_tokens b (map text_use (drop i us)))
    by (inl e) =
        let longer = length-append nexts more in
        let place : i ≡ length us - suc (length nexts) = omega arith in
        let first : get_or (slice_set firsts c (suc (length nexts))) b 0 ≡ suc (length nexts) = ap (λ k. get_or (slice_set firsts c (suc (length nexts))) k 0) e ∙ get_or-set_same firsts c (suc (length nexts)) 0 in_firsts in
        let taken = tokens_take b (text_use u) (map text_use (drop (i + 1) us)) (ap (is_number b) bound ∙ same_number c b (sym e)) in
        let tokens = ap (use_tokens b) here ∙ taken ∙ ap (λ k. u.token ∷ use_tokens k (map text_use (drop (i + 1) us))) e in
        subst (λ n. IsChain us (nexts ++ more) n (use_tokens b (map text_use (drop i us)))) (sym first)
        (subst (λ ts. IsChain us (nexts ++ more) (suc (length nexts)) ts) (sym tokens)
        (one_more (length nexts) (get_or firsts c 0) u (omega arith) (omega arith) (is ∙ ap (λ k. get_or us k u) place) (sym (get_or-append_seam nexts (get_or firsts c 0) [] 0))
        (chain_within (chains c in_firsts)) (chain_longer more (chains c in_firsts))))
    by (inr off) =
        let kept = length-set firsts c (suc (length nexts)) in
        let first = get_or-set_other firsts c b (suc (length nexts)) 0 off in
        let same = tokens_skip b (text_use u) (map text_use (drop (i + 1) us)) (ap (is_number b) bound ∙ other_number c b (λ e. off (sym e))) in
        subst (λ n. IsChain us (nexts ++ more) n (use_tokens b (map text_use (drop i us)))) (sym first)
        (subst (λ ts. IsChain us (nexts ++ more) (get_or firsts b 0) ts) (sym (ap (use_tokens b) here ∙ same))
        (chain_longer more (chains b (omega (arith, kept, lt)))))

pub chains_put : (firsts nexts longer : List ℕ) (us : List UseRow) (i first n : ℕ) (c : Bound) (d : UseRow) → length nexts + i + 1 ≡ length us → (get_or us i d).bound ≡ Some c → c.binder.0 < length firsts
    → first ≡ get_or firsts c.binder.0 first → longer ≡ nexts ++ first ∷ [] → n ≡ length longer
    → AreChains firsts nexts us (drop (i + 1) us) → AreChains (slice_set firsts c.binder.0 n) longer us (drop i us)
chains_put firsts nexts longer us i first n c d count bound in_firsts first_is pushed n_is chains =
    let u = get_or us i d in
    let more = length-append nexts (first ∷ []) in
    let same : first ≡ get_or firsts c.binder.0 0 = first_is ∙ get_or_default firsts c.binder.0 first 0 in_firsts in
    let number : n ≡ suc (length nexts) = n_is ∙ ap length pushed ∙ more ∙ omega arith in
    subst (λ ns. AreChains (slice_set firsts c.binder.0 n) ns us (drop i us)) (sym (pushed ∙ ap (λ k. nexts ++ k ∷ []) same))
    (subst (λ k. AreChains (slice_set firsts c.binder.0 k) (nexts ++ get_or firsts c.binder.0 0 ∷ []) us (drop i us)) (sym number) (chains_more firsts nexts us i c.binder.0 u count (get_or_default us i d u (omega arith)) (ap (option_map binder_of) bound) in_firsts chains))
