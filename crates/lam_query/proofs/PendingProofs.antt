-- Proofs that wait to be checked, and the entries that they share.
use Rattle.std.proofs.Common.{◌≡◌, ◌↔◌, ℕ, zero, suc, ◌+◌, ◌-◌, ◌<◌, ◌≤◌, List, [], ◌∷◌, ◌++◌, length, map, take, drop, get_or, slice_get, replicate, Option, Some, None, Result, Ok, Err, IfOk, OnOk, MatchOption, IsTrue, Bool, true, false, Bor, Box, Vec, refl, append_assoc, append-nil, sym, ap, subst, ◌∙◌, arith, drop-cons, add-one}
use Rattle.std.specs.Option.{option_map, option_copied}
use Rattle.std.proofs.lemmas.List.{map-append, length-map, take_all}
use Rattle.lam_token.specs.declared.span.Span.{Span}
use Rattle.std.specs.declared.alloc.Global.{Global}
use Rattle.lam_rules.specs.Types.{Typ, IsWellFormed}
use Rattle.lam_rules.specs.Terms.{Term}
use Rattle.lam_rules.specs.TypeViews.{typ_of}
use Rattle.lam_rules.specs.TermViews.{term_of, written_of}
use Rattle.lam_rules.specs.Typing.{Context, IsWellFormedContext, TypingTree, typing_step}
use Rattle.lam_rules.specs.TypingSteps.{FitsRule, IsTypingStep, Subject, about, subjects}
use Rattle.lam_rules.specs.Parts.{subject_in}
use Rattle.lam_rules.specs.Subtyping.{Claim, sub_step, conclusion, BySubRule, IsRuleOf}
use Rattle.lam_rules.specs.SubSteps.{IsSubStep}
use Rattle.lam_rules.specs.SubViews.{claim_of, claims_of, sub_tree_of, sub_trees_of}
use Rattle.lam_rules.specs.TypingViews.{context_of, types_concluded, typing_tree_of, typings_of}
use Rattle.lam_rules.specs.declared.rules.Dialect.{Dialect}
use Rattle.lam_rules.specs.declared.rules.SubRule.{SubRule}
use Rattle.lam_rules.specs.declared.rules.TypeRule.{TypeRule}
use Rattle.lam_rules.proofs.SubShapes.{sub_tree_of-node, conclusion-sub_tree_of, conclusions-sub_trees_of}
use Rattle.lam_rules.proofs.TypingShapes.{typing_tree_of-node, types_in-typings_of}
use Rattle.lam_rules.specs.declared.subtyping.SubProof.{SubProof, roll-SubProof, out-roll-SubProof}
use Rattle.lam_rules.specs.declared.parts.Part.TheVariants as part
use Rattle.lam_rules.specs.declared.terms.Core.{Core}
use Rattle.lam_rules.specs.declared.types.Ty.{Ty}
use Rattle.lam_rules.specs.declared.typing.TypeProof.{TypeProof, out-TypeProof, roll-TypeProof, out-roll-TypeProof}
use Rattle.lam_query.specs.Judgements.{Judgement, Each, IsFirstWithout, IsFirstFailing, judgements}
use Rattle.lam_query.proofs.Backwards.{none_read, one_back, none_pending, all_read}
use Rattle.lam_query.proofs.StepByStep.{IsOwn, parted, first_before, first_here, told}
use Rattle.lam_query.specs.Steps.{Conclusion, typing, subtyping}
use Rattle.lam_query.specs.Views.{step_of}
use Rattle.lam_query.specs.declared.answers.Step.{Step as RustStep}
use Rattle.lam_query.specs.declared.wrong_steps.Seen.{Seen}
use Rattle.lam_query.specs.declared.wrong_steps.Pending.{Pending}
use Rattle.lam_query.specs.declared.wrong_steps.Pending.TheVariants as pending
use Rattle.lam_query.specs.inner.Backwards.{said_at, said_by, AreRead}
use Rattle.lam_query.specs.inner.Walking.{Left, about_part, says, Suits, Holds, types_said, claims_said, last_claim, first_said, left_for, without_first, lefts_for, lefts_under, IsRight, left_of, depth_of, typing_of, IsKnown, IsTop, NeedAtLeast, AreKnown, IsWalked, AllFollow}
use Rattle.lam_query.specs.ProofTrees.{MakeTree}

-- ---- what steps conclude that are looked up

copied : (got : Option (Bor RustStep)) → said_by got ≡ option_map (λ s. (step_of s).conclusion) (option_copied got)
copied None = refl
copied (Some s) = refl

seen_through : (steps : List RustStep) (n : ℕ) → option_map (λ s. (step_of s).conclusion) (slice_get steps n) ≡ said_at (map step_of steps) n
seen_through [] zero = refl
seen_through [] (suc n) = refl
seen_through (s ∷ steps) zero = refl
seen_through (s ∷ steps) (suc n) = seen_through steps n

pub said_got : (steps : List RustStep) (n : ℕ) (got : Option (Bor RustStep)) → option_copied got ≡ slice_get steps n → said_by got ≡ said_at (map step_of steps) n
said_got steps n got is = copied got ∙ ap (option_map (λ s. (step_of s).conclusion)) is ∙ seen_through steps n

pub first_alone : (c : Option Conclusion) (cs : List (Option Conclusion)) → first_said (c ∷ []) ≡ first_said (c ∷ cs)
first_alone None cs = refl
first_alone (Some (typing r s t)) cs = refl
first_alone (Some (subtyping r l u)) cs = refl

pub first_of : (said : ℕ → Option Conclusion) (ns : List ℕ) (n : ℕ) → Some n ≡ slice_get ns 0 → first_said (said n ∷ []) ≡ first_said (map said ns)
first_of said [] n is = let clash : Some n ≡ None = is in absurd cc
first_of said (m ∷ ns) n is =
    let same : Some n ≡ Some m = is in
    let own : n ≡ m = cc in
    ap (λ k. first_said (said k ∷ [])) own ∙ first_alone (said m) (map said ns)

-- one premise after another

pub types_more : (ps : List TypeProof) (p : TypeProof) → types_concluded (ps ++ p ∷ []) ≡ types_concluded ps ++ typ_of (out-TypeProof p).ty ∷ []
types_more [] p = refl
types_more (q ∷ ps) p = ap (λ ts. typ_of (out-TypeProof q).ty ∷ ts) (types_more ps p)

pub claims_more : (ps : List SubProof) (p : SubProof) → claims_of (ps ++ p ∷ []) ≡ claims_of ps ++ claim_of p ∷ []
claims_more [] p = refl
claims_more (q ∷ ps) p = ap (λ cs. claim_of q ∷ cs) (claims_more ps p)

pub last_of_more : (ps : List SubProof) (p : SubProof) → last_claim (claims_of (ps ++ p ∷ [])) ≡ Some (claim_of p)
last_of_more [] p = refl
last_of_more (q ∷ []) p = refl
last_of_more (q ∷ r ∷ ps) p = last_of_more (r ∷ ps) p

-- ---- steps whose premises are bare

claim_through : (sub : Option (Box SubProof Global)) → option_map conclusion (option_map (λ q. sub_tree_of q.value) sub) ≡ option_map (λ q. claim_of q.value) sub
claim_through None = refl
claim_through (Some q) = ap Some (conclusion-sub_tree_of q.value)

pub bare_step : (rule : TypeRule) (ty : Ty) (typings : Vec TypeProof Global) (sub : Option (Box SubProof Global)) (t : Typ) (ts : List Typ) (claim : Option Claim)
    → typ_of ty ≡ t → types_concluded typings.items ≡ ts → option_map (λ q. claim_of q.value) sub ≡ claim
    → (g : Context) (e : Term)
    → IsTypingStep g e (typing_tree_of (roll-TypeProof record { rule = rule; ty = ty; typing = typings; sub = sub })) ↔ (IsWellFormed t × FitsRule rule claim g e t ts)
bare_step rule ty typings sub t ts claim is_t are_ts is_claim g e =
    let node : typing_tree_of (roll-TypeProof record { rule = rule; ty = ty; typing = typings; sub = sub })
    ≡ typing_step rule (typ_of ty) (typings_of typings.items) (option_map (λ q. sub_tree_of q.value) sub) =
    typing_tree_of-node (roll-TypeProof record { rule = rule; ty = ty; typing = typings; sub = sub })
    ∙ ap (λ o. typing_step o.rule (typ_of o.ty) (typings_of o.typing.items) (option_map (λ q. sub_tree_of q.value) o.sub)) (out-roll-TypeProof record { rule = rule; ty = ty; typing = typings; sub = sub }) in
    let here : IsTypingStep g e (typing_tree_of (roll-TypeProof record { rule = rule; ty = ty; typing = typings; sub = sub })) ≡ (IsWellFormed t × FitsRule rule claim g e t ts) =
    ap (IsTypingStep g e) node
    ∙ (λ i. IsWellFormed (is_t i) × FitsRule rule ((claim_through sub ∙ is_claim) i) g e (is_t i) ((types_in-typings_of typings.items ∙ are_ts) i)) in
    rw here (λ h. h, λ h. h)

pub bare_sub_step : (rule : SubRule) (lower upper : Ty) (subs : Vec SubProof Global) (s t : Typ) (claims : List Claim) (d : Dialect)
    → typ_of lower ≡ s → typ_of upper ≡ t → claims_of subs.items ≡ claims
    → IsSubStep (sub_tree_of (roll-SubProof record { rule = rule; lower = lower; upper = upper; premises = subs })) d ↔ (IsWellFormed s × IsWellFormed t × IsRuleOf rule d × BySubRule rule claims s t)
bare_sub_step rule lower upper subs s t claims d is_s is_t are =
    let node : sub_tree_of (roll-SubProof record { rule = rule; lower = lower; upper = upper; premises = subs }) ≡ sub_step rule (typ_of lower) (typ_of upper) (sub_trees_of subs.items) =
    sub_tree_of-node (roll-SubProof record { rule = rule; lower = lower; upper = upper; premises = subs })
    ∙ ap (λ o. sub_step o.rule (typ_of o.lower) (typ_of o.upper) (sub_trees_of o.premises.items)) (out-roll-SubProof record { rule = rule; lower = lower; upper = upper; premises = subs }) in
    let here : IsSubStep (sub_tree_of (roll-SubProof record { rule = rule; lower = lower; upper = upper; premises = subs })) d ≡ (IsWellFormed s × IsWellFormed t × IsRuleOf rule d × BySubRule rule claims s t) =
    ap (λ q. IsSubStep q d) node
    ∙ (λ i. IsWellFormed (is_s i) × IsWellFormed (is_t i) × IsRuleOf rule d × BySubRule rule ((conclusions-sub_trees_of subs.items ∙ are) i) (is_s i) (is_t i)) in
    rw here (λ h. h, λ h. h)

-- ---- fronts of the entries

pub context_more : (entries : List (Option Ty)) (e : Option Ty) → context_of (entries ++ e ∷ []) ≡ written_of e ∷ context_of entries
context_more [] e = refl
context_more (x ∷ entries) e = ap (λ g. g ++ written_of x ∷ []) (context_more entries e)

pub take_less : {A : Type 0} (d n : ℕ) (xs : List A) → d ≤ n → take d (take n xs) ≡ take d xs
take_less zero n xs le = refl
take_less (suc d) zero xs le = absurd (omega arith)
take_less (suc d) (suc n) [] le = refl
take_less (suc d) (suc n) (x ∷ xs) le = ap (λ l. x ∷ l) (take_less d n xs (omega arith))

-- ---- the one on top

need_front : (n : ℕ) (ps : List Pending) (p : Pending) → NeedAtLeast n (ps ++ p ∷ []) → NeedAtLeast n ps
need_front n [] p h = tt
need_front n (pending.Typing seen ∷ ps) p h = (h.0, need_front n ps p h.1)
need_front n (pending.Nothing ∷ ps) p h = need_front n ps p h
need_front n (pending.Subtyping ∷ ps) p h = need_front n ps p h

need_last : (n : ℕ) (ps : List Pending) (seen : Seen) → NeedAtLeast n (ps ++ pending.Typing seen ∷ []) → n ≤ seen.depth
need_last n [] seen h = h.0
need_last n (pending.Typing s ∷ ps) seen h = need_last n ps seen h.1
need_last n (pending.Nothing ∷ ps) seen h = need_last n ps seen h
need_last n (pending.Subtyping ∷ ps) seen h = need_last n ps seen h

need_more : (n : ℕ) (ps : List Pending) (p : Pending) → NeedAtLeast n ps → NeedAtLeast n (p ∷ []) → NeedAtLeast n (ps ++ p ∷ [])
need_more n [] p h k = k
need_more n (pending.Typing s ∷ ps) p h k = (h.0, need_more n ps p h.1 k)
need_more n (pending.Nothing ∷ ps) p h k = need_more n ps p h k
need_more n (pending.Subtyping ∷ ps) p h k = need_more n ps p h k

pub known_below : (g : List (Option Ty)) (ps : List Pending) (p : Pending) → AreKnown g (ps ++ p ∷ []) → AreKnown g ps
known_below g [] p h = tt
known_below g (q ∷ ps) p h = (h.0, need_front (depth_of q) ps p h.1, known_below g ps p h.2)

pub known_top : (g : List (Option Ty)) (ps : List Pending) (p : Pending) → AreKnown g (ps ++ p ∷ []) → IsKnown g p
known_top g [] p h = h.0
known_top g (q ∷ ps) p h = known_top g ps p h.2

abbrev AtMost : ℕ → List Pending → Type 0
AtMost n [] = Unit {0}
AtMost n (p ∷ ps) = (depth_of p ≤ n) × AtMost n ps

needs_below : (g : List (Option Ty)) (ps : List Pending) (seen : Seen) → AreKnown g (ps ++ pending.Typing seen ∷ []) → AtMost seen.depth ps
needs_below g [] seen h = tt
needs_below g (q ∷ ps) seen h = (need_last (depth_of q) ps seen h.1, needs_below g ps seen h.2)

-- other entries with the same front

left_kept : (n : ℕ) (g h : List (Option Ty)) (p : Pending) → take n h ≡ take n g → depth_of p ≤ n → left_of h p ≡ left_of g p
left_kept n g h pending.Nothing same le = refl
left_kept n g h pending.Subtyping same le = refl
left_kept n g h (pending.Typing seen) same le =
    let front : take seen.depth h ≡ take seen.depth g = sym (take_less seen.depth n h le) ∙ ap (take seen.depth) same ∙ take_less seen.depth n g le in
    ap (λ es. about_part (subject_in (context_of es) seen.part)) front

known_kept : (n : ℕ) (g h : List (Option Ty)) (p : Pending) → take n h ≡ take n g → n ≤ length h → depth_of p ≤ n → IsKnown g p → IsKnown h p
known_kept n g h pending.Nothing same long le k = tt
known_kept n g h pending.Subtyping same long le k = tt
known_kept n g h (pending.Typing seen) same long le k =
    let front : take seen.depth h ≡ take seen.depth g = sym (take_less seen.depth n h le) ∙ ap (take seen.depth) same ∙ take_less seen.depth n g le in
    (omega arith, subst (λ es. IsTrue seen.well_formed ↔ IsWellFormedContext (context_of es)) (sym front) k.1)

all_known : (n : ℕ) (g h : List (Option Ty)) (ps : List Pending) → take n h ≡ take n g → n ≤ length h → AtMost n ps → AreKnown g ps → AreKnown h ps
all_known n g h [] same long most k = tt
all_known n g h (p ∷ ps) same long most k = (known_kept n g h p same long most.0 k.0, k.1, all_known n g h ps same long most.1 k.2)

all_left : (n : ℕ) (g h : List (Option Ty)) (ps : List Pending) → take n h ≡ take n g → AtMost n ps → map (left_of h) ps ≡ map (left_of g) ps
all_left n g h [] same most = refl
all_left n g h (p ∷ ps) same most = (λ i. left_kept n g h p same most.0 i ∷ all_left n g h ps same most.1 i)

pub still_known : (g h : List (Option Ty)) (ps : List Pending) (seen : Seen) → take seen.depth h ≡ take seen.depth g → seen.depth ≤ length h
    → AreKnown g (ps ++ typing_of seen ∷ []) → AreKnown h ps
still_known g h ps seen same long k = all_known seen.depth g h ps same long (needs_below g ps seen k) (known_below g ps (pending.Typing seen) k)

pub still_left : (g h : List (Option Ty)) (ps : List Pending) (seen : Seen) → take seen.depth h ≡ take seen.depth g
    → AreKnown g (ps ++ typing_of seen ∷ []) → map (left_of h) ps ≡ map (left_of g) ps
still_left g h ps seen same k = all_left seen.depth g h ps same (needs_below g ps seen k)

-- one more on top

need_of_top : (g : List (Option Ty)) (q p : Pending) → IsKnown g q → IsTop g p → NeedAtLeast (depth_of q) (p ∷ [])
need_of_top g q pending.Nothing k top = tt
need_of_top g q pending.Subtyping k top = tt
need_of_top g pending.Nothing (pending.Typing seen) k top = (omega arith, tt)
need_of_top g pending.Subtyping (pending.Typing seen) k top = (omega arith, tt)
need_of_top g (pending.Typing s) (pending.Typing seen) k top = (let le = k.0 in omega arith, tt)

pub known_more : (g : List (Option Ty)) (ps : List Pending) (p : Pending) → AreKnown g ps → IsKnown g p → IsTop g p → AreKnown g (ps ++ p ∷ [])
known_more g [] p h k top = (k, tt, tt)
known_more g (q ∷ ps) p h k top = (h.0, need_more (depth_of q) ps p h.1 (need_of_top g q p h.0 top), known_more g ps p h.2 k top)

-- what the next premise is about
pub next_left : (ss : List Subject) (k : ℕ) (c : Option Conclusion) (cs : List (Option Conclusion))
    → lefts_for (drop k ss) (c ∷ cs) ≡ left_for (slice_get ss k) c ∷ lefts_for (drop (k + 1) ss) cs
next_left ss k c cs = rw add-one (λ i. left_for (first ss k i) c ∷ lefts_for (rest ss k i) cs)
  where
    first : (ss : List Subject) (k : ℕ) → slice_get (drop k ss) 0 ≡ slice_get ss k
    first [] zero = refl
    first [] (suc k) = refl
    first (s ∷ ss) zero = refl
    first (s ∷ ss) (suc k) = first ss k

    rest : (ss : List Subject) (k : ℕ) → without_first (drop k ss) ≡ drop (suc k) ss
    rest [] zero = refl
    rest [] (suc k) = refl
    rest (s ∷ ss) zero = refl
    rest (s ∷ ss) (suc k) = rest ss k

pub drop_here : (ns : List ℕ) (k : ℕ) → k < length ns → drop k ns ≡ get_or ns k 0 ∷ drop (k + 1) ns
drop_here ns k inside = rw add-one (drop-cons ns k 0 inside)

-- one more premise is put on top
pub one_pushed : (g : List (Option Ty)) (ss : List Subject) (said : ℕ → Option Conclusion) (ns : List ℕ) (k : ℕ) (ps qs : List Pending) (p : Pending) (all : List Left)
    → k < length ns → qs ≡ ps ++ p ∷ [] → left_of g p ≡ left_for (slice_get ss k) (said (get_or ns k 0))
    → map (left_of g) ps ++ lefts_for (drop k ss) (map said (drop k ns)) ≡ all
    → map (left_of g) qs ++ lefts_for (drop (k + 1) ss) (map said (drop (k + 1) ns)) ≡ all
one_pushed g ss said ns k ps qs p all inside pushed is before =
    let rest = lefts_for (drop (k + 1) ss) (map said (drop (k + 1) ns)) in
    ap (λ xs. map (left_of g) xs ++ rest) pushed
    ∙ ap (λ xs. xs ++ rest) (map-append (left_of g) ps (p ∷ []))
    ∙ append_assoc (map (left_of g) ps) (left_of g p ∷ []) rest
    ∙ ap (λ l. map (left_of g) ps ++ l ∷ rest) is
    ∙ ap (λ xs. map (left_of g) ps ++ xs)
    (sym (next_left ss k (said (get_or ns k 0)) (map said (drop (k + 1) ns))) ∙ ap (lefts_for (drop k ss)) (sym (ap (map said) (drop_here ns k inside))))
    ∙ before

-- ---- a step of typing

module _ (g h : List (Option Ty)) (ps qs : List Pending) (seen : Seen) (e : Term)
    (known : AreKnown g (ps ++ typing_of seen ∷ []))
    (subject : about (context_of h) e ≡ subject_in (context_of (take seen.depth g)) seen.part)
    (outside : (seen.depth ≤ length h) × (take seen.depth h ≡ take seen.depth g)) where
  pub typing_known : (well_formed : Bool)
      → ((IsTrue seen.well_formed ↔ IsWellFormedContext (context_of (take seen.depth g))) → (IsTrue well_formed ↔ IsWellFormedContext (context_of h)))
      → ((IsTrue well_formed ↔ IsWellFormedContext (context_of h)) → AreKnown h ps → AreKnown h qs) → AreKnown h qs
  typing_known well_formed are pushed = pushed (are (known_top g ps (typing_of seen) known).1) (still_known g h ps seen outside.1 outside.0 known)

  pub typing_left : (rule : TypeRule) (first : Option Typ) (cs : List (Option Conclusion)) (span : Span) (t : Typ)
      → map (left_of h) qs ≡ map (left_of h) ps ++ lefts_for (subjects rule (context_of h) e first) cs → first ≡ first_said cs
      → map (left_of h) qs ≡ map (left_of g) ps ++ lefts_under (left_of g (typing_of seen)) (typing rule span t) cs
  typing_left rule first cs span t pushed is =
      pushed
      ∙ (λ i. still_left g h ps seen outside.1 known i ++ lefts_for (subjects rule (context_of h) e (is i)) cs)
      ∙ ap (λ (s : Subject). map (left_of g) ps ++ lefts_for (subjects rule s.context s.term (first_said cs)) cs) subject

  pub typing_right : (well_formed : Bool) (rule : TypeRule) (cs : List (Option Conclusion)) (span : Span) (t : Typ) (d : Dialect)
      → ((IsTrue seen.well_formed ↔ IsWellFormedContext (context_of (take seen.depth g))) → (IsTrue well_formed ↔ IsWellFormedContext (context_of h)))
      → IsRight d (left_of g (typing_of seen)) (typing rule span t) cs ↔ (IsTrue well_formed × (IsWellFormed t × FitsRule rule (last_claim (claims_said cs)) (context_of h) e t (types_said cs)))
  typing_right well_formed rule cs span t d are =
      let both = are (known_top g ps (typing_of seen) known).1 in
      subst (λ (s : Subject). (IsWellFormedContext s.context × IsWellFormed t × FitsRule rule (last_claim (claims_said cs)) s.context s.term t (types_said cs))
      ↔ (IsTrue well_formed × (IsWellFormed t × FitsRule rule (last_claim (claims_said cs)) (context_of h) e t (types_said cs)))) subject
      ((λ k. (both.1 k.0, (k.1, k.2))), (λ k. (both.0 k.0, k.1.0, k.1.1)))

pub on_ok : {P : Type 0} {V E : Type 0} (r : Result V E) → P → OnOk r P
on_ok (Ok v) p = p
on_ok (Err e) p = tt

-- the step follows if it does by its rule, and the entries of its context are known to be well formed
pub if_right : {E : Type 0} (B : Type 0) (R : Dialect → Type 0) (well_formed : Bool) (r : Result Bool E) → IfOk r (λ right. IsTrue right ↔ B)
    → ((d : Dialect) → R d ↔ (IsTrue well_formed × B)) → IsTrue well_formed → IfOk r (λ right. (d : Dialect) → IsTrue right ↔ R d)
if_right B R well_formed (Ok right) h same s = λ d. ((λ t. (same d).1 (s, h.0 t)), (λ k. h.1 ((same d).0 k).1))
if_right B R well_formed (Err e) h same s = tt

pub for_dialect : {E : Type 0} (R : Dialect → Type 0) (r : Result Bool E) (d : Dialect) → IfOk r (λ right. (d : Dialect) → IsTrue right ↔ R d) → IfOk r (λ right. IsTrue right ↔ R d)
for_dialect R (Ok right) d h = h d
for_dialect R (Err e) d h = tt

-- the step does not follow if the entries are not well formed
pub not_right : (B : Type 0) (R : Dialect → Type 0) (well_formed : Bool) → ((d : Dialect) → R d ↔ (IsTrue well_formed × B)) → well_formed ≡ false → (d : Dialect) → IsTrue false ↔ R d
not_right B R true same n d = let clash : true ≡ false = n in absurd cc
not_right B R false same n d = ((λ t. let clash : false ≡ true = t in absurd cc), (λ h. ((same d).0 h).0))

-- ---- a step about nothing, or about types

pub each_known : (g : List (Option Ty)) (ps : List Pending) (p : Pending) (n : ℕ) → AreKnown g ps → IsKnown g p → IsTop g p → AreKnown g (ps ++ replicate n p)
each_known g ps p zero h k top = subst (AreKnown g) (sym (append-nil ps)) h
each_known g ps p (suc n) h k top = subst (AreKnown g) (append_assoc ps (p ∷ []) (replicate n p)) (each_known g (ps ++ p ∷ []) p n (known_more g ps p h k top) k top)

map_replicate : {A B : Type 0} (f : A → B) (n : ℕ) (x : A) → map f (replicate n x) ≡ replicate n (f x)
map_replicate f zero x = refl
map_replicate f (suc n) x = ap (λ l. f x ∷ l) (map_replicate f n x)

pub each_left : (g : List (Option Ty)) (ps : List Pending) (p : Pending) (said : ℕ → Option Conclusion) (ns : List ℕ)
    → map (left_of g) (ps ++ replicate (length ns) p) ≡ map (left_of g) ps ++ replicate (length (map said ns)) (left_of g p)
each_left g ps p said ns =
    map-append (left_of g) ps (replicate (length ns) p)
    ∙ ap (λ l. map (left_of g) ps ++ l) (map_replicate (left_of g) (length ns) p ∙ ap (λ n. replicate n (left_of g p)) (sym (length-map ns said)))

-- ---- the walk

pub begun : (g : List (Option Ty)) (term : Bor Core) (depth : ℕ) (well_formed : Bool) → depth ≡ length g → (IsTrue well_formed ↔ IsWellFormedContext (context_of g))
    → AreKnown g (pending.Typing (record { depth = depth; well_formed = well_formed; part = part.Plain term }) ∷ [])
begun g term depth well_formed deep wf =
    let front : take depth g ≡ g = take_all depth g (omega arith) in
    ((omega arith, subst (λ es. IsTrue well_formed ↔ IsWellFormedContext (context_of es)) (sym front) wf), tt, tt)

pub begun_walk : (steps : List RustStep) (d : Dialect) (g : List (Option Ty)) (term : Bor Core) (depth : ℕ) (well_formed : Bool) (tree : TypingTree) → depth ≡ length g → MakeTree (map step_of steps) tree
    → IsWalked (map step_of steps) d (judgements (context_of g) (term_of term.now) tree) (length steps - 0)
    (map (left_of g) (pending.Typing (record { depth = depth; well_formed = well_formed; part = part.Plain term }) ∷ [])) None
begun_walk steps d g term depth well_formed tree deep h =
    let front : take depth g ≡ g = take_all depth g (omega arith) in
    let long : length (map step_of steps) ≡ length steps - 0 = (let l = length-map steps step_of in omega arith) in
    let all = judgements (context_of g) (term_of term.now) tree in
    record {
      done = [];
      are_read =
          subst (λ es. AreRead Left Judgement Suits says (map step_of steps) all (length steps - 0) (about_part (about (context_of es) (term_of term.now)) ∷ []) []) (sym front)
          (subst (λ n. AreRead Left Judgement Suits says (map step_of steps) all n (about_part (about (context_of g) (term_of term.now)) ∷ []) []) long
          (none_read Left Judgement Suits says (map step_of steps) (about_part (about (context_of g) (term_of term.now))) tree h tt));
      first = tt;
    }

module _ (steps : List RustStep) (d : Dialect) (all : List Judgement) (back : ℕ) (g h : List (Option Ty)) (ps qs rs : List Pending) (own : Pending) (x : RustStep) (wrong : Option ℕ)
    (inside : back < length steps) (popped : ps ≡ qs ++ own ∷ []) (there : x ≡ get_or steps (length steps - 1 - back) x)
    (left : map (left_of h) rs ≡ map (left_of g) qs ++ lefts_under (left_of g own) (step_of x).conclusion (map (said_at (map step_of steps)) (step_of x).premises))
    (w : IsWalked (map step_of steps) d all (length steps - back) (map (left_of g) ps) wrong) where
  abbrev Right : Type 0
  Right = IsRight d (left_of g own) (step_of x).conclusion (map (said_at (map step_of steps)) (step_of x).premises)

  one_more : (judged : Judgement) × AreRead Left Judgement Suits says (map step_of steps) all (length steps - (back + 1)) (map (left_of h) rs) (judged ∷ w.done) × (Holds d judged ↔ Right)
  one_more =
      one_back Left Judgement Suits says lefts_under (IsOwn d) (parted d) steps all back w.done inside (map (left_of g) ps) (map (left_of g) qs) (map (left_of h) rs) (left_of g own) x
      (ap (map (left_of g)) popped ∙ map-append (left_of g) qs (own ∷ [])) there left w.are_read

  pub stepped_right : Right → IsWalked (map step_of steps) d all (length steps - (back + 1)) (map (left_of h) rs) wrong
  stepped_right right = record {
    done = one_more.0 ∷ w.done;
    are_read = one_more.1;
    first = first_before d (length steps - (back + 1)) (length steps - back) one_more.0 w.done wrong (omega arith) (one_more.2.1 right) w.first;
  }

  pub stepped_wrong : (Right → ⊥) → IsWalked (map step_of steps) d all (length steps - (back + 1)) (map (left_of h) rs) (Some (length steps - 1 - back))
  stepped_wrong not_right =
      let here : length steps - (back + 1) ≡ length steps - 1 - back = omega arith in
      record {
        done = one_more.0 ∷ w.done;
        are_read = one_more.1;
        first = subst (IsFirstWithout (Holds d) (length steps - (back + 1)) (one_more.0 ∷ w.done)) here
            (first_here d (length steps - (back + 1)) one_more.0 w.done (λ holds. not_right (one_more.2.0 holds)));
      }

pub nothing_left : {A : Type 0} (steps : List RustStep) (d : Dialect) (all : List Judgement) (back : ℕ) (g : List (Option Ty)) (ps : List Pending) (wrong : Option ℕ)
    → back < length steps → (0 < length ps → false ≡ true) → IsWalked (map step_of steps) d all (length steps - back) (map (left_of g) ps) wrong → A
nothing_left steps d all back g ps wrong inside none w = none_pending Left Judgement Suits says steps all back w.done (left_of g) ps inside none w.are_read

pub walked : (steps : List RustStep) (d : Dialect) (g : Context) (e : Term) (tree : TypingTree) (n : ℕ) (ls : List Left) (wrong : Option ℕ) → n ≡ 0
    → IsWalked (map step_of steps) d (judgements g e tree) n ls wrong
    → MatchOption wrong (AllFollow d (judgements g e tree)) (λ k. IsFirstFailing d 0 (judgements g e tree) k)
walked steps d g e tree n ls wrong none w =
    let start = subst (λ m. AreRead Left Judgement Suits says (map step_of steps) (judgements g e tree) m ls w.done) none w.are_read in
    let first = subst (λ m. MatchOption wrong (Each (Holds d) w.done) (λ k. IsFirstWithout (Holds d) m w.done k)) none w.first in
    told d g e tree wrong
    (subst (λ js. MatchOption wrong (Each (Holds d) js) (λ k. IsFirstWithout (Holds d) 0 js k)) (sym (all_read Left Judgement Suits says (map step_of steps) (judgements g e tree) ls w.done start)) first)
