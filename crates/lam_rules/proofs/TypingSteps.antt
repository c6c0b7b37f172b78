-- A step of typing and its premises: the step by itself, and each premise by itself.
use Rattle.std.proofs.Common.{◌≡◌, ◌≢◌, ◌↔◌, ◌-◌, ◌∙◌, ◌<◌, ◌≤◌, ℕ, zero, suc, List, [], ◌∷◌, Option, Some, None, String, length, drop, get_or, slice_get, ap, sym, refl, ◌+◌, add-one, arith}
use Rattle.std.specs.Option.{option_map}
use Rattle.std.specs.declared.alloc.Global.{Global}
use Rattle.lam_rules.specs.Types.{Typ, record_of, no_fields, field}
use Rattle.lam_rules.specs.SubViews.{sub_tree_of}
use Rattle.lam_rules.specs.Terms.{Term, true_term, false_term, if_then_else, numeral, succ, pred, is_zero, variable, lambda, apply, unit_term, ascribe, let_in, record_term, project, fix, TermFields, no_terms, term_field}
use Rattle.lam_rules.specs.TermViews.{term_of, terms_of}
use Rattle.lam_rules.specs.Subtyping.{Claim, SubTree, conclusion}
use Rattle.lam_rules.specs.Typing.{Context, IsWellFormedContext, typing_step, TypingTrees, no_typings, typing_first, IsTyping, ByTypeRule}
use Rattle.lam_rules.specs.TypingViews.{typing_tree_of, typings_of}
use Rattle.lam_rules.specs.TypingSteps.{types_in, FitsRule, IsTypingStep, IsSideProof, Subject, about, fields_in, first_type, subjects, AreTypings}
use Rattle.lam_rules.specs.declared.terms.Core.{Core}
use Rattle.lam_rules.specs.declared.rules.Dialect.{Dialect}
use Rattle.lam_rules.specs.declared.rules.TypeRule.{TypeRule}
use Rattle.lam_rules.specs.declared.typing.TypeProof.{TypeProof, out-TypeProof}
use Rattle.lam_rules.proofs.TypingShapes.{typing_tree_of-node, typings_of-drop}

apart : (r : TypeRule) (s : Option SubTree) (g : Context) (e : Term) (t : Typ) (ps : TypingTrees) (d : Dialect)
    → ByTypeRule r s g e t ps d → FitsRule r (option_map conclusion s) g e t (types_in ps) × IsSideProof s d × AreTypings (subjects r g e (first_type ps)) ps d
apart TypeRule.True None g true_term t no_typings d h = (h, tt, tt)
apart TypeRule.False None g false_term t no_typings d h = (h, tt, tt)
apart TypeRule.If None g (if_then_else e1 e2 e3) t (typing_first p1 (typing_first p2 (typing_first p3 no_typings))) d h =
    ((h.1, h.3, h.5), tt, (h.0, (h.2, (h.4, tt))))
apart TypeRule.Num None g (numeral digits) t no_typings d h = (h, tt, tt)
apart TypeRule.Succ None g (succ e1) t (typing_first p1 no_typings) d h = ((h.1, h.2), tt, (h.0, tt))
apart TypeRule.Pred None g (pred e1) t (typing_first p1 no_typings) d h = ((h.1, h.2), tt, (h.0, tt))
apart TypeRule.IsZero None g (is_zero e1) t (typing_first p1 no_typings) d h = ((h.1, h.2), tt, (h.0, tt))
apart TypeRule.Var None g (variable n) t no_typings d h = (h, tt, tt)
apart TypeRule.Abs None g (lambda (Some t1) e2) t (typing_first p2 no_typings) d h = (h.1, tt, (h.0, tt))
apart TypeRule.App None g (apply e1 e2) t (typing_first p1 (typing_first p2 no_typings)) d h = (h.2, tt, (h.0, (h.1, tt)))
apart TypeRule.Unit None g unit_term t no_typings d h = (h, tt, tt)
apart TypeRule.Ascribe None g (ascribe e1 (Some u)) t (typing_first p1 no_typings) d h = ((h.1, h.2), tt, (h.0, tt))
apart TypeRule.Let None g (let_in e1 e2) t (typing_first p1 (typing_first p2 no_typings)) d h = (h.2, tt, (h.0, (h.1, tt)))
apart TypeRule.Rcd None g (record_term no_terms) (record_of no_fields) no_typings d h = (tt, tt, tt)
apart TypeRule.Rcd None g (record_term (term_field k e1 es)) (record_of (field l t1 ts)) (typing_first p1 ps) d h =
    let rest = apart TypeRule.Rcd None g (record_term es) (record_of ts) ps d h.3 in
    ((h.0, h.2, rest.0), tt, (h.1, rest.2))
apart TypeRule.Proj None g (project e1 l) t (typing_first p1 no_typings) d h = (h.1, tt, (h.0, tt))
apart TypeRule.Fix None g (fix e1) t (typing_first p1 no_typings) d h = (h.1, tt, (h.0, tt))
apart TypeRule.Sub (Some q) g e t (typing_first p1 no_typings) d h = (h.1.1, h.1.0, (h.0, tt))
apart _ _ _ _ _ _ _ h = absurd h

together : (r : TypeRule) (s : Option SubTree) (g : Context) (e : Term) (t : Typ) (ps : TypingTrees) (d : Dialect)
    → FitsRule r (option_map conclusion s) g e t (types_in ps) → IsSideProof s d → AreTypings (subjects r g e (first_type ps)) ps d → ByTypeRule r s g e t ps d
together TypeRule.True None g true_term t no_typings d f q h = f
together TypeRule.False None g false_term t no_typings d f q h = f
together TypeRule.If None g (if_then_else e1 e2 e3) t (typing_first p1 (typing_first p2 (typing_first p3 no_typings))) d f q h =
    (h.0, f.0, h.1.0, f.1, h.1.1.0, f.2)
together TypeRule.Num None g (numeral digits) t no_typings d f q h = f
together TypeRule.Succ None g (succ e1) t (typing_first p1 no_typings) d f q h = (h.0, f.0, f.1)
together TypeRule.Pred None g (pred e1) t (typing_first p1 no_typings) d f q h = (h.0, f.0, f.1)
together TypeRule.IsZero None g (is_zero e1) t (typing_first p1 no_typings) d f q h = (h.0, f.0, f.1)
together TypeRule.Var None g (variable n) t no_typings d f q h = f
together TypeRule.Abs None g (lambda (Some t1) e2) t (typing_first p2 no_typings) d f q h = (h.0, f)
together TypeRule.App None g (apply e1 e2) t (typing_first p1 (typing_first p2 no_typings)) d f q h = (h.0, h.1.0, f)
together TypeRule.Unit None g unit_term t no_typings d f q h = f
together TypeRule.Ascribe None g (ascribe e1 (Some u)) t (typing_first p1 no_typings) d f q h = (h.0, f.0, f.1)
together TypeRule.Let None g (let_in e1 e2) t (typing_first p1 (typing_first p2 no_typings)) d f q h = (h.0, h.1.0, f)
together TypeRule.Rcd None g (record_term no_terms) (record_of no_fields) no_typings d f q h = tt
together TypeRule.Rcd None g (record_term (term_field k e1 es)) (record_of (field l t1 ts)) (typing_first p1 ps) d f q h =
    (f.0, h.0, f.1, together TypeRule.Rcd None g (record_term es) (record_of ts) ps d f.2 tt h.1)
together TypeRule.Proj None g (project e1 l) t (typing_first p1 no_typings) d f q h = (h.0, f)
together TypeRule.Fix None g (fix e1) t (typing_first p1 no_typings) d f q h = (h.0, f)
together TypeRule.Sub (Some q) g e t (typing_first p1 no_typings) d f s h = (h.0, (s, f))
together _ _ _ _ _ _ _ f q h = absurd f

-- a tree is a proof if its last step follows, its subtyping tree is a proof, and so is each premise
pub by_parts : (r : TypeRule) (s : Option SubTree) (g : Context) (e : Term) (t : Typ) (ps : TypingTrees) (d : Dialect)
    → IsTyping g e (typing_step r t ps s) d
    ↔ (IsWellFormedContext g × IsTypingStep g e (typing_step r t ps s) × IsSideProof s d × AreTypings (subjects r g e (first_type ps)) ps d)
by_parts r s g e t ps d = (
  λ h. let k = apart r s g e t ps d h.2 in (h.0, (h.1, k.0), k.1, k.2),
  λ h. (h.0, h.1.0, together r s g e t ps d h.1.1 h.2 h.3),
)

-- the same for a `TypeProof`
pub typed_by_parts : (g : Context) (e : Term) (p : TypeProof) (d : Dialect)
    → IsTyping g e (typing_tree_of p) d
    ↔ (IsWellFormedContext g
    × IsTypingStep g e (typing_tree_of p)
    × IsSideProof (option_map (λ q. sub_tree_of q.value) (out-TypeProof p).sub) d
    × AreTypings (subjects (out-TypeProof p).rule g e (first_type (typings_of (out-TypeProof p).typing.items))) (typings_of (out-TypeProof p).typing.items) d)
typed_by_parts g e p d = rw (typing_tree_of-node p) (by_parts _ _ g e _ _ d)

-- ---- a step that fits its rule has no more premises than its term has parts

fields_enough : (g : Context) (es : TermFields) (t : Typ) (ts : List Typ) → FitsRule TypeRule.Rcd None g (record_term es) t ts → length ts ≤ length (fields_in g es)
fields_enough g no_terms (record_of no_fields) [] h = omega arith
fields_enough g (term_field k e es) (record_of (field l u us)) (t ∷ ts) h = let rest = fields_enough g es (record_of us) ts h.2 in omega arith
fields_enough _ _ _ _ h = absurd h

pub enough_parts : (r : TypeRule) (c : Option Claim) (g : Context) (e : Term) (t : Typ) (ts : List Typ) (first : Option Typ)
    → FitsRule r c g e t ts → length ts ≤ length (subjects r g e first)
enough_parts TypeRule.True None g true_term t [] first h = omega arith
enough_parts TypeRule.False None g false_term t [] first h = omega arith
enough_parts TypeRule.If None g (if_then_else a b c) t (t1 ∷ t2 ∷ t3 ∷ []) first h = omega arith
enough_parts TypeRule.Num None g (numeral n) t [] first h = omega arith
enough_parts TypeRule.Succ None g (succ a) t (t1 ∷ []) first h = omega arith
enough_parts TypeRule.Pred None g (pred a) t (t1 ∷ []) first h = omega arith
enough_parts TypeRule.IsZero None g (is_zero a) t (t1 ∷ []) first h = omega arith
enough_parts TypeRule.Var None g (variable n) t [] first h = omega arith
enough_parts TypeRule.Abs None g (lambda (Some u) a) t (t1 ∷ []) first h = omega arith
enough_parts TypeRule.App None g (apply a b) t (t1 ∷ t2 ∷ []) first h = omega arith
enough_parts TypeRule.Unit None g unit_term t [] first h = omega arith
enough_parts TypeRule.Ascribe None g (ascribe a (Some u)) t (t1 ∷ []) first h = omega arith
enough_parts TypeRule.Let None g (let_in a b) t (t1 ∷ t2 ∷ []) first h = omega arith
enough_parts TypeRule.Rcd None g (record_term es) t ts first h = fields_enough g es t ts h
enough_parts TypeRule.Proj None g (project a l) t (t1 ∷ []) first h = omega arith
enough_parts TypeRule.Fix None g (fix a) t (t1 ∷ []) first h = omega arith
enough_parts TypeRule.Sub (Some c) g e t (t1 ∷ []) first h = omega arith
enough_parts _ _ _ _ _ _ first h = absurd h

-- ---- what a premise is about

pub behind_first : {A : Type 0} (x : A) (xs : List A) (k : ℕ) (found : Option A) → k ≢ 0 → found ≡ slice_get xs (k - 1) → found ≡ slice_get (x ∷ xs) k
behind_first x xs zero found other at = absurd (other refl)
behind_first x xs (suc k) found other at = let less : suc k - 1 ≡ k = omega arith in at ∙ ap (λ n. slice_get xs n) less

pub field_there : (g : Context) (fs : List (String Global × Core)) (k : ℕ) (f : String Global × Core) → k < length fs → f ≡ get_or fs k f
    → Some (about g (term_of f.1)) ≡ slice_get (fields_in g (terms_of fs)) k
field_there g [] k f inside is = absurd (omega arith)
field_there g (x ∷ fs) zero f inside is = ap (λ y. Some (about g (term_of y.1))) is
field_there g (x ∷ fs) (suc k) f inside is = field_there g fs k f (omega arith) is

pub no_field_there : (g : Context) (fs : List (String Global × Core)) (k : ℕ) → length fs ≤ k → None ≡ slice_get (fields_in g (terms_of fs)) k
no_field_there g [] k past = refl
no_field_there g (x ∷ fs) zero past = absurd (omega arith)
no_field_there g (x ∷ fs) (suc k) past = no_field_there g fs k (omega arith)

next_of : {A : Type 0} (xs : List A) (k : ℕ) (x : A) → Some x ≡ slice_get xs k → drop k xs ≡ x ∷ drop (suc k) xs
next_of [] zero x is = let clash : Some x ≡ None = is in absurd cc
next_of [] (suc k) x is = let clash : Some x ≡ None = is in absurd cc
next_of (y ∷ xs) zero x is = let same : Some x ≡ Some y = is in ap (λ z. z ∷ xs) (sym (cc))
next_of (y ∷ xs) (suc k) x is = next_of xs k x is

none_left_of : {A : Type 0} (xs : List A) (k : ℕ) → None ≡ slice_get xs k → drop k xs ≡ []
none_left_of [] zero is = refl
none_left_of [] (suc k) is = refl
none_left_of (x ∷ xs) zero is = let clash : None ≡ Some x = is in absurd cc
none_left_of (x ∷ xs) (suc k) is = none_left_of xs k is

-- the premise at an index, and those behind it
pub premise_here : (ss : List Subject) (ps : List TypeProof) (k : ℕ) (s : Subject) (p : TypeProof) (d : Dialect)
    → k < length ps → p ≡ get_or ps k p → Some s ≡ slice_get ss k
    → AreTypings (drop k ss) (typings_of (drop k ps)) d
    ↔ (IsTyping s.context s.term (typing_tree_of p) d × AreTypings (drop (k + 1) ss) (typings_of (drop (k + 1) ps)) d)
premise_here ss ps k s p d inside is_p is_s =
    rw (next_of ss k s is_s, typings_of-drop ps k p inside is_p, add-one) (λ h. (h.0, h.1), λ h. (h.0, h.1))

-- no part of the term is left for the premise at an index
pub no_part_here : (ss : List Subject) (ps : List TypeProof) (k : ℕ) (p : TypeProof) (d : Dialect)
    → k < length ps → p ≡ get_or ps k p → None ≡ slice_get ss k → AreTypings (drop k ss) (typings_of (drop k ps)) d → ⊥
no_part_here ss ps k p d inside is_p none h = rw (none_left_of ss k none, typings_of-drop ps k p inside is_p) at h
