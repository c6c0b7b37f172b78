-- What is told of a term that is to blame, form by form, from the numbers of the types of its parts.
use Rattle.std.proofs.Common.{◌≡◌, ◌⊎◌, inl, inr, Box, String, ℕ, List, [], ◌∷◌, length, get_or, map, Option, Some, None, codes, refl, ap, sym, subst, ◌∙◌, arith}
use Rattle.std.specs.declared.alloc.Global.{Global}
use Rattle.lam_rules.specs.Numbers.{type_of}
use Rattle.lam_rules.specs.TermViews.{term_of}
use Rattle.lam_rules.specs.declared.terms.Core.{Core}
use Rattle.lam_rules.specs.declared.terms.Core.TheVariants.{If, Succ, Pred, IsZero, App, Ascribe, Proj, Fix}
use Rattle.lam_rules.specs.declared.types.Ty.{Ty}
use Rattle.lam_rules.proofs.TermShapes.{term_of-Succ, term_of-Pred, term_of-IsZero, Seen, seen_True, seen_False, seen_If, seen_Num, seen_Succ, seen_Pred, seen_IsZero, seen_Var, seen_Free, seen_Abs, seen_App, seen_Unit, seen_Ascribe, seen_Let, seen_Record, seen_Proj, seen_Fix, seen}
use Rattle.lam_rules.specs.Terms.{Term, if_then_else, succ, pred, is_zero, apply, ascribe, project, fix}
use Rattle.lam_rules.specs.Texts.{text}
use Rattle.lam_rules.specs.Types.{Typ, Label}
use Rattle.lam_rules.specs.declared.numbers.TyNo.{TyNo}
use Rattle.std.specs.Option.{option_map}
use Rattle.lam_query.specs.Mismatches.{Mismatch, expected, found, in_application, in_fix}
use Rattle.lam_query.specs.inner.Explained.{mismatch_in, HasParts}

-- as many numbers as the form has parts

counted : (e f : Term) (n : ℕ) → e ≡ f → HasParts e n → HasParts f n
counted e f n is has = subst (λ t. HasParts t n) is has

module _ (ts : List Typ) where
  -- one part
  one_listed : (ps : List TyNo) (d : TyNo) → length ps ≡ 1 → map (type_of ts) ps ≡ type_of ts (get_or ps 0 d) ∷ []
  one_listed [] d is = absurd (omega (arith, is))
  one_listed (p ∷ []) d is = refl
  one_listed (p ∷ q ∷ ps) d is = absurd (omega (arith, is))

  -- two
  two_listed : (ps : List TyNo) (d e : TyNo) → length ps ≡ 2 → map (type_of ts) ps ≡ type_of ts (get_or ps 0 d) ∷ type_of ts (get_or ps 1 e) ∷ []
  two_listed [] d e is = absurd (omega (arith, is))
  two_listed (p ∷ []) d e is = absurd (omega (arith, is))
  two_listed (p ∷ q ∷ []) d e is = refl
  two_listed (p ∷ q ∷ r ∷ ps) d e is = absurd (omega (arith, is))

  -- three
  three_listed : (ps : List TyNo) (d : TyNo) → length ps ≡ 3 → (u v : Typ) × (map (type_of ts) ps ≡ type_of ts (get_or ps 0 d) ∷ u ∷ v ∷ [])
  three_listed [] d is = absurd (omega (arith, is))
  three_listed (p ∷ []) d is = absurd (omega (arith, is))
  three_listed (p ∷ q ∷ []) d is = absurd (omega (arith, is))
  three_listed (p ∷ q ∷ r ∷ []) d is = (type_of ts q, type_of ts r, refl)
  three_listed (p ∷ q ∷ r ∷ s ∷ ps) d is = absurd (omega (arith, is))

  module _ (e : Term) (ps : List TyNo) (many : HasParts e (length ps)) where
    -- what stands on the left is told
    abbrev Tells : Option Mismatch → Type 0
    Tells m = m ≡ mismatch_in e (map (type_of ts) ps)

    tells : (f : Term) (us : List Typ) (m : Option Mismatch) → e ≡ f → map (type_of ts) ps ≡ us → m ≡ mismatch_in f us → Tells m
    tells f us m is listed told = told ∙ sym (λ i. mismatch_in (is i) (listed i))

    pub two_parts : (f a : Term) → e ≡ apply f a → length ps ≡ 2
    two_parts f a is = counted e (apply f a) (length ps) is many

    pub told_apply : (f a : Term) (d g : TyNo) (m : Mismatch) → e ≡ apply f a → m ≡ in_application (type_of ts (get_or ps 0 d)) (type_of ts (get_or ps 1 g)) → Tells (Some m)
    told_apply f a d g m is told = tells (apply f a) _ (Some m) is (two_listed ps d g (two_parts f a is)) (ap Some told)

    pub three_parts : (c a b : Term) → e ≡ if_then_else c a b → length ps ≡ 3
    three_parts c a b is = counted e (if_then_else c a b) (length ps) is many

    pub told_if : (c a b : Term) (d : TyNo) (m : Mismatch) → e ≡ if_then_else c a b → m ≡ expected (codes "Bool") (text (type_of ts (get_or ps 0 d))) → Tells (Some m)
    told_if c a b d m is told =
        let listed = three_listed ps d (three_parts c a b is) in
        tells (if_then_else c a b) (type_of ts (get_or ps 0 d) ∷ listed.0 ∷ listed.1 ∷ []) (Some m) is listed.2 (ap Some told)

    pub succ_part : (a : Term) → e ≡ succ a → length ps ≡ 1
    succ_part a is = counted e (succ a) (length ps) is many

    pub told_succ : (a : Term) (d : TyNo) (m : Mismatch) → e ≡ succ a → m ≡ expected (codes "Nat") (text (type_of ts (get_or ps 0 d))) → Tells (Some m)
    told_succ a d m is told = tells (succ a) _ (Some m) is (one_listed ps d (succ_part a is)) (ap Some told)

    pub pred_part : (a : Term) → e ≡ pred a → length ps ≡ 1
    pred_part a is = counted e (pred a) (length ps) is many

    pub told_pred : (a : Term) (d : TyNo) (m : Mismatch) → e ≡ pred a → m ≡ expected (codes "Nat") (text (type_of ts (get_or ps 0 d))) → Tells (Some m)
    told_pred a d m is told = tells (pred a) _ (Some m) is (one_listed ps d (pred_part a is)) (ap Some told)

    pub is_zero_part : (a : Term) → e ≡ is_zero a → length ps ≡ 1
    is_zero_part a is = counted e (is_zero a) (length ps) is many

    pub told_is_zero : (a : Term) (d : TyNo) (m : Mismatch) → e ≡ is_zero a → m ≡ expected (codes "Nat") (text (type_of ts (get_or ps 0 d))) → Tells (Some m)
    told_is_zero a d m is told = tells (is_zero a) _ (Some m) is (one_listed ps d (is_zero_part a is)) (ap Some told)

    pub project_part : (a : Term) (l : Label) → e ≡ project a l → length ps ≡ 1
    project_part a l is = counted e (project a l) (length ps) is many

    pub told_project : (a : Term) (l : Label) (d : TyNo) (m : Mismatch) → e ≡ project a l → m ≡ found (text (type_of ts (get_or ps 0 d))) → Tells (Some m)
    told_project a l d m is told = tells (project a l) _ (Some m) is (one_listed ps d (project_part a l is)) (ap Some told)

    pub fix_part : (a : Term) → e ≡ fix a → length ps ≡ 1
    fix_part a is = counted e (fix a) (length ps) is many

    pub told_fix : (a : Term) (d : TyNo) (m : Mismatch) → e ≡ fix a → m ≡ in_fix (type_of ts (get_or ps 0 d)) → Tells (Some m)
    told_fix a d m is told = tells (fix a) _ (Some m) is (one_listed ps d (fix_part a is)) (ap Some told)

    pub ascribe_part : (a : Term) (w : Option Typ) → e ≡ ascribe a w → length ps ≡ 1
    ascribe_part a w is = counted e (ascribe a w) (length ps) is many

    of_written : (a : Term) (w : Option Typ) (t : Typ) → option_map (λ v. expected (text v) (text t)) w ≡ mismatch_in (ascribe a w) (t ∷ [])
    of_written a None t = refl
    of_written a (Some v) t = refl

    pub told_ascribe : (a : Term) (w : Option Typ) (d : TyNo) (m : Option Mismatch) → e ≡ ascribe a w
        → m ≡ option_map (λ v. expected (text v) (text (type_of ts (get_or ps 0 d)))) w → Tells m
    told_ascribe a w d m is told =
        let t = type_of ts (get_or ps 0 d) in
        tells (ascribe a w) (t ∷ []) m is (one_listed ps d (ascribe_part a w is)) (told ∙ of_written a w t)

-- ---- of several forms

-- an operation on numbers
abbrev pub IsOperation : Core → Type 0
IsOperation t = ((x : Box Core Global) × (t ≡ Succ x)) ⊎ (((x : Box Core Global) × (t ≡ Pred x)) ⊎ ((x : Box Core Global) × (t ≡ IsZero x)))

pub operation_part : (ts : List Typ) (t : Core) (ps : List TyNo) → HasParts (term_of t) (length ps) → IsOperation t → length ps ≡ 1
operation_part ts t ps many (inl (x, is)) = succ_part ts (term_of t) ps many _ (ap term_of is ∙ term_of-Succ x)
operation_part ts t ps many (inr (inl (x, is))) = pred_part ts (term_of t) ps many _ (ap term_of is ∙ term_of-Pred x)
operation_part ts t ps many (inr (inr (x, is))) = is_zero_part ts (term_of t) ps many _ (ap term_of is ∙ term_of-IsZero x)

pub told_operation : (ts : List Typ) (t : Core) (ps : List TyNo) → HasParts (term_of t) (length ps) → IsOperation t → (d : TyNo) (m : Mismatch)
    → m ≡ expected (codes "Nat") (text (type_of ts (get_or ps 0 d))) → Some m ≡ mismatch_in (term_of t) (map (type_of ts) ps)
told_operation ts t ps many (inl (x, is)) d m told = told_succ ts (term_of t) ps many _ d m (ap term_of is ∙ term_of-Succ x) told
told_operation ts t ps many (inr (inl (x, is))) d m told = told_pred ts (term_of t) ps many _ d m (ap term_of is ∙ term_of-Pred x) told
told_operation ts t ps many (inr (inr (x, is))) d m told = told_is_zero ts (term_of t) ps many _ d m (ap term_of is ∙ term_of-IsZero x) told

-- another term
pub told_nothing : (t : Core) (us : List Typ) → ((x : Box (Core × Core × Core) Global) → t ≡ If x → ⊥) → ((x : Box Core Global) → t ≡ Succ x → ⊥)
    → ((x : Box Core Global) → t ≡ Pred x → ⊥) → ((x : Box Core Global) → t ≡ IsZero x → ⊥) → ((x : Box (Core × Core) Global) → t ≡ App x → ⊥)
    → ((x : Box (Core × Option Ty) Global) → t ≡ Ascribe x → ⊥) → ((x : Box (Core × String Global) Global) → t ≡ Proj x → ⊥)
    → ((x : Box Core Global) → t ≡ Fix x → ⊥) → None ≡ mismatch_in (term_of t) us
told_nothing t us not_if not_succ not_pred not_zero not_app not_ascribe not_proj not_fix = by (term_of t) t (seen t) refl
  where
    by : (u : Term) (e : Core) → Seen e u → t ≡ e → None ≡ mismatch_in u us
    by _ _ seen_True is = refl
    by _ _ seen_False is = refl
    by _ _ (seen_If p) is = absurd (not_if p is)
    by _ _ (seen_Num s) is = refl
    by _ _ (seen_Succ x) is = absurd (not_succ x is)
    by _ _ (seen_Pred x) is = absurd (not_pred x is)
    by _ _ (seen_IsZero x) is = absurd (not_zero x is)
    by _ _ (seen_Var n) is = refl
    by _ _ (seen_Free s) is = refl
    by _ _ (seen_Abs p) is = refl
    by _ _ (seen_App p) is = absurd (not_app p is)
    by _ _ seen_Unit is = refl
    by _ _ (seen_Ascribe p) is = absurd (not_ascribe p is)
    by _ _ (seen_Let p) is = refl
    by _ _ (seen_Record fs) is = refl
    by _ _ (seen_Proj p) is = absurd (not_proj p is)
    by _ _ (seen_Fix x) is = absurd (not_fix x is)
