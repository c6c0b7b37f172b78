-- Each term has a least type or none, in a context and over all contexts of a scope.
use Rattle.std.proofs.Common.{◌⊎◌, [], ◌∷◌, Option, Some, None, refl, inl, inr}
use Rattle.lam_rules.specs.Types.{Label, Typ, bool, nat, unit, top, arrow, record_of, Fields, no_fields, field, Has, IsAbsent, IsWellFormed, AreWellFormed}
use Rattle.lam_rules.specs.Terms.{Term, true_term, false_term, if_then_else, numeral, succ, pred, is_zero, variable, free, lambda, apply, unit_term, ascribe, let_in, record_term, project, fix, TermFields, no_terms, term_field}
use Rattle.lam_rules.specs.Subtyping.{IsBelow}
use Rattle.lam_rules.specs.Typing.{Context, IsWellFormedEntry, IsWellFormedContext}
use Rattle.lam_rules.specs.declared.rules.Dialect.{Dialect}
use Rattle.lam_scope.specs.Places.{written, of_term, Scope}
use Rattle.lam_scope.specs.WellFormed.{IsWellFormedTerm, AreWellFormedTerms, IsWellFormedScope}
use Rattle.lam_typing.specs.LeastTypes.{IsTyped, IsLeastAt}
use Rattle.lam_rules.proofs.Permutations.{absent_not}
use Rattle.lam_sub.proofs.LookUps.{label_or}
use Rattle.lam_lattice.proofs.Existing.{joins_exist}
use Rattle.lam_typing.proofs.Deciding.{decide_below}
use Rattle.lam_typing.proofs.Derivations.{FieldsDerive, none_derive, more_derive, derives_wf}
use Rattle.lam_typing.specs.Progress.{IsLowest}
use Rattle.lam_typing.proofs.LeastIn.{LeastIn, LeastContext, lowest, least_at, least_wf}
use Rattle.lam_typing.specs.inner.Steps.{entry_at, NatRule, LambdaRule, ArrowRule, ApplyRule, AscribeRule, LetRule, IfRule, FixRule, FieldRule, ProjectRule, MoreRule, RecordRule}
use Rattle.lam_typing.proofs.LeastSteps.{LeastFields, true_least, false_least, unit_least, num_least, free_least, variable_least, succ_least, pred_least, is_zero_least, lambda_least, apply_least, ascribe_least, let_least, if_least, fix_least, project_least, none_least, more_least, record_least}

-- each type has distinct labels, and the fields may repeat one
abbrev pub AreEachWellFormed : Fields → Type 0
AreEachWellFormed no_fields = Unit {0}
AreEachWellFormed (field l t fs) = IsWellFormed t × AreEachWellFormed fs

types_wf : (g : Context) (es : TermFields) (ts : Fields) (d : Dialect) → FieldsDerive g es ts d → AreEachWellFormed ts
types_wf g _ _ d (none_derive wf) = tt
types_wf g _ _ d (more_derive {e = e} {es = es} {t = t} {ts = ts} x xs) = ((derives_wf g e t d x).1, types_wf g es ts d xs)

abbrev LeastFieldsWf : Option Fields → Type 0
LeastFieldsWf None = Unit {0}
LeastFieldsWf (Some fs) = AreEachWellFormed fs

least_fields_wf : (g : Context) (es : TermFields) (y : Option Fields) (d : Dialect) → LeastFields g es y d → LeastFieldsWf y
least_fields_wf g es None d least = tt
least_fields_wf g es (Some fs) d least = types_wf g es fs d least.0

module _ (d : Dialect) where
  nat_step : (outcome : Typ) (x : Option Typ) → IsWellFormedEntry x → (o : Option Typ) × NatRule outcome x o d
  nat_step outcome None wf = (None, refl)
  nat_step outcome (Some s) wf = by (decide_below d s nat wf tt)
    where
      by : IsBelow s nat d ⊎ (IsBelow s nat d → ⊥) → (o : Option Typ) × NatRule outcome (Some s) o d
      by (inl below) = (Some outcome, (refl, below))
      by (inr n) = (None, n)

  lambda_step : (w y : Option Typ) → (o : Option Typ) × LambdaRule w y o
  lambda_step (Some w) (Some t) = (Some (arrow w t), refl)
  lambda_step (Some w) None = (None, refl)
  lambda_step None y = (None, refl)

  apply_step : (x y : Option Typ) → IsWellFormedEntry x → IsWellFormedEntry y → (o : Option Typ) × ApplyRule x y o d
  apply_step None y wx wy = (None, refl)
  apply_step (Some f) None wx wy = (None, refl)
  apply_step (Some (arrow p r)) (Some s) wx wy = by (decide_below d s p wy wx.0)
    where
      by : IsBelow s p d ⊎ (IsBelow s p d → ⊥) → (o : Option Typ) × ArrowRule (arrow p r) s o d
      by (inl below) = (Some r, (refl, below))
      by (inr n) = (None, n)
  apply_step (Some bool) (Some s) wx wy = (None, refl)
  apply_step (Some nat) (Some s) wx wy = (None, refl)
  apply_step (Some unit) (Some s) wx wy = (None, refl)
  apply_step (Some top) (Some s) wx wy = (None, refl)
  apply_step (Some (record_of fs)) (Some s) wx wy = (None, refl)

  ascribe_step : (w x : Option Typ) → IsWellFormedEntry w → IsWellFormedEntry x → (o : Option Typ) × AscribeRule w x o d
  ascribe_step (Some w) (Some s) ww wx = by (decide_below d s w wx ww)
    where
      by : IsBelow s w d ⊎ (IsBelow s w d → ⊥) → (o : Option Typ) × AscribeRule (Some w) (Some s) o d
      by (inl below) = (Some w, (refl, below))
      by (inr n) = (None, n)
  ascribe_step (Some w) None ww wx = (None, refl)
  ascribe_step None x ww wx = (None, refl)

  let_step : (x y : Option Typ) → (o : Option Typ) × LetRule x y o
  let_step (Some s) y = (y, refl)
  let_step None y = (None, refl)

  if_step : (x y z : Option Typ) → IsWellFormedEntry x → IsWellFormedEntry y → IsWellFormedEntry z → (o : Option Typ) × IfRule x y z o d
  if_step None y z wx wy wz = (None, refl)
  if_step (Some c) None z wx wy wz = (None, refl)
  if_step (Some c) (Some a) None wx wy wz = (None, refl)
  if_step (Some c) (Some a) (Some b) wx wy wz = by (decide_below d c bool wx tt)
    where
      by : IsBelow c bool d ⊎ (IsBelow c bool d → ⊥) → (o : Option Typ) × IfRule (Some c) (Some a) (Some b) o d
      by (inl below) = let j = joins_exist a b d wy wz in (Some j.0, (below, j.1))
      by (inr n) = (None, n)

  fix_step : (x : Option Typ) → IsWellFormedEntry x → (o : Option Typ) × FixRule x o d
  fix_step None wx = (None, refl)
  fix_step (Some (arrow p r)) wx = by (decide_below d r p wx.1 wx.0)
    where
      by : IsBelow r p d ⊎ (IsBelow r p d → ⊥) → (o : Option Typ) × FixRule (Some (arrow p r)) o d
      by (inl below) = (Some r, (refl, below))
      by (inr n) = (None, n)
  fix_step (Some bool) wx = (None, refl)
  fix_step (Some nat) wx = (None, refl)
  fix_step (Some unit) wx = (None, refl)
  fix_step (Some top) wx = (None, refl)
  fix_step (Some (record_of fs)) wx = (None, refl)

  project_step : (l : Label) (x : Option Typ) → (o : Option Typ) × ProjectRule l x o
  project_step l None = (None, refl)
  project_step l (Some (record_of fs)) = by (label_or l fs)
    where
      by : ((t : Typ) × Has l t fs) ⊎ IsAbsent l fs → (o : Option Typ) × FieldRule l (record_of fs) o
      by (inl (t, has)) = (Some t, has)
      by (inr absent) = (None, absent)
  project_step l (Some bool) = (None, refl)
  project_step l (Some nat) = (None, refl)
  project_step l (Some unit) = (None, refl)
  project_step l (Some top) = (None, refl)
  project_step l (Some (arrow p r)) = (None, refl)

  more_step : (l : Label) (x : Option Typ) (y : Option Fields) → (o : Option Fields) × MoreRule l x y o
  more_step l None y = (None, refl)
  more_step l (Some t) None = (None, refl)
  more_step l (Some t) (Some fs) = (Some (field l t fs), refl)

  distinct : (fs : Fields) → AreEachWellFormed fs → AreWellFormed fs ⊎ (AreWellFormed fs → ⊥)
  distinct no_fields wf = inl tt
  distinct (field l t fs) wf = by (label_or l fs) (distinct fs wf.1)
    where
      by : ((u : Typ) × Has l u fs) ⊎ IsAbsent l fs → AreWellFormed fs ⊎ (AreWellFormed fs → ⊥) → AreWellFormed (field l t fs) ⊎ (AreWellFormed (field l t fs) → ⊥)
      by (inr absent) (inl rest) = inl (wf.0, absent, rest)
      by (inr absent) (inr n) = inr (λ h. n h.2)
      by (inl (u, has)) rest = inr (λ h. absent_not l fs u h.1 has)

  record_step : (y : Option Fields) → LeastFieldsWf y → (o : Option Typ) × RecordRule y o
  record_step None wf = (None, refl)
  record_step (Some fs) wf = by (distinct fs wf)
    where
      by : AreWellFormed fs ⊎ (AreWellFormed fs → ⊥) → (o : Option Typ) × RecordRule (Some fs) o
      by (inl wf) = (Some (record_of fs), (refl, wf))
      by (inr n) = (None, n)

  mutual
    pub exists_in : (e : Term) (g : Context) → IsWellFormedContext g → IsWellFormedTerm e → (o : Option Typ) × LeastIn g e o d
    exists_in true_term g wg we = (Some bool, true_least g d wg)
    exists_in false_term g wg we = (Some bool, false_least g d wg)
    exists_in unit_term g wg we = (Some unit, unit_least g d wg)
    exists_in (numeral digits) g wg we = (Some nat, num_least g digits d wg)
    exists_in (variable n) g wg we = (entry_at n g, variable_least g n (entry_at n g) d wg refl)
    exists_in (free x) g wg we = (None, free_least g x d)
    exists_in (if_then_else c a b) g wg we =
        let x = exists_in c g wg we.0 in
        let y = exists_in a g wg we.1 in
        let z = exists_in b g wg we.2 in
        let o = if_step x.0 y.0 z.0 (least_wf g c x.0 d x.1) (least_wf g a y.0 d y.1) (least_wf g b z.0 d z.1) in
        (o.0, if_least g c a b x.0 y.0 z.0 o.0 d x.1 y.1 z.1 o.1)
    exists_in (succ e) g wg we =
        let x = exists_in e g wg we in
        let o = nat_step nat x.0 (least_wf g e x.0 d x.1) in
        (o.0, succ_least g e x.0 o.0 d x.1 o.1)
    exists_in (pred e) g wg we =
        let x = exists_in e g wg we in
        let o = nat_step nat x.0 (least_wf g e x.0 d x.1) in
        (o.0, pred_least g e x.0 o.0 d x.1 o.1)
    exists_in (is_zero e) g wg we =
        let x = exists_in e g wg we in
        let o = nat_step bool x.0 (least_wf g e x.0 d x.1) in
        (o.0, is_zero_least g e x.0 o.0 d x.1 o.1)
    exists_in (lambda w e) g wg we =
        let y = exists_in e (w ∷ g) (we.0, wg) we.1 in
        let o = lambda_step w y.0 in
        (o.0, lambda_least g w e y.0 o.0 d y.1 o.1)
    exists_in (apply f a) g wg we =
        let x = exists_in f g wg we.0 in
        let y = exists_in a g wg we.1 in
        let o = apply_step x.0 y.0 (least_wf g f x.0 d x.1) (least_wf g a y.0 d y.1) in
        (o.0, apply_least g f a d x.0 y.0 o.0 x.1 y.1 o.1)
    exists_in (ascribe e w) g wg we =
        let x = exists_in e g wg we.0 in
        let o = ascribe_step w x.0 we.1 (least_wf g e x.0 d x.1) in
        (o.0, ascribe_least g e w x.0 o.0 d x.1 o.1)
    exists_in (let_in a b) g wg we =
        let x = exists_in a g wg we.0 in
        let y = exists_in b (x.0 ∷ g) (least_wf g a x.0 d x.1, wg) we.1 in
        let o = let_step x.0 y.0 in
        (o.0, let_least g a b x.0 y.0 o.0 d wg x.1 y.1 o.1)
    exists_in (record_term es) g wg we =
        let y = fields_exist es g wg we in
        let o = record_step y.0 (least_fields_wf g es y.0 d y.1) in
        (o.0, record_least g es y.0 o.0 d y.1 o.1)
    exists_in (project e l) g wg we =
        let x = exists_in e g wg we in
        let o = project_step l x.0 in
        (o.0, project_least g e l x.0 o.0 d x.1 o.1)
    exists_in (fix e) g wg we =
        let x = exists_in e g wg we in
        let o = fix_step x.0 (least_wf g e x.0 d x.1) in
        (o.0, fix_least g e x.0 o.0 d x.1 o.1)

    fields_exist : (es : TermFields) (g : Context) → IsWellFormedContext g → AreWellFormedTerms es → (y : Option Fields) × LeastFields g es y d
    fields_exist no_terms g wg we = (Some no_fields, none_least g d wg)
    fields_exist (term_field l e es) g wg we =
        let x = exists_in e g wg we.0 in
        let y = fields_exist es g wg we.1 in
        let o = more_step l x.0 y.0 in
        (o.0, more_least g l e es x.0 y.0 o.0 d x.1 y.1 o.1)

  -- the context of least entries
  pub context_exists : (s : Scope) → IsWellFormedScope s → (g : Context) × LeastContext s g d
  context_exists [] wf = ([], tt)
  context_exists (written w ∷ outside) wf = let g = context_exists outside wf.1 in (w ∷ g.0, (refl, g.1))
  context_exists (of_term e ∷ outside) wf =
      let g = context_exists outside wf.1 in
      let low = lowest outside g.0 d wf.1 g.1 in
      let o = exists_in e g.0 low.wf wf.0 in
      (o.0 ∷ g.0, (o.1, g.1))

  pub lowest_exists : (s : Scope) → IsWellFormedScope s → (g : Context) × IsLowest s g d
  lowest_exists s wf = let g = context_exists s wf in (g.0, lowest s g.0 d wf g.1)

  -- a least type, or none
  pub exists_at : (s : Scope) (e : Term) → IsWellFormedScope s → IsWellFormedTerm e → (o : Option Typ) × IsLeastAt s e o d
  exists_at s e ws we =
      let g = lowest_exists s ws in
      let o = exists_in e g.0 g.1.wf we in
      (o.0, least_at s g.0 e o.0 d g.1 o.1)

  pub typed_or_not : (s : Scope) (e : Term) → IsWellFormedScope s → IsWellFormedTerm e → IsTyped s e d ⊎ (IsTyped s e d → ⊥)
  typed_or_not s e ws we = by (exists_at s e ws we)
    where
      by : (o : Option Typ) × IsLeastAt s e o d → IsTyped s e d ⊎ (IsTyped s e d → ⊥)
      by (Some t, least) = inl (t, least.0)
      by (None, least) = inr (λ h. least h.0 h.1)
