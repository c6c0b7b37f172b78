-- What a blame tells of the parts of a term.
use Rattle.std.proofs.Common.{◌≡◌, ℕ, ◌<◌, List, length, get_or, Option, Some, None, refl, sym, ap, ◌∙◌, codes, arith}
use Rattle.lam_rules.specs.Types.{Label, Typ, bool, nat, unit, top, arrow, record_of, Fields, no_fields, field, Has, IsAbsent, AreWellFormed}
use Rattle.lam_rules.specs.Terms.{Term, variable, if_then_else, succ, pred, is_zero, apply, ascribe, record_term, project, fix, TermFields, no_terms, term_field}
use Rattle.lam_rules.specs.Subtyping.{IsBelow}
use Rattle.lam_rules.specs.Typing.{Context}
use Rattle.lam_rules.specs.declared.rules.Dialect.{Dialect}
use Rattle.lam_rules.proofs.ByShape.{below_wf}
use Rattle.lam_rules.proofs.Composing.{below_refl, below_arrow}
use Rattle.lam_sub.proofs.Below.{below_arrow_is}
use Rattle.lam_scope.specs.Places.{Scope}
use Rattle.lam_scope.specs.WellFormed.{IsWellFormedScope}
use Rattle.lam_typing.specs.Blaming.{AreFieldsTyped, IsBlamed, IsBlamedFor, application_code, IsNoLabelOf, DifferInLabels}
use Rattle.lam_typing.specs.Contexts.{IsContext}
use Rattle.lam_typing.specs.LeastTypes.{IsTypeAt, IsLeastAt}
use Rattle.lam_typing.specs.Progress.{IsLowest}
use Rattle.lam_typing.specs.inner.Steps.{entry_at}
use Rattle.lam_typing.proofs.Derivations.{Derives, FieldsDerive, none_derive, more_derive, derives_wf, derives, has_type, t_sub, t_succ, t_pred, t_is_zero, t_app, t_ascribe, t_rcd, t_proj, t_fix}
use Rattle.lam_typing.proofs.Existing.{lowest_exists}
use Rattle.lam_typing.proofs.Forms.{no_type_within, context_length}
use Rattle.lam_typing.proofs.LeastIn.{least_in, typed_in, typed_at}
use Rattle.lam_typing.proofs.LeastSteps.{variable_least}
use Rattle.lam_typing.proofs.Narrows.{narrow}
use Rattle.lam_typing.proofs.NeverBlamed.{if_unblamed}

-- a name that is bound is not to blame

pub unblamed_by : (o : Option Typ) (s : Scope) (g : Context) (n : ℕ) (d : Dialect) → IsLowest s g d → n < length g → o ≡ entry_at n g → IsBlamed s (variable n) d → ⊥
unblamed_by (Some t) s g n d low lt e blamed = blamed.untyped (typed_at s g (variable n) t d low (variable_least g n (Some t) d low.wf e).0)
unblamed_by None s g n d low lt e blamed = blamed.unexcused (g, low.is_context, no_type_within n g lt (sym e))

-- an application is reported to have no function only if its first term has no arrow type, and an argument that does not fit only if it has one

codes_differ : codes "E2" ≡ codes "E3" → ⊥
codes_differ e = numbers_differ (ap (λ (xs : List ℕ). get_or xs 1 0) e) refl refl
  where
    numbers_differ : {a b : ℕ} → a ≡ b → a ≡ 50 → b ≡ 51 → ⊥
    numbers_differ {a} {b} e f g = omega arith

pub no_function_reason : (s : Scope) (f a : Term) (p r : Typ) (d : Dialect) → IsBlamedFor s (apply f a) (codes "E2") d → IsTypeAt s f (arrow p r) d → ⊥
no_function_reason s f a p r d told function =
    let is = below_arrow_is told.0 p r d (told.1.1 (arrow p r) function) in
    codes_differ (told.2 ∙ ap application_code is.2)

pub function_reason : (s : Scope) (f a : Term) (d : Dialect) → IsBlamedFor s (apply f a) (codes "E3") d → (p : Typ) × (r : Typ) × IsTypeAt s f (arrow p r) d
function_reason s f a d (arrow p r, least, is) = (p, r, least.0)
function_reason s f a d (bool, least, is) = absurd (codes_differ (sym is))
function_reason s f a d (nat, least, is) = absurd (codes_differ (sym is))
function_reason s f a d (unit, least, is) = absurd (codes_differ (sym is))
function_reason s f a d (top, least, is) = absurd (codes_differ (sym is))
function_reason s f a d (record_of fs, least, is) = absurd (codes_differ (sym is))

module _ (d : Dialect) where
  pub bound_unblamed : (s : Scope) (n : ℕ) → IsWellFormedScope s → n < length s → IsBlamed s (variable n) d → ⊥
  bound_unblamed s n ws lt blamed =
      let g = lowest_exists d s ws in
      let same = context_length s g.0 d g.1.is_context in
      unblamed_by (entry_at n g.0) s g.0 n d g.1 (omega (arith, lt, same)) refl blamed

  -- a scope has a context

  pub some_context : (s : Scope) → IsWellFormedScope s → (g : Context) × IsContext s g d
  some_context s ws = let g = lowest_exists d s ws in (g.0, g.1.is_context)

  -- what is wrong with the parts

  typed_part : (s : Scope) (g : Context) (e : Term) (t u : Typ) → IsLowest s g d → IsLeastAt s e (Some t) d → IsBelow t u d → Derives g e u d
  typed_part s g e t u low least below = t_sub (least_in s g e (Some t) d low least).0 below

  pub condition_reason : (s : Scope) (c a b : Term) (t : Typ) → IsWellFormedScope s → IsBlamed s (if_then_else c a b) d → IsLeastAt s c (Some t) d → IsBelow t bool d → ⊥
  condition_reason s c a b t ws blamed least below =
      let g = lowest_exists d s ws in
      if_unblamed d s c a b ws (g.0, g.1.is_context, has_type g.0 c bool d (typed_part s g.0 c t bool g.1 least below)) blamed

  pub succ_reason : (s : Scope) (e : Term) (t : Typ) → IsWellFormedScope s → IsBlamed s (succ e) d → IsLeastAt s e (Some t) d → IsBelow t nat d → ⊥
  succ_reason s e t ws blamed least below = let g = lowest_exists d s ws in blamed.untyped (typed_at s g.0 (succ e) nat d g.1 (t_succ (typed_part s g.0 e t nat g.1 least below)))

  pub pred_reason : (s : Scope) (e : Term) (t : Typ) → IsWellFormedScope s → IsBlamed s (pred e) d → IsLeastAt s e (Some t) d → IsBelow t nat d → ⊥
  pred_reason s e t ws blamed least below = let g = lowest_exists d s ws in blamed.untyped (typed_at s g.0 (pred e) nat d g.1 (t_pred (typed_part s g.0 e t nat g.1 least below)))

  pub is_zero_reason : (s : Scope) (e : Term) (t : Typ) → IsWellFormedScope s → IsBlamed s (is_zero e) d → IsLeastAt s e (Some t) d → IsBelow t nat d → ⊥
  is_zero_reason s e t ws blamed least below = let g = lowest_exists d s ws in blamed.untyped (typed_at s g.0 (is_zero e) bool d g.1 (t_is_zero (typed_part s g.0 e t nat g.1 least below)))

  pub apply_reason : (s : Scope) (f a : Term) (p r t : Typ) → IsWellFormedScope s → IsBlamed s (apply f a) d → IsLeastAt s f (Some (arrow p r)) d → IsLeastAt s a (Some t) d → IsBelow t p d → ⊥
  apply_reason s f a p r t ws blamed function argument below =
      let g = lowest_exists d s ws in
      blamed.untyped (typed_at s g.0 (apply f a) r d g.1 (t_app (least_in s g.0 f (Some (arrow p r)) d g.1 function).0 (typed_part s g.0 a t p g.1 argument below)))

  pub ascribe_reason : (s : Scope) (e : Term) (w t : Typ) → IsWellFormedScope s → IsBlamed s (ascribe e (Some w)) d → IsLeastAt s e (Some t) d → IsBelow t w d → ⊥
  ascribe_reason s e w t ws blamed least below = let g = lowest_exists d s ws in blamed.untyped (typed_at s g.0 (ascribe e (Some w)) w d g.1 (t_ascribe (typed_part s g.0 e t w g.1 least below)))

  pub project_reason : (s : Scope) (e : Term) (l : Label) (fs : Fields) (t : Typ) → IsWellFormedScope s → IsBlamed s (project e l) d → IsLeastAt s e (Some (record_of fs)) d → Has l t fs → ⊥
  project_reason s e l fs t ws blamed least has =
      let g = lowest_exists d s ws in
      blamed.untyped (typed_at s g.0 (project e l) t d g.1 (t_proj (least_in s g.0 e (Some (record_of fs)) d g.1 least).0 has))

  pub fix_reason : (s : Scope) (e : Term) (p r : Typ) → IsWellFormedScope s → IsBlamed s (fix e) d → IsLeastAt s e (Some (arrow p r)) d → IsBelow r p d → ⊥
  fix_reason s e p r ws blamed least below =
      let g = lowest_exists d s ws in
      let wide = below_arrow p r r r d below (below_refl r d (below_wf r p d below).0) in
      blamed.untyped (typed_at s g.0 (fix e) r d g.1 (t_fix (typed_part s g.0 e (arrow p r) (arrow r r) g.1 least wide)))

  -- the same for all types of the parts, not only the least

  type_in_lowest : (s : Scope) (g : Context) (e : Term) (t : Typ) → IsLowest s g d → IsTypeAt s e t d → Derives g e t d
  type_in_lowest s g e t low is = narrow g is.0 e t d low.wf (low.narrower is.0 is.1) (derives is.0 e t d is.2)

  pub application_reason : (s : Scope) (f a : Term) (p r : Typ) → IsWellFormedScope s → IsBlamed s (apply f a) d → IsTypeAt s f (arrow p r) d → IsTypeAt s a p d → ⊥
  application_reason s f a p r ws blamed function argument =
      let g = lowest_exists d s ws in
      blamed.untyped (typed_at s g.0 (apply f a) r d g.1 (t_app (type_in_lowest s g.0 f (arrow p r) g.1 function) (type_in_lowest s g.0 a p g.1 argument)))

  pub projection_reason : (s : Scope) (e : Term) (l : Label) (fs : Fields) (t : Typ) → IsBlamed s (project e l) d → IsTypeAt s e (record_of fs) d → Has l t fs → ⊥
  projection_reason s e l fs t blamed is has = blamed.untyped (t, (is.0, is.1, has_type is.0 (project e l) t d (t_proj (derives is.0 e (record_of fs) d is.2) has)))

  pub fixed_point_reason : (s : Scope) (e : Term) (p : Typ) → IsBlamed s (fix e) d → IsTypeAt s e (arrow p p) d → ⊥
  fixed_point_reason s e p blamed is = blamed.untyped (p, (is.0, is.1, has_type is.0 (fix e) p d (t_fix (derives is.0 e (arrow p p) d is.2))))

  -- the terms of a record have types, and so has the record if its labels are distinct

  abbrev FieldsOf : Context → TermFields → Type 0
  FieldsOf g es = (fs : Fields) × FieldsDerive g es fs d × AreWellFormed fs × ((l : Label) → IsNoLabelOf l es → IsAbsent l fs)

  fields_of : (s : Scope) (g : Context) (es : TermFields) → IsLowest s g d → AreFieldsTyped s es d → DifferInLabels es → FieldsOf g es
  fields_of s g no_terms low typed differ = (no_fields, none_derive low.wf, tt, λ l none. tt)
  fields_of s g (term_field k e es) low typed differ =
      let here = typed_in s g e d low typed.0 in
      let rest = fields_of s g es low typed.1 differ.1 in
      (field k here.0 rest.0, more_derive here.1 rest.1, ((derives_wf g e here.0 d here.1).1, rest.3 k differ.0, rest.2), λ l none. (none.0, rest.3 l none.1))

  pub record_reason : (s : Scope) (es : TermFields) → IsWellFormedScope s → DifferInLabels es → IsBlamed s (record_term es) d → ⊥
  record_reason s es ws differ blamed =
      let g = lowest_exists d s ws in
      let fs = fields_of s g.0 es g.1 blamed.parts differ in
      blamed.untyped (typed_at s g.0 (record_term es) (record_of fs.0) d g.1 (t_rcd fs.1 fs.2))
