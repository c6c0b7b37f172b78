-- What the last rule but T-Sub says of each form of term, where the term has a type.
use Rattle.std.proofs.Common.{◌≡◌, ℕ, List, ◌∷◌, Some, None, refl}
use Rattle.lam_rules.specs.Types.{Label, Typ, bool, nat, unit, arrow, record_of, Fields, no_fields, field, Has, AreWellFormed}
use Rattle.lam_rules.specs.Terms.{Term, true_term, false_term, if_then_else, numeral, succ, pred, is_zero, variable, free, lambda, apply, unit_term, ascribe, let_in, record_term, project, fix, TermFields, no_terms, term_field}
use Rattle.lam_rules.specs.Subtyping.{IsBelow}
use Rattle.lam_rules.specs.Typing.{Context, IsEntry}
use Rattle.lam_rules.specs.declared.rules.Dialect.{Dialect}
use Rattle.lam_rules.proofs.Composing.{below_refl, below_trans}
use Rattle.lam_typing.proofs.Derivations.{Derives, FieldsDerive, t_true, t_false, t_if, t_num, t_succ, t_pred, t_is_zero, t_var, t_abs, t_app, t_unit, t_ascribe, t_let, t_rcd, t_proj, t_fix, t_sub, none_derive, more_derive, derives_wf}

-- each step of T-Sub goes up

pub of_true : (g : Context) (t : Typ) (d : Dialect) → Derives g true_term t d → IsBelow bool t d
of_true g _ d (t_true wf) = below_refl bool d tt
of_true g t d (t_sub {s = s} x below) = below_trans bool s t d (of_true g s d x) below

pub of_false : (g : Context) (t : Typ) (d : Dialect) → Derives g false_term t d → IsBelow bool t d
of_false g _ d (t_false wf) = below_refl bool d tt
of_false g t d (t_sub {s = s} x below) = below_trans bool s t d (of_false g s d x) below

pub of_unit : (g : Context) (t : Typ) (d : Dialect) → Derives g unit_term t d → IsBelow unit t d
of_unit g _ d (t_unit wf) = below_refl unit d tt
of_unit g t d (t_sub {s = s} x below) = below_trans unit s t d (of_unit g s d x) below

pub of_num : (g : Context) (digits : List ℕ) (t : Typ) (d : Dialect) → Derives g (numeral digits) t d → IsBelow nat t d
of_num g digits _ d (t_num wf) = below_refl nat d tt
of_num g digits t d (t_sub {s = s} x below) = below_trans nat s t d (of_num g digits s d x) below

pub of_free : (g : Context) (name : List ℕ) (t : Typ) (d : Dialect) → Derives g (free name) t d → ⊥
of_free g name t d (t_sub {s = s} x below) = of_free g name s d x

pub of_succ : (g : Context) (e : Term) (t : Typ) (d : Dialect) → Derives g (succ e) t d → Derives g e nat d × IsBelow nat t d
of_succ g e _ d (t_succ x) = (x, below_refl nat d tt)
of_succ g e t d (t_sub {s = s} x below) = let h = of_succ g e s d x in (h.0, below_trans nat s t d h.1 below)

pub of_pred : (g : Context) (e : Term) (t : Typ) (d : Dialect) → Derives g (pred e) t d → Derives g e nat d × IsBelow nat t d
of_pred g e _ d (t_pred x) = (x, below_refl nat d tt)
of_pred g e t d (t_sub {s = s} x below) = let h = of_pred g e s d x in (h.0, below_trans nat s t d h.1 below)

pub of_is_zero : (g : Context) (e : Term) (t : Typ) (d : Dialect) → Derives g (is_zero e) t d → Derives g e nat d × IsBelow bool t d
of_is_zero g e _ d (t_is_zero x) = (x, below_refl bool d tt)
of_is_zero g e t d (t_sub {s = s} x below) = let h = of_is_zero g e s d x in (h.0, below_trans bool s t d h.1 below)

pub record OfIf (g : Context) (c a b : Term) (t : Typ) (d : Dialect) : Type 0 where
  pub condition : Derives g c bool d
  pub then_term : Derives g a t d
  pub else_term : Derives g b t d

pub of_if : (g : Context) (c a b : Term) (t : Typ) (d : Dialect) → Derives g (if_then_else c a b) t d → OfIf g c a b t d
of_if g c a b t d (t_if x y z) = record { condition = x; then_term = y; else_term = z }
of_if g c a b t d (t_sub {s = s} x below) =
    let h = of_if g c a b s d x in
    record { condition = h.condition; then_term = t_sub h.then_term below; else_term = t_sub h.else_term below }

pub record OfVariable (g : Context) (n : ℕ) (t : Typ) (d : Dialect) : Type 0 where
  pub entry : Typ
  pub is_entry : IsEntry n g entry
  pub below : IsBelow entry t d

pub of_variable : (g : Context) (n : ℕ) (t : Typ) (d : Dialect) → Derives g (variable n) t d → OfVariable g n t d
of_variable g n t d (t_var wf is) = record { entry = t; is_entry = is; below = below_refl t d (derives_wf g (variable n) t d (t_var wf is)).1 }
of_variable g n t d (t_sub {s = s} x below) =
    let h = of_variable g n s d x in
    record { entry = h.entry; is_entry = h.is_entry; below = below_trans h.entry s t d h.below below }

pub record OfLambda (g : Context) (w : Typ) (e : Term) (t : Typ) (d : Dialect) : Type 0 where
  pub outcome : Typ
  pub body : Derives (Some w ∷ g) e outcome d
  pub below : IsBelow (arrow w outcome) t d

pub of_lambda : (g : Context) (w : Typ) (e : Term) (t : Typ) (d : Dialect) → Derives g (lambda (Some w) e) t d → OfLambda g w e t d
of_lambda g w e _ d (t_abs {t = u} x) = record { outcome = u; body = x; below = below_refl (arrow w u) d (derives_wf g (lambda (Some w) e) (arrow w u) d (t_abs x)).1 }
of_lambda g w e t d (t_sub {s = s} x below) =
    let h = of_lambda g w e s d x in
    record { outcome = h.outcome; body = h.body; below = below_trans (arrow w h.outcome) s t d h.below below }

pub of_faulty_lambda : (g : Context) (e : Term) (t : Typ) (d : Dialect) → Derives g (lambda None e) t d → ⊥
of_faulty_lambda g e t d (t_sub {s = s} x below) = of_faulty_lambda g e s d x

pub record OfApply (g : Context) (f a : Term) (t : Typ) (d : Dialect) : Type 0 where
  pub parameter : Typ
  pub outcome : Typ
  pub function : Derives g f (arrow parameter outcome) d
  pub argument : Derives g a parameter d
  pub below : IsBelow outcome t d

pub of_apply : (g : Context) (f a : Term) (t : Typ) (d : Dialect) → Derives g (apply f a) t d → OfApply g f a t d
of_apply g f a t d (t_app {s = s} x y) =
    record { parameter = s; outcome = t; function = x; argument = y; below = below_refl t d (derives_wf g (apply f a) t d (t_app x y)).1 }
of_apply g f a t d (t_sub {s = s} x below) =
    let h = of_apply g f a s d x in
    record { parameter = h.parameter; outcome = h.outcome; function = h.function; argument = h.argument; below = below_trans h.outcome s t d h.below below }

pub of_ascribe : (g : Context) (e : Term) (w : Typ) (t : Typ) (d : Dialect) → Derives g (ascribe e (Some w)) t d → Derives g e w d × IsBelow w t d
of_ascribe g e w _ d (t_ascribe x) = (x, below_refl w d (derives_wf g e w d x).1)
of_ascribe g e w t d (t_sub {s = s} x below) = let h = of_ascribe g e w s d x in (h.0, below_trans w s t d h.1 below)

pub of_faulty_ascribe : (g : Context) (e : Term) (t : Typ) (d : Dialect) → Derives g (ascribe e None) t d → ⊥
of_faulty_ascribe g e t d (t_sub {s = s} x below) = of_faulty_ascribe g e s d x

pub record OfLet (g : Context) (a b : Term) (t : Typ) (d : Dialect) : Type 0 where
  pub type_of_bound : Typ
  pub bound : Derives g a type_of_bound d
  pub body : Derives (Some type_of_bound ∷ g) b t d

pub of_let : (g : Context) (a b : Term) (t : Typ) (d : Dialect) → Derives g (let_in a b) t d → OfLet g a b t d
of_let g a b t d (t_let {s = s} x y) = record { type_of_bound = s; bound = x; body = y }
of_let g a b t d (t_sub {s = s} x below) =
    let h = of_let g a b s d x in
    record { type_of_bound = h.type_of_bound; bound = h.bound; body = t_sub h.body below }

pub record OfRecord (g : Context) (es : TermFields) (t : Typ) (d : Dialect) : Type 0 where
  pub fields : Fields
  pub derive : FieldsDerive g es fields d
  pub wf : AreWellFormed fields
  pub below : IsBelow (record_of fields) t d

pub of_record : (g : Context) (es : TermFields) (t : Typ) (d : Dialect) → Derives g (record_term es) t d → OfRecord g es t d
of_record g es _ d (t_rcd {ts = ts} xs wf) = record { fields = ts; derive = xs; wf = wf; below = below_refl (record_of ts) d wf }
of_record g es t d (t_sub {s = s} x below) =
    let h = of_record g es s d x in
    record { fields = h.fields; derive = h.derive; wf = h.wf; below = below_trans (record_of h.fields) s t d h.below below }

pub record OfProject (g : Context) (e : Term) (l : Label) (t : Typ) (d : Dialect) : Type 0 where
  pub fields : Fields
  pub type_of_field : Typ
  pub operand : Derives g e (record_of fields) d
  pub has : Has l type_of_field fields
  pub below : IsBelow type_of_field t d

pub of_project : (g : Context) (e : Term) (l : Label) (t : Typ) (d : Dialect) → Derives g (project e l) t d → OfProject g e l t d
of_project g e l t d (t_proj {ts = ts} x has) =
    record { fields = ts; type_of_field = t; operand = x; has = has; below = below_refl t d (derives_wf g (project e l) t d (t_proj x has)).1 }
of_project g e l t d (t_sub {s = s} x below) =
    let h = of_project g e l s d x in
    record { fields = h.fields; type_of_field = h.type_of_field; operand = h.operand; has = h.has; below = below_trans h.type_of_field s t d h.below below }

pub record OfFix (g : Context) (e : Term) (t : Typ) (d : Dialect) : Type 0 where
  pub fixed : Typ
  pub operand : Derives g e (arrow fixed fixed) d
  pub below : IsBelow fixed t d

pub of_fix : (g : Context) (e : Term) (t : Typ) (d : Dialect) → Derives g (fix e) t d → OfFix g e t d
of_fix g e t d (t_fix x) = record { fixed = t; operand = x; below = below_refl t d (derives_wf g (fix e) t d (t_fix x)).1 }
of_fix g e t d (t_sub {s = s} x below) =
    let h = of_fix g e s d x in
    record { fixed = h.fixed; operand = h.operand; below = below_trans h.fixed s t d h.below below }

-- fields

pub of_more : (g : Context) (l : Label) (e : Term) (es : TermFields) (fs : Fields) (d : Dialect) → FieldsDerive g (term_field l e es) fs d
    → (t : Typ) × (rest : Fields) × (fs ≡ field l t rest) × Derives g e t d × FieldsDerive g es rest d
of_more g l e es _ d (more_derive {t = t} {ts = ts} x xs) = (t, ts, refl, x, xs)

pub of_no_more : (g : Context) (fs : Fields) (d : Dialect) → FieldsDerive g no_terms fs d → fs ≡ no_fields
of_no_more g _ d (none_derive wf) = refl
