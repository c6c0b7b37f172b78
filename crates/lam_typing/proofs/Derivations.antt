-- Typing as a family of derivations, a rule for each constructor, and the law between it and the trees that the checker accepts.
use Rattle.std.proofs.Common.{ℕ, List, [], ◌∷◌, Option, Some, None, zero, suc, ap, sym, ◌∙◌, refl, subst}
use Rattle.lam_rules.specs.Types.{Label, Typ, bool, nat, unit, top, arrow, record_of, Fields, no_fields, field, Has, IsWellFormed, AreWellFormed}
use Rattle.lam_rules.specs.Terms.{Term, true_term, false_term, if_then_else, numeral, succ, pred, is_zero, variable, lambda, apply, unit_term, ascribe, let_in, record_term, project, fix, TermFields, no_terms, term_field}
use Rattle.lam_rules.specs.Subtyping.{SubTree, ProvesBelow, IsBelow}
use Rattle.lam_rules.specs.Typing.{Context, IsEntry, IsWellFormedEntry, IsWellFormedContext, HasField, TypingTree, typing_step, TypingTrees, no_typings, typing_first, type_in, IsTyping, ByTypeRule, HasType}
use Rattle.lam_rules.specs.declared.rules.Dialect.{Dialect}
use Rattle.lam_rules.specs.declared.rules.TypeRule.{TypeRule}
use Rattle.lam_rules.proofs.ByShape.{below_wf}
use Rattle.lam_rules.proofs.SharedTexts.{has_wf}

-- The rules. That a context has distinct labels is required where a rule has no premise, and the same of a record's labels at T-Rcd; elsewhere it follows.
mutual
  pub data Derives : Context → Term → Typ → Dialect → Type 0 where
    t_true : {g : Context} {d : Dialect} → IsWellFormedContext g → Derives g true_term bool d
    t_false : {g : Context} {d : Dialect} → IsWellFormedContext g → Derives g false_term bool d
    t_if : {g : Context} {d : Dialect} {c a b : Term} {t : Typ} → Derives g c bool d → Derives g a t d → Derives g b t d → Derives g (if_then_else c a b) t d
    t_num : {g : Context} {d : Dialect} {digits : List ℕ} → IsWellFormedContext g → Derives g (numeral digits) nat d
    t_succ : {g : Context} {d : Dialect} {e : Term} → Derives g e nat d → Derives g (succ e) nat d
    t_pred : {g : Context} {d : Dialect} {e : Term} → Derives g e nat d → Derives g (pred e) nat d
    t_is_zero : {g : Context} {d : Dialect} {e : Term} → Derives g e nat d → Derives g (is_zero e) bool d
    t_var : {g : Context} {d : Dialect} {n : ℕ} {t : Typ} → IsWellFormedContext g → IsEntry n g t → Derives g (variable n) t d
    t_abs : {g : Context} {d : Dialect} {s t : Typ} {e : Term} → Derives (Some s ∷ g) e t d → Derives g (lambda (Some s) e) (arrow s t) d
    t_app : {g : Context} {d : Dialect} {s t : Typ} {f a : Term} → Derives g f (arrow s t) d → Derives g a s d → Derives g (apply f a) t d
    t_unit : {g : Context} {d : Dialect} → IsWellFormedContext g → Derives g unit_term unit d
    t_ascribe : {g : Context} {d : Dialect} {t : Typ} {e : Term} → Derives g e t d → Derives g (ascribe e (Some t)) t d
    t_let : {g : Context} {d : Dialect} {s t : Typ} {a b : Term} → Derives g a s d → Derives (Some s ∷ g) b t d → Derives g (let_in a b) t d
    t_rcd : {g : Context} {d : Dialect} {es : TermFields} {ts : Fields} → FieldsDerive g es ts d → AreWellFormed ts → Derives g (record_term es) (record_of ts) d
    t_proj : {g : Context} {d : Dialect} {e : Term} {ts : Fields} {l : Label} {t : Typ} → Derives g e (record_of ts) d → Has l t ts → Derives g (project e l) t d
    t_fix : {g : Context} {d : Dialect} {e : Term} {t : Typ} → Derives g e (arrow t t) d → Derives g (fix e) t d
    t_sub : {g : Context} {d : Dialect} {e : Term} {s t : Typ} → Derives g e s d → IsBelow s t d → Derives g e t d

  -- each term has the type of its label
  pub data FieldsDerive : Context → TermFields → Fields → Dialect → Type 0 where
    none_derive : {g : Context} {d : Dialect} → IsWellFormedContext g → FieldsDerive g no_terms no_fields d
    more_derive : {g : Context} {d : Dialect} {l : Label} {e : Term} {es : TermFields} {t : Typ} {ts : Fields} → Derives g e t d → FieldsDerive g es ts d → FieldsDerive g (term_field l e es) (field l t ts) d

-- what follows of the context and of the type

pub entry_wf : (n : ℕ) (g : Context) (t : Typ) → IsWellFormedContext g → IsEntry n g t → IsWellFormed t
entry_wf n [] t wf is = absurd is
entry_wf zero (entry ∷ g) t wf is = subst IsWellFormedEntry is wf.0
entry_wf (suc n) (entry ∷ g) t wf is = entry_wf n g t wf.1 is

mutual
  pub derives_wf : (g : Context) (e : Term) (t : Typ) (d : Dialect) → Derives g e t d → IsWellFormedContext g × IsWellFormed t
  derives_wf g _ _ d (t_true wf) = (wf, tt)
  derives_wf g _ _ d (t_false wf) = (wf, tt)
  derives_wf g _ t d (t_if {a = a} x y z) = derives_wf g a t d y
  derives_wf g _ _ d (t_num wf) = (wf, tt)
  derives_wf g _ _ d (t_succ {e = e} x) = derives_wf g e nat d x
  derives_wf g _ _ d (t_pred {e = e} x) = derives_wf g e nat d x
  derives_wf g _ _ d (t_is_zero {e = e} x) = ((derives_wf g e nat d x).0, tt)
  derives_wf g _ t d (t_var {n = n} wf is) = (wf, entry_wf n g t wf is)
  derives_wf g _ _ d (t_abs {s = s} {t = t} {e = e} x) = let w = derives_wf (Some s ∷ g) e t d x in (w.0.1, (w.0.0, w.1))
  derives_wf g _ t d (t_app {s = s} {f = f} x y) = let w = derives_wf g f (arrow s t) d x in (w.0, w.1.1)
  derives_wf g _ _ d (t_unit wf) = (wf, tt)
  derives_wf g _ t d (t_ascribe {e = e} x) = derives_wf g e t d x
  derives_wf g _ t d (t_let {s = s} {b = b} x y) = let w = derives_wf (Some s ∷ g) b t d y in (w.0.1, w.1)
  derives_wf g _ _ d (t_rcd {es = es} {ts = ts} x wf) = (fields_wf g es ts d x, wf)
  derives_wf g _ t d (t_proj {e = e} {ts = ts} {l = l} x has) = let w = derives_wf g e (record_of ts) d x in (w.0, has_wf ts w.1 l t has)
  derives_wf g _ t d (t_fix {e = e} x) = let w = derives_wf g e (arrow t t) d x in (w.0, w.1.0)
  derives_wf g _ t d (t_sub {e = e} {s = s} x below) = ((derives_wf g e s d x).0, (below_wf s t d below).1)

  fields_wf : (g : Context) (es : TermFields) (ts : Fields) (d : Dialect) → FieldsDerive g es ts d → IsWellFormedContext g
  fields_wf g _ _ d (none_derive wf) = wf
  fields_wf g _ _ d (more_derive {e = e} {t = t} x xs) = (derives_wf g e t d x).0

-- from trees

field_of_record : (t : Typ) (l : Label) (u : Typ) (g : Context) (e : Term) (d : Dialect) → Derives g e t d → HasField t l u → Derives g (project e l) u d
field_of_record (record_of fs) l u g e d x has = t_proj x has
field_of_record bool l u g e d x has = absurd has
field_of_record nat l u g e d x has = absurd has
field_of_record unit l u g e d x has = absurd has
field_of_record top l u g e d x has = absurd has
field_of_record (arrow a b) l u g e d x has = absurd has

rcd_derives : (es : TermFields) (t : Typ) (ps : TypingTrees) (g : Context) (d : Dialect)
    → ((fs : TermFields) (ts : Fields) → ByTypeRule TypeRule.Rcd None g (record_term fs) (record_of ts) ps d → FieldsDerive g fs ts d)
    → IsWellFormed t → ByTypeRule TypeRule.Rcd None g (record_term es) t ps d → Derives g (record_term es) t d
rcd_derives es (record_of ts) ps g d fields wt h = t_rcd (fields es ts h) wt
rcd_derives no_terms _ ps g d fields wt h = absurd h
rcd_derives (term_field k e es) _ ps g d fields wt h = absurd h

mutual
  pub tree_derives : (p : TypingTree) (g : Context) (e : Term) (d : Dialect) → IsTyping g e p d → Derives g e (type_in p) d
  tree_derives (typing_step r t ps s) g e d h = rule_derives r s g e t ps d (λ es ts by. trees_derive ps g es ts d h.0 by) h.0 h.1 h.2

  rule_derives : (r : TypeRule) (s : Option SubTree) (g : Context) (e : Term) (t : Typ) (ps : TypingTrees) (d : Dialect)
      → ((es : TermFields) (ts : Fields) → ByTypeRule TypeRule.Rcd None g (record_term es) (record_of ts) ps d → FieldsDerive g es ts d)
      → IsWellFormedContext g → IsWellFormed t → ByTypeRule r s g e t ps d → Derives g e t d
  rule_derives TypeRule.True None g true_term t no_typings d fields wg wt h = rw h (t_true wg)
  rule_derives TypeRule.False None g false_term t no_typings d fields wg wt h = rw h (t_false wg)
  rule_derives TypeRule.If None g (if_then_else e1 e2 e3) t (typing_first p1 (typing_first p2 (typing_first p3 no_typings))) d fields wg wt h =
      t_if (subst (λ x. Derives g e1 x d) h.1 (tree_derives p1 g e1 d h.0)) (subst (λ x. Derives g e2 x d) h.3 (tree_derives p2 g e2 d h.2)) (subst (λ x. Derives g e3 x d) h.5 (tree_derives p3 g e3 d h.4))
  rule_derives TypeRule.Num None g (numeral digits) t no_typings d fields wg wt h = rw h (t_num wg)
  rule_derives TypeRule.Succ None g (succ e1) t (typing_first p1 no_typings) d fields wg wt h = rw h.2 (t_succ (subst (λ x. Derives g e1 x d) h.1 (tree_derives p1 g e1 d h.0)))
  rule_derives TypeRule.Pred None g (pred e1) t (typing_first p1 no_typings) d fields wg wt h = rw h.2 (t_pred (subst (λ x. Derives g e1 x d) h.1 (tree_derives p1 g e1 d h.0)))
  rule_derives TypeRule.IsZero None g (is_zero e1) t (typing_first p1 no_typings) d fields wg wt h = rw h.2 (t_is_zero (subst (λ x. Derives g e1 x d) h.1 (tree_derives p1 g e1 d h.0)))
  rule_derives TypeRule.Var None g (variable n) t no_typings d fields wg wt h = t_var wg h
  rule_derives TypeRule.Abs None g (lambda (Some t1) e2) t (typing_first p2 no_typings) d fields wg wt h = rw h.1 (t_abs (tree_derives p2 (Some t1 ∷ g) e2 d h.0))
  rule_derives TypeRule.App None g (apply e1 e2) t (typing_first p1 (typing_first p2 no_typings)) d fields wg wt h =
      t_app (subst (λ x. Derives g e1 x d) h.2 (tree_derives p1 g e1 d h.0)) (tree_derives p2 g e2 d h.1)
  rule_derives TypeRule.Unit None g unit_term t no_typings d fields wg wt h = rw h (t_unit wg)
  rule_derives TypeRule.Ascribe None g (ascribe e1 (Some u)) t (typing_first p1 no_typings) d fields wg wt h =
      rw h.2 (t_ascribe (subst (λ x. Derives g e1 x d) h.1 (tree_derives p1 g e1 d h.0)))
  rule_derives TypeRule.Let None g (let_in e1 e2) t (typing_first p1 (typing_first p2 no_typings)) d fields wg wt h =
      t_let (tree_derives p1 g e1 d h.0) (subst (λ x. Derives (Some (type_in p1) ∷ g) e2 x d) h.2 (tree_derives p2 (Some (type_in p1) ∷ g) e2 d h.1))
  rule_derives TypeRule.Rcd None g (record_term es) t ps d fields wg wt h = rcd_derives es t ps g d fields wt h
  rule_derives TypeRule.Proj None g (project e1 l) t (typing_first p1 no_typings) d fields wg wt h = field_of_record (type_in p1) l t g e1 d (tree_derives p1 g e1 d h.0) h.1
  rule_derives TypeRule.Fix None g (fix e1) t (typing_first p1 no_typings) d fields wg wt h = t_fix (subst (λ x. Derives g e1 x d) h.1 (tree_derives p1 g e1 d h.0))
  rule_derives TypeRule.Sub (Some q) g e t (typing_first p1 no_typings) d fields wg wt h = t_sub (tree_derives p1 g e d h.0) (q, h.1)
  rule_derives _ _ _ _ _ _ _ fields wg wt h = absurd h

  trees_derive : (ps : TypingTrees) (g : Context) (es : TermFields) (ts : Fields) (d : Dialect)
      → IsWellFormedContext g → ByTypeRule TypeRule.Rcd None g (record_term es) (record_of ts) ps d → FieldsDerive g es ts d
  trees_derive no_typings g no_terms no_fields d wg h = none_derive wg
  trees_derive (typing_first p1 ps) g (term_field k e1 es) (field l t1 ts) d wg h =
      subst (λ x. FieldsDerive g (term_field k e1 es) (field x t1 ts) d) h.0
      (more_derive (subst (λ x. Derives g e1 x d) h.2 (tree_derives p1 g e1 d h.1)) (trees_derive ps g es ts d wg h.3))
  trees_derive no_typings g (term_field k e1 es) no_fields d wg h = absurd h
  trees_derive no_typings g (term_field k e1 es) (field l t1 ts) d wg h = absurd h
  trees_derive no_typings g no_terms (field l t1 ts) d wg h = absurd h
  trees_derive (typing_first p1 ps) g no_terms no_fields d wg h = absurd h
  trees_derive (typing_first p1 ps) g no_terms (field l t1 ts) d wg h = absurd h
  trees_derive (typing_first p1 ps) g (term_field k e1 es) no_fields d wg h = absurd h

pub derives : (g : Context) (e : Term) (t : Typ) (d : Dialect) → HasType g e t d → Derives g e t d
derives g e t d (p, proves) = subst (λ x. Derives g e x d) proves.1 (tree_derives p g e d proves.0)

-- to trees

typing_by : (r : TypeRule) (ps : TypingTrees) (s : Option SubTree) (g : Context) (e : Term) (t : Typ) (d : Dialect)
    → IsWellFormedContext g → IsWellFormed t → ByTypeRule r s g e t ps d → HasType g e t d
typing_by r ps s g e t d wg wt by = (typing_step r t ps s, ((wg, wt, by), refl))

mutual
  pub has_type : (g : Context) (e : Term) (t : Typ) (d : Dialect) → Derives g e t d → HasType g e t d
  has_type g _ _ d (t_true wf) = typing_by TypeRule.True no_typings None g true_term bool d wf tt refl
  has_type g _ _ d (t_false wf) = typing_by TypeRule.False no_typings None g false_term bool d wf tt refl
  has_type g _ t d (t_if {c = c} {a = a} {b = b} x y z) =
      let w = derives_wf g a t d y in
      let p = has_type g c bool d x in
      let q = has_type g a t d y in
      let r = has_type g b t d z in
      typing_by TypeRule.If (typing_first p.0 (typing_first q.0 (typing_first r.0 no_typings))) None g (if_then_else c a b) t d w.0 w.1 (p.1.0, p.1.1, q.1.0, q.1.1, r.1.0, r.1.1)
  has_type g _ _ d (t_num {digits = digits} wf) = typing_by TypeRule.Num no_typings None g (numeral digits) nat d wf tt refl
  has_type g _ _ d (t_succ {e = e} x) =
      let p = has_type g e nat d x in
      typing_by TypeRule.Succ (typing_first p.0 no_typings) None g (succ e) nat d (derives_wf g e nat d x).0 tt (p.1.0, p.1.1, refl)
  has_type g _ _ d (t_pred {e = e} x) =
      let p = has_type g e nat d x in
      typing_by TypeRule.Pred (typing_first p.0 no_typings) None g (pred e) nat d (derives_wf g e nat d x).0 tt (p.1.0, p.1.1, refl)
  has_type g _ _ d (t_is_zero {e = e} x) =
      let p = has_type g e nat d x in
      typing_by TypeRule.IsZero (typing_first p.0 no_typings) None g (is_zero e) bool d (derives_wf g e nat d x).0 tt (p.1.0, p.1.1, refl)
  has_type g _ t d (t_var {n = n} wf is) = typing_by TypeRule.Var no_typings None g (variable n) t d wf (entry_wf n g t wf is) is
  has_type g _ _ d (t_abs {s = s} {t = t} {e = e} x) =
      let w = derives_wf (Some s ∷ g) e t d x in
      let p = has_type (Some s ∷ g) e t d x in
      typing_by TypeRule.Abs (typing_first p.0 no_typings) None g (lambda (Some s) e) (arrow s t) d w.0.1 (w.0.0, w.1) (p.1.0, ap (λ y. arrow s y) (sym p.1.1))
  has_type g _ t d (t_app {s = s} {f = f} {a = a} x y) =
      let w = derives_wf g f (arrow s t) d x in
      let p = has_type g f (arrow s t) d x in
      let q = has_type g a s d y in
      typing_by TypeRule.App (typing_first p.0 (typing_first q.0 no_typings)) None g (apply f a) t d w.0 w.1.1 (p.1.0, q.1.0, p.1.1 ∙ ap (λ z. arrow z t) (sym q.1.1))
  has_type g _ _ d (t_unit wf) = typing_by TypeRule.Unit no_typings None g unit_term unit d wf tt refl
  has_type g _ t d (t_ascribe {e = e} x) =
      let w = derives_wf g e t d x in
      let p = has_type g e t d x in
      typing_by TypeRule.Ascribe (typing_first p.0 no_typings) None g (ascribe e (Some t)) t d w.0 w.1 (p.1.0, p.1.1, refl)
  has_type g _ t d (t_let {s = s} {a = a} {b = b} x y) =
      let w = derives_wf (Some s ∷ g) b t d y in
      let p = has_type g a s d x in
      let q = has_type (Some s ∷ g) b t d y in
      typing_by TypeRule.Let (typing_first p.0 (typing_first q.0 no_typings)) None g (let_in a b) t d w.0.1 w.1
      (p.1.0, subst (λ z. IsTyping (Some z ∷ g) b q.0 d) (sym p.1.1) q.1.0, q.1.1)
  has_type g _ _ d (t_rcd {es = es} {ts = ts} x wf) =
      let ps = have_types g es ts d x in
      typing_by TypeRule.Rcd ps.0 None g (record_term es) (record_of ts) d (fields_wf g es ts d x) wf ps.1
  has_type g _ t d (t_proj {e = e} {ts = ts} {l = l} x has) =
      let w = derives_wf g e (record_of ts) d x in
      let p = has_type g e (record_of ts) d x in
      typing_by TypeRule.Proj (typing_first p.0 no_typings) None g (project e l) t d w.0 (has_wf ts w.1 l t has) (p.1.0, subst (λ z. HasField z l t) (sym p.1.1) has)
  has_type g _ t d (t_fix {e = e} x) =
      let w = derives_wf g e (arrow t t) d x in
      let p = has_type g e (arrow t t) d x in
      typing_by TypeRule.Fix (typing_first p.0 no_typings) None g (fix e) t d w.0 w.1.0 (p.1.0, p.1.1)
  has_type g _ t d (t_sub {e = e} {s = s} x below) =
      let p = has_type g e s d x in
      typing_by TypeRule.Sub (typing_first p.0 no_typings) (Some below.0) g e t d (derives_wf g e s d x).0 (below_wf s t d below).1
      (p.1.0, subst (λ z. ProvesBelow below.0 z t d) (sym p.1.1) below.1)

  have_types : (g : Context) (es : TermFields) (ts : Fields) (d : Dialect) → FieldsDerive g es ts d
      → (ps : TypingTrees) × ByTypeRule TypeRule.Rcd None g (record_term es) (record_of ts) ps d
  have_types g _ _ d (none_derive wf) = (no_typings, tt)
  have_types g _ _ d (more_derive {e = e} {es = es} {t = t} {ts = ts} x xs) =
      let p = has_type g e t d x in
      let ps = have_types g es ts d xs in
      (typing_first p.0 ps.0, (refl, p.1.0, p.1.1, ps.1))
