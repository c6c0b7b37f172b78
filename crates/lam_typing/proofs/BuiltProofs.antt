-- Form by form: from the proofs of the parts of a term to one of the type that was found for it, and why none is missing.
use Rattle.std.proofs.Common.{◌≡◌, ℕ, ◌+◌, ◌<◌, ◌≤◌, List, ◌∷◌, length, get_or, Option, Some, None, ap, refl, sym, subst, ◌∙◌, arith}
use Rattle.lam_rules.specs.Types.{Label, Typ, bool, nat, arrow, record_of, Fields, no_fields, field, Has, IsAbsent, IsWellFormed}
use Rattle.lam_rules.specs.Terms.{Term, true_term, false_term, if_then_else, numeral, succ, pred, is_zero, variable, free, lambda, apply, unit_term, ascribe, let_in, record_term, project, fix, TermFields, no_terms, term_field}
use Rattle.lam_rules.specs.Subtyping.{IsBelow}
use Rattle.lam_rules.specs.Typing.{Context, HasField, TypingTree, typing_step, TypingTrees, no_typings, typing_first, type_in, IsTyping, ByTypeRule, ProvesTyping, HasType}
use Rattle.lam_rules.specs.declared.rules.Dialect.{Dialect}
use Rattle.lam_rules.specs.declared.rules.TypeRule.{TypeRule}
use Rattle.lam_rules.proofs.Composing.{below_refl, below_trans, below_arrow}
use Rattle.lam_sub.proofs.Below.{arrow_inside, below_arrow_is, below_record_is}
use Rattle.lam_scope.specs.Places.{written, of_term, Scope, Place}
use Rattle.lam_scope.specs.Sights.{inside, inside_fields, place_of_term, behind_term}
use Rattle.lam_typing.specs.LeastTypes.{IsLeastAt}
use Rattle.lam_typing.specs.Progress.{IsLowest}
use Rattle.lam_typing.specs.inner.Steps.{entry_at, LetRule, MoreRule}
use Rattle.lam_typing.specs.inner.Seeing.{note_among, Sees}
use Rattle.lam_typing.specs.inner.Grounds.{found_in, noted_in, dialect_in}
use Rattle.lam_typing.specs.inner.Proving.{IsSetting, ProvesFound, IsProvenTerm, ProvesThis, IsProvenForm, IsProvenAs, IsWidened, IsLeafBy, IsNatBy, FieldTrees, AreProvenFields}
use Rattle.lam_typing.specs.declared.grounds.Grounds.{Grounds}
use Rattle.lam_typing.proofs.Derivations.{Derives, t_fix, t_sub, derives, has_type, derives_wf, entry_wf}
use Rattle.lam_typing.proofs.Forms.{fields_least}
use Rattle.lam_typing.proofs.LeastIn.{LeastIn, lowest_written, lowest_some, lowest_none, least_in}
use Rattle.lam_typing.proofs.LeastSteps.{entry_is, is_entry_at, lambda_least, apply_least, let_least, project_least, record_least, wf_each}
use Rattle.lam_typing.proofs.Inversions.{of_true, of_false, of_unit, of_num, of_free, of_succ, of_pred, of_is_zero, of_if, of_variable, of_lambda, of_faulty_lambda, of_apply, of_ascribe, of_faulty_ascribe, of_let, of_record, of_project, of_fix}
use Rattle.lam_typing.proofs.Sighted.{own_least}

-- what is known of a term, and of a part of it

whole : (t : Grounds) (all : List Place) (k : ℕ) (s : Scope) (g : Context) (e : Term) (place : ℕ) (type : Typ) → IsSetting t all s g → Sees all (found_in t) (noted_in t) k s g e
    → place ≡ place_of_term k e → place < length (found_in t) → get_or (found_in t) place None ≡ Some type → LeastIn g e (Some type) (dialect_in t)
whole t all k s g e place type setting sees at lt is =
    let here : place_of_term k e < length (found_in t) = omega (arith, at, lt) in
    let least = own_least all (found_in t) (noted_in t) (dialect_in t) k s g e setting.least sees here in
    subst (λ o. LeastIn g e o (dialect_in t)) (ap (λ n. get_or (found_in t) n None) (sym at) ∙ is) (least_in s g e (get_or (found_in t) (place_of_term k e) None) (dialect_in t) setting.low least)

record Part (o : Option TypingTree) (g : Context) (e : Term) (d : Dialect) : Type 0 where
  found : Option Typ
  least : LeastIn g e found d
  proves : ProvesFound o found g e d

part : (t : Grounds) (all : List Place) (k : ℕ) (s : Scope) (g : Context) (e : Term) (behind : ℕ) (o : Option TypingTree) → IsSetting t all s g → Sees all (found_in t) (noted_in t) k s g e
    → behind ≡ behind_term k e → behind ≤ length (found_in t) → IsProvenTerm t e behind o → Part o g e (dialect_in t)
part t all k s g e behind o setting sees at le proven = record {
  found = get_or (found_in t) (place_of_term k e) None;
  least = least_in s g e (get_or (found_in t) (place_of_term k e) None) (dialect_in t) setting.low (own_least all (found_in t) (noted_in t) (dialect_in t) k s g e setting.least sees (omega (arith, at, le)));
  proves = proven all k s g setting sees at le;
}

proven_by : (found : Option Typ) (p : TypingTree) (g : Context) (e : Term) (d : Dialect) → LeastIn g e found d → ProvesFound (Some p) found g e d → IsTyping g e p d × LeastIn g e (Some (type_in p)) d × (found ≡ Some (type_in p))
proven_by (Some t) p g e d least proves = (proves.0, subst (λ u. LeastIn g e (Some u) d) (sym proves.1) least, ap Some (sym proves.1))
proven_by None p g e d least proves = absurd proves

proven : (p : TypingTree) (g : Context) (e : Term) (d : Dialect) → Part (Some p) g e d → IsTyping g e p d × LeastIn g e (Some (type_in p)) d
proven p g e d h = let b = proven_by h.found p g e d h.least h.proves in (b.0, b.1)

unfound_by : (found : Option Typ) (g : Context) (e : Term) (d : Dialect) (u : Typ) → LeastIn g e found d → ProvesFound None found g e d → Derives g e u d → ⊥
unfound_by (Some t) g e d u least proves x = absurd proves
unfound_by None g e d u least proves x = least u x

unfound : (g : Context) (e : Term) (d : Dialect) (u : Typ) → Part None g e d → Derives g e u d → ⊥
unfound g e d u h x = unfound_by h.found g e d u h.least h.proves x

widened_to : (node : TypingTree) (t : Typ) (o : Option TypingTree) (g : Context) (e : Term) (d : Dialect) → IsWidened node t o d → IsTyping g e node d → IsBelow (type_in node) t d → ProvesThis o t g e d
widened_to node t (Some q) g e d wide typing below = wide g e typing
widened_to node t None g e d wide typing below = absurd (wide g e typing below)

-- the last step of a proof of the least type of a term
finished : (rule : TypeRule) (u t : Typ) (ps : TypingTrees) (o : Option TypingTree) (g : Context) (e : Term) (d : Dialect)
    → IsWidened (typing_step rule u ps None) t o d → IsWellFormed u → ByTypeRule rule None g e u ps d → LeastIn g e (Some t) d → IsBelow u t d → ProvesThis o t g e d
finished rule u t ps o g e d wide wf by least below =
    widened_to (typing_step rule u ps None) t o g e d wide ((derives_wf g e t d least.0).0, wf, by) below

module _ (t : Grounds) where
  -- constants and numerals

  leaf : (rule : TypeRule) (e : Term) (u type : Typ) (o : Option TypingTree) (g : Context) → IsLeafBy rule e u → LeastIn g e (Some type) (dialect_in t)
      → IsWidened (typing_step rule u no_typings None) type o (dialect_in t) → ProvesThis o type g e (dialect_in t)
  leaf TypeRule.True true_term u type o g is least wide =
      finished TypeRule.True u type no_typings o g true_term (dialect_in t) wide (subst (λ v. IsWellFormed v) (sym is) tt) is least (subst (λ v. IsBelow v type (dialect_in t)) (sym is) (of_true g type (dialect_in t) least.0))
  leaf TypeRule.False false_term u type o g is least wide =
      finished TypeRule.False u type no_typings o g false_term (dialect_in t) wide (subst (λ v. IsWellFormed v) (sym is) tt) is least (subst (λ v. IsBelow v type (dialect_in t)) (sym is) (of_false g type (dialect_in t) least.0))
  leaf TypeRule.Num (numeral digits) u type o g is least wide =
      finished TypeRule.Num u type no_typings o g (numeral digits) (dialect_in t) wide (subst (λ v. IsWellFormed v) (sym is) tt) is least (subst (λ v. IsBelow v type (dialect_in t)) (sym is) (of_num g digits type (dialect_in t) least.0))
  leaf TypeRule.Unit unit_term u type o g is least wide =
      finished TypeRule.Unit u type no_typings o g unit_term (dialect_in t) wide (subst (λ v. IsWellFormed v) (sym is) tt) is least (subst (λ v. IsBelow v type (dialect_in t)) (sym is) (of_unit g type (dialect_in t) least.0))
  leaf _ _ u type o g is least wide = absurd is

  pub leaf_form : (rule : TypeRule) (e : Term) (u type : Typ) (place : ℕ) (o : Option TypingTree) → IsLeafBy rule e u → IsWidened (typing_step rule u no_typings None) type o (dialect_in t) → IsProvenForm t e place type o
  leaf_form rule e u type place o is wide all k s g setting sees at lt found = leaf rule e u type o g is (whole t all k s g e place type setting sees at lt found) wide

  -- a variable

  pub variable_form : (n : ℕ) (place : ℕ) (u type : Typ) (o : Option TypingTree) → (note_among (noted_in t) place).bound ≡ Some u → IsWidened (typing_step TypeRule.Var u no_typings None) type o (dialect_in t)
      → IsProvenForm t (variable n) place type o
  variable_form n place u type o noted wide all k s g setting sees at lt found =
      let least = whole t all k s g (variable n) place type setting sees at lt found in
      let entry : entry_at n g ≡ Some u = sym sees.1 ∙ ap (λ m. (note_among (noted_in t) m).bound) (sym at) ∙ noted in
      let is = entry_is n g u entry in
      let h = of_variable g n type (dialect_in t) least.0 in
      let same : u ≡ h.entry = (let e : Some u ≡ Some h.entry = sym entry ∙ is_entry_at n g h.entry h.is_entry in cc) in
      finished TypeRule.Var u type no_typings o g (variable n) (dialect_in t) wide (entry_wf n g u setting.low.wf is) is least (subst (λ v. IsBelow v type (dialect_in t)) (sym same) h.below)

  pub variable_none : (n : ℕ) (place : ℕ) (type : Typ) → (note_among (noted_in t) place).bound ≡ None → IsProvenForm t (variable n) place type None
  variable_none n place type noted all k s g setting sees at lt found =
      let least = whole t all k s g (variable n) place type setting sees at lt found in
      let entry : entry_at n g ≡ None = sym sees.1 ∙ ap (λ m. (note_among (noted_in t) m).bound) (sym at) ∙ noted in
      let h = of_variable g n type (dialect_in t) least.0 in
      let wrong : Some h.entry ≡ None = sym (is_entry_at n g h.entry h.is_entry) ∙ entry in
      absurd (cc)

  pub free_none : (x : List ℕ) (place : ℕ) (type : Typ) → IsProvenForm t (free x) place type None
  free_none x place type all k s g setting sees at lt found = of_free g x type (dialect_in t) (whole t all k s g (free x) place type setting sees at lt found).0

  -- a type that may be wider

  pub as_wide : (e : Term) (behind : ℕ) (p : TypingTree) (type : Typ) (o : Option TypingTree) → IsProvenTerm t e behind (Some p) → IsWidened p type o (dialect_in t) → IsProvenAs t e behind type o
  as_wide e behind p type (Some q) proves wide all k s g setting sees at le = wide g e (proven p g e (dialect_in t) (part t all k s g e behind (Some p) setting sees at le proves)).0
  as_wide e behind p type None proves wide all k s g setting sees at le = λ has.
      let h = proven p g e (dialect_in t) (part t all k s g e behind (Some p) setting sees at le proves) in
      wide g e h.0 (h.1.1 type (derives g e type (dialect_in t) has))

  pub as_none : (e : Term) (behind : ℕ) (type : Typ) → IsProvenTerm t e behind None → IsProvenAs t e behind type None
  as_none e behind type proves all k s g setting sees at le = λ has.
      unfound g e (dialect_in t) type (part t all k s g e behind None setting sees at le proves) (derives g e type (dialect_in t) has)

  -- T-Succ, T-Pred and T-IsZero

  operand_of : (rule : TypeRule) (e operand : Term) (u : Typ) (all : List Place) (k : ℕ) (s : Scope) (g : Context) → IsNatBy rule e operand u → Sees all (found_in t) (noted_in t) k s g e
      → Sees all (found_in t) (noted_in t) k s g operand × (place_of_term k e ≡ behind_term k operand)
  operand_of TypeRule.Succ (succ e) operand u all k s g is sees = (subst (λ x. Sees all (found_in t) (noted_in t) k s g x) is.0 sees.1, subst (λ x. k + (inside e + 1) ≡ behind_term k x) is.0 (omega arith))
  operand_of TypeRule.Pred (pred e) operand u all k s g is sees = (subst (λ x. Sees all (found_in t) (noted_in t) k s g x) is.0 sees.1, subst (λ x. k + (inside e + 1) ≡ behind_term k x) is.0 (omega arith))
  operand_of TypeRule.IsZero (is_zero e) operand u all k s g is sees = (subst (λ x. Sees all (found_in t) (noted_in t) k s g x) is.0 sees.1, subst (λ x. k + (inside e + 1) ≡ behind_term k x) is.0 (omega arith))
  operand_of _ _ operand u all k s g is sees = absurd is

  number : (rule : TypeRule) (e operand : Term) (u type : Typ) (p : TypingTree) (o : Option TypingTree) (g : Context) → IsNatBy rule e operand u → LeastIn g e (Some type) (dialect_in t) → ProvesTyping p g operand nat (dialect_in t)
      → IsWidened (typing_step rule u (typing_first p no_typings) None) type o (dialect_in t) → ProvesThis o type g e (dialect_in t)
  number TypeRule.Succ (succ e) operand u type p o g is least proves wide =
      finished TypeRule.Succ u type (typing_first p no_typings) o g (succ e) (dialect_in t) wide (subst (λ v. IsWellFormed v) (sym is.1) tt) (subst (λ x. IsTyping g x p (dialect_in t)) (sym is.0) proves.0, proves.1, is.1) least
      (subst (λ v. IsBelow v type (dialect_in t)) (sym is.1) (of_succ g e type (dialect_in t) least.0).1)
  number TypeRule.Pred (pred e) operand u type p o g is least proves wide =
      finished TypeRule.Pred u type (typing_first p no_typings) o g (pred e) (dialect_in t) wide (subst (λ v. IsWellFormed v) (sym is.1) tt) (subst (λ x. IsTyping g x p (dialect_in t)) (sym is.0) proves.0, proves.1, is.1) least
      (subst (λ v. IsBelow v type (dialect_in t)) (sym is.1) (of_pred g e type (dialect_in t) least.0).1)
  number TypeRule.IsZero (is_zero e) operand u type p o g is least proves wide =
      finished TypeRule.IsZero u type (typing_first p no_typings) o g (is_zero e) (dialect_in t) wide (subst (λ v. IsWellFormed v) (sym is.1) tt) (subst (λ x. IsTyping g x p (dialect_in t)) (sym is.0) proves.0, proves.1, is.1) least
      (subst (λ v. IsBelow v type (dialect_in t)) (sym is.1) (of_is_zero g e type (dialect_in t) least.0).1)
  number _ _ operand u type p o g is least proves wide = absurd is

  no_number : (rule : TypeRule) (e operand : Term) (u type : Typ) (g : Context) → IsNatBy rule e operand u → Derives g e type (dialect_in t) → HasType g operand nat (dialect_in t)
  no_number TypeRule.Succ (succ e) operand u type g is x = subst (λ y. HasType g y nat (dialect_in t)) is.0 (has_type g e nat (dialect_in t) (of_succ g e type (dialect_in t) x).0)
  no_number TypeRule.Pred (pred e) operand u type g is x = subst (λ y. HasType g y nat (dialect_in t)) is.0 (has_type g e nat (dialect_in t) (of_pred g e type (dialect_in t) x).0)
  no_number TypeRule.IsZero (is_zero e) operand u type g is x = subst (λ y. HasType g y nat (dialect_in t)) is.0 (has_type g e nat (dialect_in t) (of_is_zero g e type (dialect_in t) x).0)
  no_number _ _ operand u type g is x = absurd is

  pub number_form : (rule : TypeRule) (e operand : Term) (u type : Typ) (place : ℕ) (p : TypingTree) (o : Option TypingTree) → IsNatBy rule e operand u → IsProvenAs t operand place nat (Some p)
      → IsWidened (typing_step rule u (typing_first p no_typings) None) type o (dialect_in t) → IsProvenForm t e place type o
  number_form rule e operand u type place p o is proves wide all k s g setting sees at lt found =
      let parts = operand_of rule e operand u all k s g is sees in
      number rule e operand u type p o g is (whole t all k s g e place type setting sees at lt found) (proves all k s g setting parts.0 (at ∙ parts.1) (omega (arith, lt))) wide

  pub number_none : (rule : TypeRule) (e operand : Term) (u type : Typ) (place : ℕ) → IsNatBy rule e operand u → IsProvenAs t operand place nat None → IsProvenForm t e place type None
  number_none rule e operand u type place is proves all k s g setting sees at lt found =
      let parts = operand_of rule e operand u all k s g is sees in
      proves all k s g setting parts.0 (at ∙ parts.1) (omega (arith, lt)) (no_number rule e operand u type g is (whole t all k s g e place type setting sees at lt found).0)

  -- T-If

  pub if_form : (c a b : Term) (place m3 m2 : ℕ) (type : Typ) (p1 p2 p3 : TypingTree) (o : Option TypingTree) → m3 + inside b + 1 ≡ place → m2 + inside a + 1 ≡ m3
      → IsProvenAs t b place type (Some p3) → IsProvenAs t a m3 type (Some p2) → IsProvenAs t c m2 bool (Some p1)
      → IsWidened (typing_step TypeRule.If type (typing_first p1 (typing_first p2 (typing_first p3 no_typings))) None) type o (dialect_in t) → IsProvenForm t (if_then_else c a b) place type o
  if_form c a b place m3 m2 type p1 p2 p3 o e3 e2 third second first wide all k s g setting sees at lt found =
      let least = whole t all k s g (if_then_else c a b) place type setting sees at lt found in
      let h3 = third all (behind_term (behind_term k c) a) s g setting sees.3 (omega (arith, at)) (omega (arith, lt)) in
      let h2 = second all (behind_term k c) s g setting sees.2 (omega (arith, at, e3)) (omega (arith, lt, e3)) in
      let h1 = first all k s g setting sees.1 (omega (arith, at, e3, e2)) (omega (arith, lt, e3, e2)) in
      let wf = (derives_wf g (if_then_else c a b) type (dialect_in t) least.0).1 in
      finished TypeRule.If type type (typing_first p1 (typing_first p2 (typing_first p3 no_typings))) o g (if_then_else c a b) (dialect_in t) wide wf (h1.0, h1.1, h2.0, h2.1, h3.0, h3.1) least (below_refl type (dialect_in t) wf)

  pub if_none_else : (c a b : Term) (place : ℕ) (type : Typ) → IsProvenAs t b place type None → IsProvenForm t (if_then_else c a b) place type None
  if_none_else c a b place type third all k s g setting sees at lt found =
      let least = whole t all k s g (if_then_else c a b) place type setting sees at lt found in
      third all (behind_term (behind_term k c) a) s g setting sees.3 (omega (arith, at)) (omega (arith, lt)) (has_type g b type (dialect_in t) (of_if g c a b type (dialect_in t) least.0).else_term)

  pub if_none_then : (c a b : Term) (place m3 : ℕ) (type : Typ) → m3 + inside b + 1 ≡ place → IsProvenAs t a m3 type None → IsProvenForm t (if_then_else c a b) place type None
  if_none_then c a b place m3 type e3 second all k s g setting sees at lt found =
      let least = whole t all k s g (if_then_else c a b) place type setting sees at lt found in
      second all (behind_term k c) s g setting sees.2 (omega (arith, at, e3)) (omega (arith, lt, e3)) (has_type g a type (dialect_in t) (of_if g c a b type (dialect_in t) least.0).then_term)

  pub if_none_condition : (c a b : Term) (place m3 m2 : ℕ) (type : Typ) → m3 + inside b + 1 ≡ place → m2 + inside a + 1 ≡ m3 → IsProvenAs t c m2 bool None → IsProvenForm t (if_then_else c a b) place type None
  if_none_condition c a b place m3 m2 type e3 e2 first all k s g setting sees at lt found =
      let least = whole t all k s g (if_then_else c a b) place type setting sees at lt found in
      first all k s g setting sees.1 (omega (arith, at, e3, e2)) (omega (arith, lt, e3, e2)) (has_type g c bool (dialect_in t) (of_if g c a b type (dialect_in t) least.0).condition)

  -- T-Abs

  under : (w : Typ) (e : Term) (type : Typ) (all : List Place) (s : Scope) (g : Context) → IsSetting t all s g → Derives g (lambda (Some w) e) type (dialect_in t) → IsSetting t all (written (Some w) ∷ s) (Some w ∷ g)
  under w e type all s g setting x =
      let h = of_lambda g w e type (dialect_in t) x in
      record { least = setting.least; low = lowest_written (Some w) s (Some w) g (dialect_in t) (derives_wf (Some w ∷ g) e h.outcome (dialect_in t) h.body).0.0 refl setting.low }

  pub lambda_form : (w : Typ) (e : Term) (place : ℕ) (u type : Typ) (p : TypingTree) (o : Option TypingTree) → u ≡ arrow w (type_in p) → IsProvenTerm t e place (Some p)
      → IsWidened (typing_step TypeRule.Abs u (typing_first p no_typings) None) type o (dialect_in t) → IsProvenForm t (lambda (Some w) e) place type o
  lambda_form w e place u type p o is proves wide all k s g setting sees at lt found =
      let least = whole t all k s g (lambda (Some w) e) place type setting sees at lt found in
      let body = proven p (Some w ∷ g) e (dialect_in t) (part t all k (written (Some w) ∷ s) (Some w ∷ g) e place (Some p) (under w e type all s g setting least.0) sees.1 (omega (arith, at)) (omega (arith, lt)) proves) in
      let own = lambda_least g (Some w) e (Some (type_in p)) (Some (arrow w (type_in p))) (dialect_in t) body.1 refl in
      finished TypeRule.Abs u type (typing_first p no_typings) o g (lambda (Some w) e) (dialect_in t) wide
      (subst (λ v. IsWellFormed v) (sym is) (derives_wf g (lambda (Some w) e) (arrow w (type_in p)) (dialect_in t) own.0).1) (body.0, is) least (subst (λ v. IsBelow v type (dialect_in t)) (sym is) (own.1 type least.0))

  pub lambda_none : (w : Typ) (e : Term) (place : ℕ) (type : Typ) → IsProvenTerm t e place None → IsProvenForm t (lambda (Some w) e) place type None
  lambda_none w e place type proves all k s g setting sees at lt found =
      let least = whole t all k s g (lambda (Some w) e) place type setting sees at lt found in
      let h = of_lambda g w e type (dialect_in t) least.0 in
      unfound (Some w ∷ g) e (dialect_in t) h.outcome (part t all k (written (Some w) ∷ s) (Some w ∷ g) e place None (under w e type all s g setting least.0) sees.1 (omega (arith, at)) (omega (arith, lt)) proves) h.body

  pub faulty_lambda_none : (e : Term) (place : ℕ) (type : Typ) → IsProvenForm t (lambda None e) place type None
  faulty_lambda_none e place type all k s g setting sees at lt found = of_faulty_lambda g e type (dialect_in t) (whole t all k s g (lambda None e) place type setting sees at lt found).0

  -- T-App

  argument_below : (f a : Term) (g : Context) (p r q type : Typ) → LeastIn g f (Some (arrow p r)) (dialect_in t) → LeastIn g a (Some q) (dialect_in t) → Derives g (apply f a) type (dialect_in t) → IsBelow q p (dialect_in t)
  argument_below f a g p r q type lf la x =
      let h = of_apply g f a type (dialect_in t) x in
      below_trans q h.parameter p (dialect_in t) (la.1 h.parameter h.argument) (arrow_inside p r h.parameter h.outcome (dialect_in t) (lf.1 (arrow h.parameter h.outcome) h.function)).0

  pub apply_form : (f a : Term) (place m : ℕ) (r p type : Typ) (pf pa qa : TypingTree) (o : Option TypingTree) → m + inside a + 1 ≡ place → IsProvenTerm t a place (Some pa) → IsProvenTerm t f m (Some pf)
      → type_in pf ≡ arrow p r → IsWidened pa p (Some qa) (dialect_in t)
      → IsWidened (typing_step TypeRule.App r (typing_first pf (typing_first qa no_typings)) None) type o (dialect_in t) → IsProvenForm t (apply f a) place type o
  apply_form f a place m r p type pf pa qa o e second first is wide_a wide all k s g setting sees at lt found =
      let d = dialect_in t in
      let least = whole t all k s g (apply f a) place type setting sees at lt found in
      let ha = proven pa g a d (part t all (behind_term k f) s g a place (Some pa) setting sees.2 (omega (arith, at)) (omega (arith, lt)) second) in
      let hf = proven pf g f d (part t all k s g f m (Some pf) setting sees.1 (omega (arith, at, e)) (omega (arith, lt, e)) first) in
      let lf : LeastIn g f (Some (arrow p r)) d = subst (λ v. LeastIn g f (Some v) d) is hf.1 in
      let q = wide_a g a ha.0 in
      let below = argument_below f a g p r (type_in pa) type lf ha.1 least.0 in
      let own = apply_least g f a d (Some (arrow p r)) (Some (type_in pa)) (Some r) lf ha.1 (refl, below) in
      finished TypeRule.App r type (typing_first pf (typing_first qa no_typings)) o g (apply f a) d wide (derives_wf g (apply f a) r d own.0).1 (hf.0, q.0, is ∙ ap (λ v. arrow v r) (sym q.1)) least (own.1 type least.0)

  pub apply_none_argument : (f a : Term) (place : ℕ) (type : Typ) → IsProvenTerm t a place None → IsProvenForm t (apply f a) place type None
  apply_none_argument f a place type second all k s g setting sees at lt found =
      let h = of_apply g f a type (dialect_in t) (whole t all k s g (apply f a) place type setting sees at lt found).0 in
      unfound g a (dialect_in t) h.parameter (part t all (behind_term k f) s g a place None setting sees.2 (omega (arith, at)) (omega (arith, lt)) second) h.argument

  pub apply_none_function : (f a : Term) (place m : ℕ) (type : Typ) → m + inside a + 1 ≡ place → IsProvenTerm t f m None → IsProvenForm t (apply f a) place type None
  apply_none_function f a place m type e first all k s g setting sees at lt found =
      let h = of_apply g f a type (dialect_in t) (whole t all k s g (apply f a) place type setting sees at lt found).0 in
      unfound g f (dialect_in t) (arrow h.parameter h.outcome) (part t all k s g f m None setting sees.1 (omega (arith, at, e)) (omega (arith, lt, e)) first) h.function

  pub apply_no_arrow : (f a : Term) (place m : ℕ) (type : Typ) (pf : TypingTree) → m + inside a + 1 ≡ place → IsProvenTerm t f m (Some pf) → ((p r : Typ) → type_in pf ≡ arrow p r → ⊥) → IsProvenForm t (apply f a) place type None
  apply_no_arrow f a place m type pf e first other all k s g setting sees at lt found =
      let h = of_apply g f a type (dialect_in t) (whole t all k s g (apply f a) place type setting sees at lt found).0 in
      let hf = proven pf g f (dialect_in t) (part t all k s g f m (Some pf) setting sees.1 (omega (arith, at, e)) (omega (arith, lt, e)) first) in
      let arrow_is = below_arrow_is (type_in pf) h.parameter h.outcome (dialect_in t) (hf.1.1 (arrow h.parameter h.outcome) h.function) in
      other arrow_is.0 arrow_is.1 arrow_is.2

  pub apply_not_below : (f a : Term) (place m : ℕ) (p r type : Typ) (pf pa : TypingTree) → m + inside a + 1 ≡ place → IsProvenTerm t a place (Some pa) → IsProvenTerm t f m (Some pf)
      → type_in pf ≡ arrow p r → IsWidened pa p None (dialect_in t) → IsProvenForm t (apply f a) place type None
  apply_not_below f a place m p r type pf pa e second first is wide_a all k s g setting sees at lt found =
      let d = dialect_in t in
      let least = whole t all k s g (apply f a) place type setting sees at lt found in
      let ha = proven pa g a d (part t all (behind_term k f) s g a place (Some pa) setting sees.2 (omega (arith, at)) (omega (arith, lt)) second) in
      let hf = proven pf g f d (part t all k s g f m (Some pf) setting sees.1 (omega (arith, at, e)) (omega (arith, lt, e)) first) in
      wide_a g a ha.0 (argument_below f a g p r (type_in pa) type (subst (λ v. LeastIn g f (Some v) d) is hf.1) ha.1 least.0)

  -- T-Ascribe

  pub ascribe_form : (e : Term) (w : Typ) (place : ℕ) (u type : Typ) (p : TypingTree) (o : Option TypingTree) → u ≡ w → IsProvenAs t e place w (Some p)
      → IsWidened (typing_step TypeRule.Ascribe u (typing_first p no_typings) None) type o (dialect_in t) → IsProvenForm t (ascribe e (Some w)) place type o
  ascribe_form e w place u type p o is proves wide all k s g setting sees at lt found =
      let d = dialect_in t in
      let least = whole t all k s g (ascribe e (Some w)) place type setting sees at lt found in
      let h = of_ascribe g e w type d least.0 in
      let q = proves all k s g setting sees.1 (omega (arith, at)) (omega (arith, lt)) in
      finished TypeRule.Ascribe u type (typing_first p no_typings) o g (ascribe e (Some w)) d wide (subst (λ v. IsWellFormed v) (sym is) (derives_wf g e w d h.0).1) (q.0, q.1, is) least (subst (λ v. IsBelow v type d) (sym is) h.1)

  pub ascribe_none : (e : Term) (w : Typ) (place : ℕ) (type : Typ) → IsProvenAs t e place w None → IsProvenForm t (ascribe e (Some w)) place type None
  ascribe_none e w place type proves all k s g setting sees at lt found =
      let h = of_ascribe g e w type (dialect_in t) (whole t all k s g (ascribe e (Some w)) place type setting sees at lt found).0 in
      proves all k s g setting sees.1 (omega (arith, at)) (omega (arith, lt)) (has_type g e w (dialect_in t) h.0)

  pub faulty_ascribe_none : (e : Term) (place : ℕ) (type : Typ) → IsProvenForm t (ascribe e None) place type None
  faulty_ascribe_none e place type all k s g setting sees at lt found = of_faulty_ascribe g e type (dialect_in t) (whole t all k s g (ascribe e None) place type setting sees at lt found).0

  -- T-Let

  bound_low : (a : Term) (s : Scope) (g : Context) (x : Option Typ) → LeastIn g a x (dialect_in t) → IsLowest s g (dialect_in t) → IsLowest (of_term a ∷ s) (x ∷ g) (dialect_in t)
  bound_low a s g (Some u) least low = lowest_some a s u g (dialect_in t) least low
  bound_low a s g None least low = lowest_none a s g (dialect_in t) least low

  bound_least : (a : Term) (all : List Place) (k : ℕ) (s : Scope) (g : Context) → IsSetting t all s g → Sees all (found_in t) (noted_in t) k s g a → place_of_term k a < length (found_in t)
      → LeastIn g a (get_or (found_in t) (place_of_term k a) None) (dialect_in t)
  bound_least a all k s g setting sees lt =
      least_in s g a (get_or (found_in t) (place_of_term k a) None) (dialect_in t) setting.low (own_least all (found_in t) (noted_in t) (dialect_in t) k s g a setting.least sees lt)

  pub let_form : (a b : Term) (place m : ℕ) (u type : Typ) (pa pb : TypingTree) (o : Option TypingTree) → m + inside b + 1 ≡ place → u ≡ type_in pb → IsProvenTerm t b place (Some pb) → IsProvenTerm t a m (Some pa)
      → IsWidened (typing_step TypeRule.Let u (typing_first pa (typing_first pb no_typings)) None) type o (dialect_in t) → IsProvenForm t (let_in a b) place type o
  let_form a b place m u type pa pb o e is second first wide all k s g setting sees at lt found =
      let d = dialect_in t in
      let x = get_or (found_in t) (place_of_term k a) None in
      let least = whole t all k s g (let_in a b) place type setting sees at lt found in
      let la = bound_least a all k s g setting sees.1 (omega (arith, at, lt)) in
      let ha = proven_by x pa g a d la (first all k s g setting sees.1 (omega (arith, at, e)) (omega (arith, lt, e))) in
      let inner : IsSetting t all (of_term a ∷ s) (x ∷ g) = record { least = setting.least; low = bound_low a s g x la setting.low } in
      let hb = proven pb (x ∷ g) b d (part t all (behind_term k a) (of_term a ∷ s) (x ∷ g) b place (Some pb) inner sees.2 (omega (arith, at)) (omega (arith, lt)) second) in
      let tb : IsTyping (Some (type_in pa) ∷ g) b pb d = subst (λ y. IsTyping (y ∷ g) b pb d) ha.2 hb.0 in
      let lb : LeastIn (Some (type_in pa) ∷ g) b (Some (type_in pb)) d = subst (λ y. LeastIn (y ∷ g) b (Some (type_in pb)) d) ha.2 hb.1 in
      let own = let_least g a b (Some (type_in pa)) (Some (type_in pb)) (Some (type_in pb)) d setting.low.wf ha.1 lb refl in
      finished TypeRule.Let u type (typing_first pa (typing_first pb no_typings)) o g (let_in a b) d wide (subst (λ v. IsWellFormed v) (sym is) (derives_wf g (let_in a b) (type_in pb) d own.0).1) (ha.0, tb, sym is) least
      (subst (λ v. IsBelow v type d) (sym is) (own.1 type least.0))

  pub let_none_body : (a b : Term) (place : ℕ) (type : Typ) → IsProvenTerm t b place None → IsProvenForm t (let_in a b) place type None
  let_none_body a b place type second all k s g setting sees at lt found =
      let d = dialect_in t in
      let x = get_or (found_in t) (place_of_term k a) None in
      let least = whole t all k s g (let_in a b) place type setting sees at lt found in
      let la = bound_least a all k s g setting sees.1 (omega (arith, at, lt)) in
      let inner : IsSetting t all (of_term a ∷ s) (x ∷ g) = record { least = setting.least; low = bound_low a s g x la setting.low } in
      let hb = part t all (behind_term k a) (of_term a ∷ s) (x ∷ g) b place None inner sees.2 (omega (arith, at)) (omega (arith, lt)) second in
      let_least g a b x None None d setting.low.wf la (λ v y. unfound (x ∷ g) b d v hb y) (let_rule x) type least.0
    where
      let_rule : (x : Option Typ) → LetRule x None None
      let_rule None = refl
      let_rule (Some v) = refl

  pub let_none_bound : (a b : Term) (place m : ℕ) (type : Typ) → m + inside b + 1 ≡ place → IsProvenTerm t a m None → IsProvenForm t (let_in a b) place type None
  let_none_bound a b place m type e first all k s g setting sees at lt found =
      let h = of_let g a b type (dialect_in t) (whole t all k s g (let_in a b) place type setting sees at lt found).0 in
      unfound g a (dialect_in t) h.type_of_bound (part t all k s g a m None setting sees.1 (omega (arith, at, e)) (omega (arith, lt, e)) first) h.bound

  -- T-Rcd

  pub record_form : (es : TermFields) (place : ℕ) (ps : FieldTrees) (type : Typ) (o : Option TypingTree) → AreProvenFields t es place (Some ps)
      → IsWidened (typing_step TypeRule.Rcd (record_of ps.types) ps.trees None) type o (dialect_in t) → IsProvenForm t (record_term es) place type o
  record_form es place ps type o proves wide all k s g setting sees at lt found =
      let d = dialect_in t in
      let least = whole t all k s g (record_term es) place type setting sees at lt found in
      let h = proves all k s g setting sees.1 at (omega (arith, lt)) in
      let lf = fields_least s g es (Some ps.types) d setting.low h.1 in
      let r = of_record g es type d least.0 in
      let wf = wf_each ps.types r.fields d (lf.1 r.fields r.derive) r.wf in
      let own = record_least g es (Some ps.types) (Some (record_of ps.types)) d lf (refl, wf) in
      finished TypeRule.Rcd (record_of ps.types) type ps.trees o g (record_term es) d wide wf h.0 least (own.1 type least.0)

  pub record_none : (es : TermFields) (place : ℕ) (type : Typ) → AreProvenFields t es place None → IsProvenForm t (record_term es) place type None
  record_none es place type proves all k s g setting sees at lt found =
      let d = dialect_in t in
      let least = whole t all k s g (record_term es) place type setting sees at lt found in
      let lf = fields_least s g es None d setting.low (proves all k s g setting sees.1 at (omega (arith, lt))) in
      record_least g es None None d lf refl type least.0

  pub no_fields_form : (behind : ℕ) (ps : FieldTrees) → ps.trees ≡ no_typings → ps.types ≡ no_fields → AreProvenFields t no_terms behind (Some ps)
  no_fields_form behind ps trees types all k s g setting sees at le =
      (subst (λ q. ByTypeRule TypeRule.Rcd None g (record_term no_terms) (record_of ps.types) q (dialect_in t)) (sym trees) (subst (λ fs. ByTypeRule TypeRule.Rcd None g (record_term no_terms) (record_of fs) no_typings (dialect_in t)) (sym types) tt), ap Some types)

  pub more_fields_form : (l : Label) (e : Term) (es : TermFields) (behind m : ℕ) (p : TypingTree) (ps qs : FieldTrees) → m + inside_fields es ≡ behind → AreProvenFields t es behind (Some ps) → IsProvenTerm t e m (Some p)
      → qs.trees ≡ typing_first p ps.trees → qs.types ≡ field l (type_in p) ps.types → AreProvenFields t (term_field l e es) behind (Some qs)
  more_fields_form l e es behind m p ps qs count rest first trees types all k s g setting sees at le =
      let d = dialect_in t in
      let x = get_or (found_in t) (place_of_term k e) None in
      let hs = rest all (behind_term k e) s g setting sees.1 (omega (arith, at)) le in
      let least = own_least all (found_in t) (noted_in t) d k s g e setting.least sees.0 (omega (arith, at, le)) in
      let h = proven_by x p g e d (least_in s g e x d setting.low least) (first all k s g setting sees.0 (omega (arith, at, count)) (omega (arith, le, count))) in (
        subst (λ q. ByTypeRule TypeRule.Rcd None g (record_term (term_field l e es)) (record_of qs.types) q d) (sym trees)
            (subst (λ fs. ByTypeRule TypeRule.Rcd None g (record_term (term_field l e es)) (record_of fs) (typing_first p ps.trees) d) (sym types) (refl, h.0, refl, hs.0)),
        (Some (type_in p), Some ps.types, subst (λ o. IsLeastAt s e o d) h.2 least, hs.1, ap Some types),
      )

  pub more_fields_none : (l : Label) (e : Term) (es : TermFields) (behind : ℕ) → AreProvenFields t es behind None → AreProvenFields t (term_field l e es) behind None
  more_fields_none l e es behind rest all k s g setting sees at le =
      let d = dialect_in t in
      let x = get_or (found_in t) (place_of_term k e) None in
      (x, None, own_least all (found_in t) (noted_in t) d k s g e setting.least sees.0 (omega (arith, at, le)), rest all (behind_term k e) s g setting sees.1 (omega (arith, at)) le, more_rule x)
    where
      more_rule : (x : Option Typ) → MoreRule l x None None
      more_rule None = refl
      more_rule (Some v) = refl

  pub first_field_none : (l : Label) (e : Term) (es : TermFields) (behind m : ℕ) (ps : FieldTrees) → m + inside_fields es ≡ behind → AreProvenFields t es behind (Some ps) → IsProvenTerm t e m None
      → AreProvenFields t (term_field l e es) behind None
  first_field_none l e es behind m ps count rest first all k s g setting sees at le =
      let d = dialect_in t in
      let x = get_or (found_in t) (place_of_term k e) None in
      let hs = rest all (behind_term k e) s g setting sees.1 (omega (arith, at)) le in
      let least = own_least all (found_in t) (noted_in t) d k s g e setting.least sees.0 (omega (arith, at, le)) in
      let none = none_found x g e d (first all k s g setting sees.0 (omega (arith, at, count)) (omega (arith, le, count))) in
      (None, Some ps.types, subst (λ o. IsLeastAt s e o d) none least, hs.1, refl)
    where
      none_found : (x : Option Typ) (g : Context) (e : Term) (d : Dialect) → ProvesFound None x g e d → x ≡ None
      none_found None g e d proves = refl
      none_found (Some v) g e d proves = absurd proves

  -- T-Proj

  pub project_form : (e : Term) (l : Label) (place : ℕ) (fs : Fields) (v u type : Typ) (p : TypingTree) (o : Option TypingTree) → IsProvenTerm t e place (Some p) → type_in p ≡ record_of fs → Has l v fs → u ≡ v
      → IsWidened (typing_step TypeRule.Proj u (typing_first p no_typings) None) type o (dialect_in t) → IsProvenForm t (project e l) place type o
  project_form e l place fs v u type p o proves is has same wide all k s g setting sees at lt found =
      let d = dialect_in t in
      let least = whole t all k s g (project e l) place type setting sees at lt found in
      let h = proven p g e d (part t all k s g e place (Some p) setting sees.1 (omega (arith, at)) (omega (arith, lt)) proves) in
      let le : LeastIn g e (Some (record_of fs)) d = subst (λ w. LeastIn g e (Some w) d) is h.1 in
      let has_u : Has l u fs = subst (λ w. Has l w fs) (sym same) has in
      let own = project_least g e l (Some (record_of fs)) (Some u) d le has_u in
      finished TypeRule.Proj u type (typing_first p no_typings) o g (project e l) d wide (derives_wf g (project e l) u d own.0).1 (h.0, subst (λ w. HasField w l u) (sym is) has_u) least (own.1 type least.0)

  pub project_none : (e : Term) (l : Label) (place : ℕ) (type : Typ) → IsProvenTerm t e place None → IsProvenForm t (project e l) place type None
  project_none e l place type proves all k s g setting sees at lt found =
      let h = of_project g e l type (dialect_in t) (whole t all k s g (project e l) place type setting sees at lt found).0 in
      unfound g e (dialect_in t) (record_of h.fields) (part t all k s g e place None setting sees.1 (omega (arith, at)) (omega (arith, lt)) proves) h.operand

  pub project_no_record : (e : Term) (l : Label) (place : ℕ) (type : Typ) (p : TypingTree) → IsProvenTerm t e place (Some p) → ((fs : Fields) → type_in p ≡ record_of fs → ⊥) → IsProvenForm t (project e l) place type None
  project_no_record e l place type p proves other all k s g setting sees at lt found =
      let d = dialect_in t in
      let h = of_project g e l type d (whole t all k s g (project e l) place type setting sees at lt found).0 in
      let hp = proven p g e d (part t all k s g e place (Some p) setting sees.1 (omega (arith, at)) (omega (arith, lt)) proves) in
      let r = below_record_is (type_in p) h.fields d (hp.1.1 (record_of h.fields) h.operand) in
      other r.0 r.1

  pub project_no_field : (e : Term) (l : Label) (place : ℕ) (fs : Fields) (type : Typ) (p : TypingTree) → IsProvenTerm t e place (Some p) → type_in p ≡ record_of fs → IsAbsent l fs → IsProvenForm t (project e l) place type None
  project_no_field e l place fs type p proves is absent all k s g setting sees at lt found =
      let d = dialect_in t in
      let least = whole t all k s g (project e l) place type setting sees at lt found in
      let h = proven p g e d (part t all k s g e place (Some p) setting sees.1 (omega (arith, at)) (omega (arith, lt)) proves) in
      project_least g e l (Some (record_of fs)) None d (subst (λ w. LeastIn g e (Some w) d) is h.1) absent type least.0

  -- T-Fix

  pub fix_form : (e : Term) (place : ℕ) (w u type : Typ) (p : TypingTree) (o : Option TypingTree) → w ≡ arrow type type → u ≡ type → IsProvenAs t e place w (Some p)
      → IsWidened (typing_step TypeRule.Fix u (typing_first p no_typings) None) type o (dialect_in t) → IsProvenForm t (fix e) place type o
  fix_form e place w u type p o arrow_is is proves wide all k s g setting sees at lt found =
      let d = dialect_in t in
      let least = whole t all k s g (fix e) place type setting sees at lt found in
      let wf = (derives_wf g (fix e) type d least.0).1 in
      let q = proves all k s g setting sees.1 (omega (arith, at)) (omega (arith, lt)) in
      finished TypeRule.Fix u type (typing_first p no_typings) o g (fix e) d wide (subst (λ v. IsWellFormed v) (sym is) wf) (q.0, q.1 ∙ arrow_is ∙ (λ i. arrow (sym is i) (sym is i))) least (subst (λ v. IsBelow v type d) (sym is) (below_refl type d wf))

  pub fix_none : (e : Term) (place : ℕ) (w type : Typ) → w ≡ arrow type type → IsProvenAs t e place w None → IsProvenForm t (fix e) place type None
  fix_none e place w type arrow_is proves all k s g setting sees at lt found =
      let d = dialect_in t in
      let least = whole t all k s g (fix e) place type setting sees at lt found in
      let h = of_fix g e type d least.0 in
      let back = least.1 h.fixed (t_fix h.operand) in
      let wide : Derives g e w d = subst (λ v. Derives g e v d) (sym arrow_is) (t_sub h.operand (below_arrow h.fixed h.fixed type type d back h.below)) in
      proves all k s g setting sees.1 (omega (arith, at)) (omega (arith, lt)) (has_type g e w d wide)
