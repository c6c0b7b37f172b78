-- The form of a term from the forms of its parts, over the numbers of a table that has grown in between.
use Rattle.std.proofs.Common.{◌≡◌, ℕ, List, [], ◌∷◌, ◌++◌, append_assoc, Box, Vec, Option, Result, Ok, Err, IfOk, OnOk, ap, sym, subst, refl, ◌∙◌}
use Rattle.std.specs.declared.alloc.Global.{Global}
use Rattle.std.specs.declared.alloc.AllocError.{AllocError}
use denote.Ref.{Bor}
use Rattle.lam_rules.specs.Types.{Label, Typ}
use Rattle.lam_rules.specs.Texts.{Text}
use Rattle.lam_rules.specs.Terms as rules
use Rattle.lam_rules.specs.Terms.{Term, TermFields}
use Rattle.lam_rules.specs.Numbers.{Keeps}
use Rattle.lam_rules.specs.declared.numbers.TyNo.{TyNo}
use Rattle.lam_scope.specs.Numbered.{Numbered, true_term, false_term, if_then_else, numeral, succ, pred, is_zero, variable, free, lambda, apply, unit_term, ascribe, let_in, record_term, project, fix, term_over, NumbersStand}
use Rattle.lam_scope.specs.InternedViews.{numbered_of, numbered_terms}
use Rattle.lam_scope.specs.declared.interned.InternedTerm.{InternedTerm}
use Rattle.lam_scope.specs.declared.interned.InternedField.{InternedField}
use Rattle.lam_scope.specs.declared.interned.InternedTerm.TheVariants.{True, False, If, Num, Succ, Pred, IsZero, Var, Free, Abs, App, Unit as UnitTerm, Ascribe, Let, Record, Proj, Fix}
use Rattle.lam_scope.proofs.InternedShapes.{numbered_of-True, numbered_of-False, numbered_of-If, numbered_of-Num, numbered_of-Succ, numbered_of-Pred, numbered_of-IsZero, numbered_of-Var, numbered_of-Free, numbered_of-Abs, numbered_of-App, numbered_of-Unit, numbered_of-Ascribe, numbered_of-Let, numbered_of-Record, numbered_of-Proj, numbered_of-Fix}
use Rattle.lam_scope.proofs.InternedTerms.{kept}
use Rattle.lam_typing.specs.Answers.{answer, StandsWhereFound}
use Rattle.lam_typing.specs.inner.Interning.{IsForm, AreMoreForms}
use Rattle.lam_typing.proofs.Growing.{answer_keep, stands_keep}

by_shape : (ts : List Typ) (form : InternedTerm) (n : Numbered) (e : Term) → numbered_of form ≡ n → NumbersStand ts n → term_over ts n ≡ e → IsForm ts form e
by_shape ts form n e is stand same = record { stand = subst (NumbersStand ts) (sym is) stand; same = ap (term_over ts) is ∙ same }

-- a form still stands for its term when the table has grown

pub form_still : {old now : List Typ} {form : InternedTerm} {e : Term} → Keeps old now → IsForm old form e → IsForm now form e
form_still {old = old} {now = now} {form = form} keeps is = let k = kept old now form keeps is.stand in record { stand = k.1; same = k.0 ∙ is.same }

-- what is written has a number that stands for it
pub record IsNumbered (ts : List Typ) (number : Option TyNo) (w : Option Typ) : Type 0 where
  pub stands : StandsWhereFound ts number
  pub entry : answer ts number ≡ w

pub numbered_still : {old now : List Typ} (number : Option TyNo) {w : Option Typ} → Keeps old now → StandsWhereFound old number → answer old number ≡ w → IsNumbered now number w
numbered_still {old = old} {now = now} number keeps stands is =
    record { stands = stands_keep old now number keeps stands; entry = answer_keep old now number keeps stands ∙ is }

-- form by form

module _ (ts : List Typ) where
  pub form_true : IsForm ts True rules.true_term
  form_true = by_shape ts True true_term rules.true_term numbered_of-True tt refl

  pub form_false : IsForm ts False rules.false_term
  form_false = by_shape ts False false_term rules.false_term numbered_of-False tt refl

  pub form_unit : IsForm ts UnitTerm rules.unit_term
  form_unit = by_shape ts UnitTerm unit_term rules.unit_term numbered_of-Unit tt refl

  pub form_numeral : (s : Bor Text) (digits : Text) → s.now ≡ digits → IsForm ts (Num s) (rules.numeral digits)
  form_numeral s digits is = by_shape ts (Num s) (numeral s.now) (rules.numeral digits) (numbered_of-Num s) tt (ap rules.numeral is)

  pub form_free : (s : Bor Text) (name : Text) → s.now ≡ name → IsForm ts (Free s) (rules.free name)
  form_free s name is = by_shape ts (Free s) (free s.now) (rules.free name) (numbered_of-Free s) tt (ap rules.free is)

  pub form_variable : (n : ℕ) → IsForm ts (Var n) (rules.variable n)
  form_variable n = by_shape ts (Var n) (variable n) (rules.variable n) (numbered_of-Var n) tt refl

  pub form_succ : (p : Box InternedTerm Global) {e : Term} → IsForm ts p.value e → IsForm ts (Succ p) (rules.succ e)
  form_succ p {e = e} is = by_shape ts (Succ p) (succ (numbered_of p.value)) (rules.succ e) (numbered_of-Succ p) is.stand (ap rules.succ is.same)

  pub form_pred : (p : Box InternedTerm Global) {e : Term} → IsForm ts p.value e → IsForm ts (Pred p) (rules.pred e)
  form_pred p {e = e} is = by_shape ts (Pred p) (pred (numbered_of p.value)) (rules.pred e) (numbered_of-Pred p) is.stand (ap rules.pred is.same)

  pub form_is_zero : (p : Box InternedTerm Global) {e : Term} → IsForm ts p.value e → IsForm ts (IsZero p) (rules.is_zero e)
  form_is_zero p {e = e} is = by_shape ts (IsZero p) (is_zero (numbered_of p.value)) (rules.is_zero e) (numbered_of-IsZero p) is.stand (ap rules.is_zero is.same)

  pub form_fix : (p : Box InternedTerm Global) {e : Term} → IsForm ts p.value e → IsForm ts (Fix p) (rules.fix e)
  form_fix p {e = e} is = by_shape ts (Fix p) (fix (numbered_of p.value)) (rules.fix e) (numbered_of-Fix p) is.stand (ap rules.fix is.same)

  pub form_if : (p : Box (InternedTerm × InternedTerm × InternedTerm) Global) (x y z : InternedTerm) {a b c : Term} → p.value ≡ (x, y, z) → IsForm ts x a → IsForm ts y b → IsForm ts z c → IsForm ts (If p) (rules.if_then_else a b c)
  form_if p x y z {a = a} {b = b} {c = c} is one two three =
      by_shape ts (If p) (if_then_else (numbered_of x) (numbered_of y) (numbered_of z)) (rules.if_then_else a b c)
      (numbered_of-If p ∙ ap (λ v. if_then_else (numbered_of v.0) (numbered_of v.1) (numbered_of v.2)) is)
      (one.stand, two.stand, three.stand) (λ i. rules.if_then_else (one.same i) (two.same i) (three.same i))

  pub form_lambda : (number : Option TyNo) (x : Box InternedTerm Global) {w : Option Typ} {e : Term} → IsNumbered ts number w → IsForm ts x.value e → IsForm ts (Abs number x) (rules.lambda w e)
  form_lambda number x {w = w} {e = e} one two =
      by_shape ts (Abs number x) (lambda number (numbered_of x.value)) (rules.lambda w e) (numbered_of-Abs number x)
      (one.stands, two.stand) (λ i. rules.lambda (one.entry i) (two.same i))

  pub form_apply : (p : Box (InternedTerm × InternedTerm) Global) (x y : InternedTerm) {a b : Term} → p.value ≡ (x, y) → IsForm ts x a → IsForm ts y b → IsForm ts (App p) (rules.apply a b)
  form_apply p x y {a = a} {b = b} is one two =
      by_shape ts (App p) (apply (numbered_of x) (numbered_of y)) (rules.apply a b) (numbered_of-App p ∙ ap (λ v. apply (numbered_of v.0) (numbered_of v.1)) is)
      (one.stand, two.stand) (λ i. rules.apply (one.same i) (two.same i))

  pub form_let : (p : Box (InternedTerm × InternedTerm) Global) (x y : InternedTerm) {a b : Term} → p.value ≡ (x, y) → IsForm ts x a → IsForm ts y b → IsForm ts (Let p) (rules.let_in a b)
  form_let p x y {a = a} {b = b} is one two =
      by_shape ts (Let p) (let_in (numbered_of x) (numbered_of y)) (rules.let_in a b) (numbered_of-Let p ∙ ap (λ v. let_in (numbered_of v.0) (numbered_of v.1)) is)
      (one.stand, two.stand) (λ i. rules.let_in (one.same i) (two.same i))

  pub form_ascribe : (x : Box InternedTerm Global) (number : Option TyNo) {w : Option Typ} {e : Term} → IsForm ts x.value e → IsNumbered ts number w → IsForm ts (Ascribe x number) (rules.ascribe e w)
  form_ascribe x number {w = w} {e = e} one two =
      by_shape ts (Ascribe x number) (ascribe (numbered_of x.value) number) (rules.ascribe e w) (numbered_of-Ascribe x number)
      (one.stand, two.stands) (λ i. rules.ascribe (one.same i) (two.entry i))

  pub form_project : (x : Box InternedTerm Global) (l : Bor Text) {e : Term} → IsForm ts x.value e → IsForm ts (Proj x l) (rules.project e l.now)
  form_project x l {e = e} one =
      by_shape ts (Proj x l) (project (numbered_of x.value) l.now) (rules.project e l.now) (numbered_of-Proj x l)
      one.stand (λ i. rules.project (one.same i) l.now)

  pub form_record : (fs : Vec InternedField Global) {before : List InternedField} {es : TermFields} → before ≡ [] → AreMoreForms ts before fs.items es → IsForm ts (Record fs) (rules.record_term es)
  form_record fs {before = before} {es = es} none are =
      let all : fs.items ≡ are.more = are.are ∙ ap (λ xs. xs ++ are.more) none in
      by_shape ts (Record fs) (record_term (numbered_terms are.more)) (rules.record_term es)
      (numbered_of-Record fs ∙ ap (λ xs. record_term (numbered_terms xs)) all)
      are.stand (ap rules.record_term are.same)

-- the terms of a record

pub more_forms : {old now : List Typ} {before pushed after : List InternedField} (l : Bor Text) {label : Label} {form : InternedTerm} {e : Term} {es : TermFields}
    → Keeps old now → IsForm old form e → l.now ≡ label → pushed ≡ before ++ record { label = l; term = form } ∷ [] → AreMoreForms now pushed after es
    → AreMoreForms now before after (rules.term_field label e es)
more_forms {now = now} {before = before} l {form = form} keeps is same put rest =
    let first = form_still {now = now} keeps is in
    record {
      more = record { label = l; term = form } ∷ rest.more;
      are = rest.are ∙ ap (λ xs. xs ++ rest.more) put ∙ append_assoc before (record { label = l; term = form } ∷ []) rest.more;
      stand = (first.stand, rest.stand);
      same = λ i. rules.term_field (same i) (first.same i) (rest.same i);
    }

-- the same for results

pub form_by : (r : Result InternedTerm AllocError) (ts : List Typ) {e f : Term} → f ≡ e → IfOk r (λ form. IsForm ts form e) → IfOk r (λ form. IsForm ts form f)
form_by r ts same is = rw same is

pub forms_after : (r : Result (Unit {0}) AllocError) {old now : List Typ} (before : List InternedField) {pushed : List InternedField} (after : List InternedField)
    (l : Bor Text) {label : Label} {form : InternedTerm} {e : Term} (es : TermFields) → Keeps old now → IsForm old form e → l.now ≡ label → pushed ≡ before ++ record { label = l; term = form } ∷ [] → OnOk r (AreMoreForms now pushed after es)
    → OnOk r (AreMoreForms now before after (rules.term_field label e es))
forms_after (Ok x) before after l es keeps is same put rest = more_forms l keeps is same put rest
forms_after (Err x) before after l es keeps is same put rest = tt
