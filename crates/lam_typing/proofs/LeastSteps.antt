-- What each rule makes of the least types of the parts is the least type of the whole.
use Rattle.std.proofs.Common.{◌≡◌, ℕ, List, [], ◌∷◌, Option, Some, None, zero, suc, refl, sym, subst, ◌∙◌}
use Rattle.lam_rules.specs.Types.{Label, Typ, bool, nat, unit, top, arrow, record_of, Fields, no_fields, field, IsAbsent, AreWellFormed}
use Rattle.lam_rules.specs.Terms.{Term, true_term, false_term, if_then_else, numeral, succ, pred, is_zero, variable, free, lambda, apply, unit_term, ascribe, let_in, record_term, project, fix, TermFields, no_terms, term_field}
use Rattle.lam_rules.specs.Subtyping.{IsBelow}
use Rattle.lam_rules.specs.Typing.{Context, IsEntry, IsWellFormedContext}
use Rattle.lam_rules.specs.declared.rules.Dialect.{Dialect}
use Rattle.lam_rules.proofs.ByShape.{below_wf}
use Rattle.lam_rules.proofs.Composing.{below_refl, below_trans, below_arrow, below_depth, EachBelow}
use Rattle.lam_rules.proofs.Permutations.{absent_not}
use Rattle.lam_rules.proofs.SharedTexts.{one_type}
use Rattle.lam_sub.proofs.Arranging.{field_below}
use Rattle.lam_sub.proofs.Below.{arrow_inside, record_inside, below_arrow_is, below_record_is}
use Rattle.lam_typing.specs.inner.Steps.{entry_at, NatRule, LambdaRule, ArrowRule, ApplyRule, AscribeRule, LetRule, IfRule, FixRule, ProjectRule, MoreRule, RecordRule}
use Rattle.lam_typing.proofs.Derivations.{Derives, FieldsDerive, t_true, t_false, t_if, t_num, t_succ, t_pred, t_is_zero, t_var, t_abs, t_app, t_unit, t_ascribe, t_let, t_rcd, t_proj, t_fix, t_sub, none_derive, more_derive, derives_wf}
use Rattle.lam_typing.proofs.Narrows.{narrow, narrower_self}
use Rattle.lam_typing.proofs.LeastIn.{LeastIn}
use Rattle.lam_typing.proofs.Inversions.{of_true, of_false, of_unit, of_num, of_free, of_succ, of_pred, of_is_zero, of_if, of_variable, of_lambda, of_faulty_lambda, of_apply, of_ascribe, of_faulty_ascribe, of_let, of_record, of_project, of_fix, of_more, of_no_more}

-- constants and numerals

pub true_least : (g : Context) (d : Dialect) → IsWellFormedContext g → LeastIn g true_term (Some bool) d
true_least g d wf = (t_true wf, λ u x. of_true g u d x)

pub false_least : (g : Context) (d : Dialect) → IsWellFormedContext g → LeastIn g false_term (Some bool) d
false_least g d wf = (t_false wf, λ u x. of_false g u d x)

pub unit_least : (g : Context) (d : Dialect) → IsWellFormedContext g → LeastIn g unit_term (Some unit) d
unit_least g d wf = (t_unit wf, λ u x. of_unit g u d x)

pub num_least : (g : Context) (digits : List ℕ) (d : Dialect) → IsWellFormedContext g → LeastIn g (numeral digits) (Some nat) d
num_least g digits d wf = (t_num wf, λ u x. of_num g digits u d x)

pub free_least : (g : Context) (name : List ℕ) (d : Dialect) → LeastIn g (free name) None d
free_least g name d u x = of_free g name u d x

pub entry_is : (n : ℕ) (g : Context) (t : Typ) → entry_at n g ≡ Some t → IsEntry n g t
entry_is n [] t e = cc
entry_is zero (entry ∷ g) t e = e
entry_is (suc n) (entry ∷ g) t e = entry_is n g t e

pub is_entry_at : (n : ℕ) (g : Context) (t : Typ) → IsEntry n g t → entry_at n g ≡ Some t
is_entry_at n [] t is = absurd is
is_entry_at zero (entry ∷ g) t is = is
is_entry_at (suc n) (entry ∷ g) t is = is_entry_at n g t is

pub variable_least : (g : Context) (n : ℕ) (o : Option Typ) (d : Dialect) → IsWellFormedContext g → o ≡ entry_at n g → LeastIn g (variable n) o d
variable_least g n (Some t) d wf e = (
  t_var wf (entry_is n g t (sym e)),
  λ u x.
      let h = of_variable g n u d x in
      let same : Some h.entry ≡ Some t = sym (is_entry_at n g h.entry h.is_entry) ∙ sym e in
      let same_type : h.entry ≡ t = cc in
      subst (λ y. IsBelow y u d) same_type h.below,
)
variable_least g n None d wf e = λ u x.
    let h = of_variable g n u d x in
    let wrong : Some h.entry ≡ None = sym (is_entry_at n g h.entry h.is_entry) ∙ sym e in
    absurd (cc)

pub succ_least : (g : Context) (e : Term) (x o : Option Typ) (d : Dialect) → LeastIn g e x d → NatRule nat x o d → LeastIn g (succ e) o d
succ_least g e None o d least rule = subst (λ z. LeastIn g (succ e) z d) (sym rule) (λ u y. least nat (of_succ g e u d y).0)
succ_least g e (Some s) (Some t) d least rule =
    subst (λ z. LeastIn g (succ e) (Some z) d) (sym rule.0) (t_succ (t_sub least.0 rule.1), λ u y. (of_succ g e u d y).1)
succ_least g e (Some s) None d least rule = λ u y. rule (least.1 nat (of_succ g e u d y).0)

pub pred_least : (g : Context) (e : Term) (x o : Option Typ) (d : Dialect) → LeastIn g e x d → NatRule nat x o d → LeastIn g (pred e) o d
pred_least g e None o d least rule = subst (λ z. LeastIn g (pred e) z d) (sym rule) (λ u y. least nat (of_pred g e u d y).0)
pred_least g e (Some s) (Some t) d least rule =
    subst (λ z. LeastIn g (pred e) (Some z) d) (sym rule.0) (t_pred (t_sub least.0 rule.1), λ u y. (of_pred g e u d y).1)
pred_least g e (Some s) None d least rule = λ u y. rule (least.1 nat (of_pred g e u d y).0)

pub is_zero_least : (g : Context) (e : Term) (x o : Option Typ) (d : Dialect) → LeastIn g e x d → NatRule bool x o d → LeastIn g (is_zero e) o d
is_zero_least g e None o d least rule = subst (λ z. LeastIn g (is_zero e) z d) (sym rule) (λ u y. least nat (of_is_zero g e u d y).0)
is_zero_least g e (Some s) (Some t) d least rule =
    subst (λ z. LeastIn g (is_zero e) (Some z) d) (sym rule.0) (t_is_zero (t_sub least.0 rule.1), λ u y. (of_is_zero g e u d y).1)
is_zero_least g e (Some s) None d least rule = λ u y. rule (least.1 nat (of_is_zero g e u d y).0)

pub lambda_least : (g : Context) (w : Option Typ) (e : Term) (y o : Option Typ) (d : Dialect) → LeastIn (w ∷ g) e y d → LambdaRule w y o → LeastIn g (lambda w e) o d
lambda_least g (Some w) e (Some t) o d least rule = subst (λ z. LeastIn g (lambda (Some w) e) z d) (sym rule) (t_abs least.0, above)
  where
    above : (u : Typ) → Derives g (lambda (Some w) e) u d → IsBelow (arrow w t) u d
    above u x =
        let h = of_lambda g w e u d x in
        let wf = (derives_wf (Some w ∷ g) e t d least.0).0.0 in
        below_trans (arrow w t) (arrow w h.outcome) u d (below_arrow w t w h.outcome d (below_refl w d wf) (least.1 h.outcome h.body)) h.below
lambda_least g (Some w) e None o d least rule =
    subst (λ z. LeastIn g (lambda (Some w) e) z d) (sym rule) (λ u x. let h = of_lambda g w e u d x in least h.outcome h.body)
lambda_least g None e y o d least rule = subst (λ z. LeastIn g (lambda None e) z d) (sym rule) (λ u x. of_faulty_lambda g e u d x)

module _ (g : Context) (f a : Term) (d : Dialect) where
  apply_arrow : (p r s : Typ) (o : Option Typ) → LeastIn g f (Some (arrow p r)) d → LeastIn g a (Some s) d → ArrowRule (arrow p r) s o d → LeastIn g (apply f a) o d
  apply_arrow p r s (Some t) lf la rule = subst (λ z. LeastIn g (apply f a) (Some z) d) (sym rule.0) (t_app lf.0 (t_sub la.0 rule.1), above)
    where
      above : (u : Typ) → Derives g (apply f a) u d → IsBelow r u d
      above u x =
          let h = of_apply g f a u d x in
          below_trans r h.outcome u d (arrow_inside p r h.parameter h.outcome d (lf.1 (arrow h.parameter h.outcome) h.function)).1 h.below
  apply_arrow p r s None lf la rule = λ u x.
      let h = of_apply g f a u d x in
      rule (below_trans s h.parameter p d (la.1 h.parameter h.argument) (arrow_inside p r h.parameter h.outcome d (lf.1 (arrow h.parameter h.outcome) h.function)).0)

  apply_other : (q : Typ) (o : Option Typ) → ((p r : Typ) → q ≡ arrow p r → ⊥) → LeastIn g f (Some q) d → o ≡ None → LeastIn g (apply f a) o d
  apply_other q o other lf rule = subst (λ z. LeastIn g (apply f a) z d) (sym rule) (λ u x.
      let h = of_apply g f a u d x in
      let k = below_arrow_is q h.parameter h.outcome d (lf.1 (arrow h.parameter h.outcome) h.function) in
      other k.0 k.1 k.2)

  pub apply_least : (x y o : Option Typ) → LeastIn g f x d → LeastIn g a y d → ApplyRule x y o d → LeastIn g (apply f a) o d
  apply_least None y o lf la rule = subst (λ z. LeastIn g (apply f a) z d) (sym rule) (λ u x. let h = of_apply g f a u d x in lf (arrow h.parameter h.outcome) h.function)
  apply_least (Some q) None o lf la rule = subst (λ z. LeastIn g (apply f a) z d) (sym rule) (λ u x. let h = of_apply g f a u d x in la h.parameter h.argument)
  apply_least (Some (arrow p r)) (Some s) o lf la rule = apply_arrow p r s o lf la rule
  apply_least (Some bool) (Some s) o lf la rule = apply_other bool o (λ p r e. cc) lf rule
  apply_least (Some nat) (Some s) o lf la rule = apply_other nat o (λ p r e. cc) lf rule
  apply_least (Some unit) (Some s) o lf la rule = apply_other unit o (λ p r e. cc) lf rule
  apply_least (Some top) (Some s) o lf la rule = apply_other top o (λ p r e. cc) lf rule
  apply_least (Some (record_of fs)) (Some s) o lf la rule = apply_other (record_of fs) o (λ p r e. cc) lf rule

pub ascribe_least : (g : Context) (e : Term) (w x o : Option Typ) (d : Dialect) → LeastIn g e x d → AscribeRule w x o d → LeastIn g (ascribe e w) o d
ascribe_least g e (Some w) (Some s) (Some t) d least rule =
    subst (λ z. LeastIn g (ascribe e (Some w)) (Some z) d) (sym rule.0) (t_ascribe (t_sub least.0 rule.1), λ u y. (of_ascribe g e w u d y).1)
ascribe_least g e (Some w) (Some s) None d least rule = λ u y. rule (least.1 w (of_ascribe g e w u d y).0)
ascribe_least g e (Some w) None o d least rule = subst (λ z. LeastIn g (ascribe e (Some w)) z d) (sym rule) (λ u y. least w (of_ascribe g e w u d y).0)
ascribe_least g e None x o d least rule = subst (λ z. LeastIn g (ascribe e None) z d) (sym rule) (λ u y. of_faulty_ascribe g e u d y)

pub let_least : (g : Context) (a b : Term) (x y o : Option Typ) (d : Dialect)
    → IsWellFormedContext g → LeastIn g a x d → LeastIn (x ∷ g) b y d → LetRule x y o → LeastIn g (let_in a b) o d
let_least g a b None y o d wf la lb rule = subst (λ z. LeastIn g (let_in a b) z d) (sym rule) (λ u x. let h = of_let g a b u d x in la h.type_of_bound h.bound)
let_least g a b (Some s) (Some t) o d wf la lb rule = subst (λ z. LeastIn g (let_in a b) z d) (sym rule) (t_let la.0 lb.0, above)
  where
    above : (u : Typ) → Derives g (let_in a b) u d → IsBelow t u d
    above u x =
        let h = of_let g a b u d x in
        lb.1 u (narrow (Some s ∷ g) (Some h.type_of_bound ∷ g) b u d ((derives_wf g a s d la.0).1, wf) (la.1 h.type_of_bound h.bound, narrower_self g d wf) h.body)
let_least g a b (Some s) None o d wf la lb rule = subst (λ z. LeastIn g (let_in a b) z d) (sym rule) (λ u x.
    let h = of_let g a b u d x in
    lb u (narrow (Some s ∷ g) (Some h.type_of_bound ∷ g) b u d ((derives_wf g a s d la.0).1, wf) (la.1 h.type_of_bound h.bound, narrower_self g d wf) h.body))

pub if_least : (g : Context) (e1 e2 e3 : Term) (x y z o : Option Typ) (d : Dialect)
    → LeastIn g e1 x d → LeastIn g e2 y d → LeastIn g e3 z d → IfRule x y z o d → LeastIn g (if_then_else e1 e2 e3) o d
if_least g e1 e2 e3 None y z o d l1 l2 l3 rule = subst (λ v. LeastIn g (if_then_else e1 e2 e3) v d) (sym rule) (λ u x. l1 bool (of_if g e1 e2 e3 u d x).condition)
if_least g e1 e2 e3 (Some c) None z o d l1 l2 l3 rule = subst (λ v. LeastIn g (if_then_else e1 e2 e3) v d) (sym rule) (λ u x. l2 u (of_if g e1 e2 e3 u d x).then_term)
if_least g e1 e2 e3 (Some c) (Some a) None o d l1 l2 l3 rule = subst (λ v. LeastIn g (if_then_else e1 e2 e3) v d) (sym rule) (λ u x. l3 u (of_if g e1 e2 e3 u d x).else_term)
if_least g e1 e2 e3 (Some c) (Some a) (Some b) (Some j) d l1 l2 l3 rule = (
  t_if (t_sub l1.0 rule.0) (t_sub l2.0 rule.1.left) (t_sub l3.0 rule.1.right),
  λ u x. let h = of_if g e1 e2 e3 u d x in rule.1.least u (l2.1 u h.then_term) (l3.1 u h.else_term),
)
if_least g e1 e2 e3 (Some c) (Some a) (Some b) None d l1 l2 l3 rule = λ u x. rule (l1.1 bool (of_if g e1 e2 e3 u d x).condition)

fix_other : (g : Context) (e : Term) (q : Typ) (o : Option Typ) (d : Dialect) → ((p r : Typ) → q ≡ arrow p r → ⊥) → LeastIn g e (Some q) d → o ≡ None → LeastIn g (fix e) o d
fix_other g e q o d other least rule = subst (λ z. LeastIn g (fix e) z d) (sym rule) (λ u x.
    let h = of_fix g e u d x in
    let k = below_arrow_is q h.fixed h.fixed d (least.1 (arrow h.fixed h.fixed) h.operand) in
    other k.0 k.1 k.2)

pub fix_least : (g : Context) (e : Term) (x o : Option Typ) (d : Dialect) → LeastIn g e x d → FixRule x o d → LeastIn g (fix e) o d
fix_least g e None o d least rule = subst (λ z. LeastIn g (fix e) z d) (sym rule) (λ u x. let h = of_fix g e u d x in least (arrow h.fixed h.fixed) h.operand)
fix_least g e (Some (arrow p r)) (Some t) d least rule = subst (λ z. LeastIn g (fix e) (Some z) d) (sym rule.0) (t_fix (t_sub least.0 lower), above)
  where
    lower : IsBelow (arrow p r) (arrow r r) d
    lower = below_arrow p r r r d rule.1 (below_refl r d (below_wf r p d rule.1).0)

    above : (u : Typ) → Derives g (fix e) u d → IsBelow r u d
    above u x =
        let h = of_fix g e u d x in
        below_trans r h.fixed u d (arrow_inside p r h.fixed h.fixed d (least.1 (arrow h.fixed h.fixed) h.operand)).1 h.below
fix_least g e (Some (arrow p r)) None d least rule = λ u x.
    let h = of_fix g e u d x in
    let k = arrow_inside p r h.fixed h.fixed d (least.1 (arrow h.fixed h.fixed) h.operand) in
    rule (below_trans r h.fixed p d k.1 k.0)
fix_least g e (Some bool) o d least rule = fix_other g e bool o d (λ p r e. cc) least rule
fix_least g e (Some nat) o d least rule = fix_other g e nat o d (λ p r e. cc) least rule
fix_least g e (Some unit) o d least rule = fix_other g e unit o d (λ p r e. cc) least rule
fix_least g e (Some top) o d least rule = fix_other g e top o d (λ p r e. cc) least rule
fix_least g e (Some (record_of fs)) o d least rule = fix_other g e (record_of fs) o d (λ p r e. cc) least rule

project_other : (g : Context) (e : Term) (l : Label) (q : Typ) (o : Option Typ) (d : Dialect)
    → ((fs : Fields) → q ≡ record_of fs → ⊥) → LeastIn g e (Some q) d → o ≡ None → LeastIn g (project e l) o d
project_other g e l q o d other least rule = subst (λ z. LeastIn g (project e l) z d) (sym rule) (λ u x.
    let h = of_project g e l u d x in
    let k = below_record_is q h.fields d (least.1 (record_of h.fields) h.operand) in
    other k.0 k.1)

pub project_least : (g : Context) (e : Term) (l : Label) (x o : Option Typ) (d : Dialect) → LeastIn g e x d → ProjectRule l x o → LeastIn g (project e l) o d
project_least g e l None o d least rule = subst (λ z. LeastIn g (project e l) z d) (sym rule) (λ u x. let h = of_project g e l u d x in least (record_of h.fields) h.operand)
project_least g e l (Some (record_of fs)) (Some t) d least rule = (t_proj least.0 rule, above)
  where
    above : (u : Typ) → Derives g (project e l) u d → IsBelow t u d
    above u x =
        let h = of_project g e l u d x in
        let k = field_below fs h.fields d (record_inside fs h.fields d (least.1 (record_of h.fields) h.operand)) l h.type_of_field h.has in
        let same = one_type fs (derives_wf g e (record_of fs) d least.0).1 l k.0 t k.1 rule in
        below_trans t h.type_of_field u d (subst (λ z. IsBelow z h.type_of_field d) same k.2) h.below
project_least g e l (Some (record_of fs)) None d least rule = λ u x.
    let h = of_project g e l u d x in
    let k = field_below fs h.fields d (record_inside fs h.fields d (least.1 (record_of h.fields) h.operand)) l h.type_of_field h.has in
    absent_not l fs k.0 rule k.1
project_least g e l (Some bool) o d least rule = project_other g e l bool o d (λ fs e. cc) least rule
project_least g e l (Some nat) o d least rule = project_other g e l nat o d (λ fs e. cc) least rule
project_least g e l (Some unit) o d least rule = project_other g e l unit o d (λ fs e. cc) least rule
project_least g e l (Some top) o d least rule = project_other g e l top o d (λ fs e. cc) least rule
project_least g e l (Some (arrow p r)) o d least rule = project_other g e l (arrow p r) o d (λ fs e. cc) least rule

-- the least types of the fields of a record, label by label; none where some field has no type
abbrev pub LeastFields : Context → TermFields → Option Fields → Dialect → Type 0
LeastFields g es (Some fs) d = FieldsDerive g es fs d × ((gs : Fields) → FieldsDerive g es gs d → EachBelow fs gs d)
LeastFields g es None d = (gs : Fields) → FieldsDerive g es gs d → ⊥

pub none_least : (g : Context) (d : Dialect) → IsWellFormedContext g → LeastFields g no_terms (Some no_fields) d
none_least g d wf = (none_derive wf, λ gs x. subst (λ z. EachBelow no_fields z d) (sym (of_no_more g gs d x)) tt)

pub more_least : (g : Context) (l : Label) (e : Term) (es : TermFields) (x : Option Typ) (y o : Option Fields) (d : Dialect)
    → LeastIn g e x d → LeastFields g es y d → MoreRule l x y o → LeastFields g (term_field l e es) o d
more_least g l e es None y o d le les rule =
    subst (λ z. LeastFields g (term_field l e es) z d) (sym rule) (λ gs h. let k = of_more g l e es gs d h in le k.0 k.3)
more_least g l e es (Some t) None o d le les rule =
    subst (λ z. LeastFields g (term_field l e es) z d) (sym rule) (λ gs h. let k = of_more g l e es gs d h in les k.1 k.4)
more_least g l e es (Some t) (Some fs) o d le les rule =
    subst (λ z. LeastFields g (term_field l e es) z d) (sym rule) (more_derive le.0 les.0, above)
  where
    above : (gs : Fields) → FieldsDerive g (term_field l e es) gs d → EachBelow (field l t fs) gs d
    above gs h =
        let k = of_more g l e es gs d h in
        subst (λ z. EachBelow (field l t fs) z d) (sym k.2) (refl, le.1 k.0 k.3, les.1 k.1 k.4)

-- fields that match others label by label have distinct labels if those have
absent_each : (l : Label) (fs gs : Fields) (d : Dialect) → EachBelow fs gs d → IsAbsent l gs → IsAbsent l fs
absent_each l no_fields no_fields d each absent = tt
absent_each l (field k s fs) (field j t gs) d each absent = (λ e. absent.0 (e ∙ each.0), absent_each l fs gs d each.2 absent.1)
absent_each l no_fields (field j t gs) d each absent = absurd each
absent_each l (field k s fs) no_fields d each absent = absurd each

pub wf_each : (fs gs : Fields) (d : Dialect) → EachBelow fs gs d → AreWellFormed gs → AreWellFormed fs
wf_each no_fields no_fields d each wf = tt
wf_each (field k s fs) (field j t gs) d each wf =
    ((below_wf s t d each.1).0, absent_each k fs gs d each.2 (subst (λ x. IsAbsent x gs) (sym each.0) wf.1), wf_each fs gs d each.2 wf.2)
wf_each no_fields (field j t gs) d each wf = absurd each
wf_each (field k s fs) no_fields d each wf = absurd each

pub record_least : (g : Context) (es : TermFields) (y : Option Fields) (o : Option Typ) (d : Dialect) → LeastFields g es y d → RecordRule y o → LeastIn g (record_term es) o d
record_least g es None o d least rule = subst (λ z. LeastIn g (record_term es) z d) (sym rule) (λ u x. let h = of_record g es u d x in least h.fields h.derive)
record_least g es (Some fs) (Some t) d least rule = subst (λ z. LeastIn g (record_term es) (Some z) d) (sym rule.0) (t_rcd least.0 rule.1, above)
  where
    above : (u : Typ) → Derives g (record_term es) u d → IsBelow (record_of fs) u d
    above u x =
        let h = of_record g es u d x in
        below_trans (record_of fs) (record_of h.fields) u d (below_depth fs h.fields d rule.1 h.wf (least.1 h.fields h.derive)) h.below
record_least g es (Some fs) None d least rule = λ u x.
    let h = of_record g es u d x in
    rule (wf_each fs h.fields d (least.1 h.fields h.derive) h.wf)
