-- How terms over the numbers of a table are seen as trees: the tree at each variant, what it is over a table, and where its numbers stand.
use Rattle.std.proofs.Common.{◌≡◌, ℕ, ◌+◌, ◌<◌, List, [], ◌∷◌, map, Option, Box, Vec, length, drop, get_or, drop-cons, add-one, suc, ap, sym, ◌∙◌, refl, Bor}
use Rattle.std.specs.declared.alloc.Global.{Global}
use Rattle.lam_rules.specs.Types.{Label, Typ}
use Rattle.lam_rules.specs.Terms as rules
use Rattle.lam_rules.specs.declared.numbers.TyNo.{TyNo}
use Rattle.lam_scope.specs.Numbered.{Numbered, true_term, false_term, if_then_else, numeral, succ, pred, is_zero, variable, free, lambda, apply, unit_term, ascribe, let_in, record_term, project, fix, term_field, term_over, written_over}
use Rattle.lam_scope.specs.InternedViews.{numbered_made, numbered_step, numbered_field_step, numbered_of, numbered_terms, interned_term, interned_terms}
use Rattle.lam_scope.specs.declared.interned.InternedTerm.{InternedTerm, fold-roll-InternedTerm}
use Rattle.lam_scope.specs.declared.interned.InternedTerm.TheOpen.{InternedTerm-F}
use Rattle.lam_scope.specs.declared.interned.InternedTerm.TheVariants.{True, False, If, Num, Succ, Pred, IsZero, Var, Free, Abs, App, Unit as UnitTerm, Ascribe, Let, Record, Proj, Fix, rolls-True, rolls-False, rolls-If, rolls-Num, rolls-Succ, rolls-Pred, rolls-IsZero, rolls-Var, rolls-Free, rolls-Abs, rolls-App, rolls-Unit, rolls-Ascribe, rolls-Let, rolls-Record, rolls-Proj, rolls-Fix}
use Rattle.lam_scope.specs.declared.interned.InternedField.{InternedField, fold-InternedField, fold_out-InternedField}

field-fold : (f : InternedField) → fold-InternedField Numbered (Label × Numbered) numbered_step numbered_field_step f ≡ (f.label.now, numbered_of f.term)
unfolding numbered_of
field-fold f = fold_out-InternedField Numbered (Label × Numbered) numbered_step numbered_field_step f

fields-fold : (fs : List InternedField) → numbered_made (map (fold-InternedField Numbered (Label × Numbered) numbered_step numbered_field_step) fs) ≡ numbered_terms fs
fields-fold [] = refl
fields-fold (f ∷ fs) = (λ i. term_field ((field-fold f i).0) ((field-fold f i).1) (fields-fold fs i))

-- the tree of each variant

pub numbered_of-True : numbered_of True ≡ true_term
unfolding numbered_of
numbered_of-True = ap numbered_of (sym rolls-True) ∙ fold-roll-InternedTerm Numbered (Label × Numbered) numbered_step numbered_field_step InternedTerm-F.True

pub numbered_of-False : numbered_of False ≡ false_term
unfolding numbered_of
numbered_of-False = ap numbered_of (sym rolls-False) ∙ fold-roll-InternedTerm Numbered (Label × Numbered) numbered_step numbered_field_step InternedTerm-F.False

pub numbered_of-If : (p : Box (InternedTerm × InternedTerm × InternedTerm) Global) → numbered_of (If p) ≡ if_then_else (numbered_of p.value.0) (numbered_of p.value.1) (numbered_of p.value.2)
unfolding numbered_of
numbered_of-If p = ap numbered_of (sym (rolls-If p)) ∙ fold-roll-InternedTerm Numbered (Label × Numbered) numbered_step numbered_field_step (InternedTerm-F.If p)

pub numbered_of-Num : (s : Bor (List ℕ)) → numbered_of (Num s) ≡ numeral s.now
unfolding numbered_of
numbered_of-Num s = ap numbered_of (sym (rolls-Num s)) ∙ fold-roll-InternedTerm Numbered (Label × Numbered) numbered_step numbered_field_step (InternedTerm-F.Num s)

pub numbered_of-Succ : (e : Box InternedTerm Global) → numbered_of (Succ e) ≡ succ (numbered_of e.value)
unfolding numbered_of
numbered_of-Succ e = ap numbered_of (sym (rolls-Succ e)) ∙ fold-roll-InternedTerm Numbered (Label × Numbered) numbered_step numbered_field_step (InternedTerm-F.Succ e)

pub numbered_of-Pred : (e : Box InternedTerm Global) → numbered_of (Pred e) ≡ pred (numbered_of e.value)
unfolding numbered_of
numbered_of-Pred e = ap numbered_of (sym (rolls-Pred e)) ∙ fold-roll-InternedTerm Numbered (Label × Numbered) numbered_step numbered_field_step (InternedTerm-F.Pred e)

pub numbered_of-IsZero : (e : Box InternedTerm Global) → numbered_of (IsZero e) ≡ is_zero (numbered_of e.value)
unfolding numbered_of
numbered_of-IsZero e = ap numbered_of (sym (rolls-IsZero e)) ∙ fold-roll-InternedTerm Numbered (Label × Numbered) numbered_step numbered_field_step (InternedTerm-F.IsZero e)

pub numbered_of-Var : (n : ℕ) → numbered_of (Var n) ≡ variable n
unfolding numbered_of
numbered_of-Var n = ap numbered_of (sym (rolls-Var n)) ∙ fold-roll-InternedTerm Numbered (Label × Numbered) numbered_step numbered_field_step (InternedTerm-F.Var n)

pub numbered_of-Free : (s : Bor (List ℕ)) → numbered_of (Free s) ≡ free s.now
unfolding numbered_of
numbered_of-Free s = ap numbered_of (sym (rolls-Free s)) ∙ fold-roll-InternedTerm Numbered (Label × Numbered) numbered_step numbered_field_step (InternedTerm-F.Free s)

pub numbered_of-Abs : (w : Option TyNo) (e : Box InternedTerm Global) → numbered_of (Abs w e) ≡ lambda w (numbered_of e.value)
unfolding numbered_of
numbered_of-Abs w e = ap numbered_of (sym (rolls-Abs w e)) ∙ fold-roll-InternedTerm Numbered (Label × Numbered) numbered_step numbered_field_step (InternedTerm-F.Abs w e)

pub numbered_of-App : (p : Box (InternedTerm × InternedTerm) Global) → numbered_of (App p) ≡ apply (numbered_of p.value.0) (numbered_of p.value.1)
unfolding numbered_of
numbered_of-App p = ap numbered_of (sym (rolls-App p)) ∙ fold-roll-InternedTerm Numbered (Label × Numbered) numbered_step numbered_field_step (InternedTerm-F.App p)

pub numbered_of-Unit : numbered_of UnitTerm ≡ unit_term
unfolding numbered_of
numbered_of-Unit = ap numbered_of (sym rolls-Unit) ∙ fold-roll-InternedTerm Numbered (Label × Numbered) numbered_step numbered_field_step InternedTerm-F.Unit

pub numbered_of-Ascribe : (e : Box InternedTerm Global) (w : Option TyNo) → numbered_of (Ascribe e w) ≡ ascribe (numbered_of e.value) w
unfolding numbered_of
numbered_of-Ascribe e w = ap numbered_of (sym (rolls-Ascribe e w)) ∙ fold-roll-InternedTerm Numbered (Label × Numbered) numbered_step numbered_field_step (InternedTerm-F.Ascribe e w)

pub numbered_of-Let : (p : Box (InternedTerm × InternedTerm) Global) → numbered_of (Let p) ≡ let_in (numbered_of p.value.0) (numbered_of p.value.1)
unfolding numbered_of
numbered_of-Let p = ap numbered_of (sym (rolls-Let p)) ∙ fold-roll-InternedTerm Numbered (Label × Numbered) numbered_step numbered_field_step (InternedTerm-F.Let p)

pub numbered_of-Record : (fs : Vec InternedField Global) → numbered_of (Record fs) ≡ record_term (numbered_terms fs.items)
unfolding numbered_of
numbered_of-Record fs = ap numbered_of (sym (rolls-Record fs)) ∙ fold-roll-InternedTerm Numbered (Label × Numbered) numbered_step numbered_field_step (InternedTerm-F.Record fs) ∙ ap record_term (fields-fold fs.items)

pub numbered_of-Proj : (e : Box InternedTerm Global) (l : Bor (List ℕ)) → numbered_of (Proj e l) ≡ project (numbered_of e.value) l.now
unfolding numbered_of
numbered_of-Proj e l = ap numbered_of (sym (rolls-Proj e l)) ∙ fold-roll-InternedTerm Numbered (Label × Numbered) numbered_step numbered_field_step (InternedTerm-F.Proj e l)

pub numbered_of-Fix : (e : Box InternedTerm Global) → numbered_of (Fix e) ≡ fix (numbered_of e.value)
unfolding numbered_of
numbered_of-Fix e = ap numbered_of (sym (rolls-Fix e)) ∙ fold-roll-InternedTerm Numbered (Label × Numbered) numbered_step numbered_field_step (InternedTerm-F.Fix e)

-- the term over the types of a table

pub interned_term-True : (ts : List Typ) → interned_term ts True ≡ rules.true_term
interned_term-True ts = ap (term_over ts) numbered_of-True

pub interned_term-False : (ts : List Typ) → interned_term ts False ≡ rules.false_term
interned_term-False ts = ap (term_over ts) numbered_of-False

pub interned_term-If : (ts : List Typ) (p : Box (InternedTerm × InternedTerm × InternedTerm) Global) → interned_term ts (If p) ≡ rules.if_then_else (interned_term ts p.value.0) (interned_term ts p.value.1) (interned_term ts p.value.2)
interned_term-If ts p = ap (term_over ts) (numbered_of-If p)

pub interned_term-Num : (ts : List Typ) (s : Bor (List ℕ)) → interned_term ts (Num s) ≡ rules.numeral s.now
interned_term-Num ts s = ap (term_over ts) (numbered_of-Num s)

pub interned_term-Succ : (ts : List Typ) (e : Box InternedTerm Global) → interned_term ts (Succ e) ≡ rules.succ (interned_term ts e.value)
interned_term-Succ ts e = ap (term_over ts) (numbered_of-Succ e)

pub interned_term-Pred : (ts : List Typ) (e : Box InternedTerm Global) → interned_term ts (Pred e) ≡ rules.pred (interned_term ts e.value)
interned_term-Pred ts e = ap (term_over ts) (numbered_of-Pred e)

pub interned_term-IsZero : (ts : List Typ) (e : Box InternedTerm Global) → interned_term ts (IsZero e) ≡ rules.is_zero (interned_term ts e.value)
interned_term-IsZero ts e = ap (term_over ts) (numbered_of-IsZero e)

pub interned_term-Var : (ts : List Typ) (n : ℕ) → interned_term ts (Var n) ≡ rules.variable n
interned_term-Var ts n = ap (term_over ts) (numbered_of-Var n)

pub interned_term-Free : (ts : List Typ) (s : Bor (List ℕ)) → interned_term ts (Free s) ≡ rules.free s.now
interned_term-Free ts s = ap (term_over ts) (numbered_of-Free s)

pub interned_term-Abs : (ts : List Typ) (w : Option TyNo) (e : Box InternedTerm Global) → interned_term ts (Abs w e) ≡ rules.lambda (written_over ts w) (interned_term ts e.value)
interned_term-Abs ts w e = ap (term_over ts) (numbered_of-Abs w e)

pub interned_term-App : (ts : List Typ) (p : Box (InternedTerm × InternedTerm) Global) → interned_term ts (App p) ≡ rules.apply (interned_term ts p.value.0) (interned_term ts p.value.1)
interned_term-App ts p = ap (term_over ts) (numbered_of-App p)

pub interned_term-Unit : (ts : List Typ) → interned_term ts UnitTerm ≡ rules.unit_term
interned_term-Unit ts = ap (term_over ts) numbered_of-Unit

pub interned_term-Ascribe : (ts : List Typ) (e : Box InternedTerm Global) (w : Option TyNo) → interned_term ts (Ascribe e w) ≡ rules.ascribe (interned_term ts e.value) (written_over ts w)
interned_term-Ascribe ts e w = ap (term_over ts) (numbered_of-Ascribe e w)

pub interned_term-Let : (ts : List Typ) (p : Box (InternedTerm × InternedTerm) Global) → interned_term ts (Let p) ≡ rules.let_in (interned_term ts p.value.0) (interned_term ts p.value.1)
interned_term-Let ts p = ap (term_over ts) (numbered_of-Let p)

pub interned_term-Record : (ts : List Typ) (fs : Vec InternedField Global) → interned_term ts (Record fs) ≡ rules.record_term (interned_terms ts fs.items)
interned_term-Record ts fs = ap (term_over ts) (numbered_of-Record fs)

pub interned_term-Proj : (ts : List Typ) (e : Box InternedTerm Global) (l : Bor (List ℕ)) → interned_term ts (Proj e l) ≡ rules.project (interned_term ts e.value) l.now
interned_term-Proj ts e l = ap (term_over ts) (numbered_of-Proj e l)

pub interned_term-Fix : (ts : List Typ) (e : Box InternedTerm Global) → interned_term ts (Fix e) ≡ rules.fix (interned_term ts e.value)
interned_term-Fix ts e = ap (term_over ts) (numbered_of-Fix e)

-- where the numbers stand

-- lists of labeled terms

pub numbered_terms-drop : (fs : List InternedField) (i : ℕ) (f : InternedField) → i < length fs → f ≡ get_or fs i f
    → numbered_terms (drop i fs) ≡ term_field f.label.now (numbered_of f.term) (numbered_terms (drop (i + 1) fs))
numbered_terms-drop fs i f lt is =
    rw add-one (rw (drop-cons fs i f lt) (ap (λ g. term_field g.label.now (numbered_of g.term) (numbered_terms (drop (suc i) fs))) (sym is)))

pub ruleset numbered_shapes = (numbered_of-True, numbered_of-False, numbered_of-If, numbered_of-Num, numbered_of-Succ, numbered_of-Pred, numbered_of-IsZero, numbered_of-Var, numbered_of-Free, numbered_of-Abs, numbered_of-App, numbered_of-Unit, numbered_of-Ascribe, numbered_of-Let, numbered_of-Record, numbered_of-Proj, numbered_of-Fix, numbered_terms-drop)

pub ruleset interned_shapes = (interned_term-True, interned_term-False, interned_term-If, interned_term-Num, interned_term-Succ, interned_term-Pred, interned_term-IsZero, interned_term-Var, interned_term-Free, interned_term-Abs, interned_term-App, interned_term-Unit, interned_term-Ascribe, interned_term-Let, interned_term-Record, interned_term-Proj, interned_term-Fix)
