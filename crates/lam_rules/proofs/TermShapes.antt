-- How terms are seen as trees: the tree at each variant, and of lists of labeled terms.
use Rattle.std.proofs.Common.{◌≡◌, ℕ, ◌+◌, ◌<◌, List, [], ◌∷◌, map, Option, String, string_bytes, Box, Vec, length, drop, get_or, drop-cons, add-one, suc, ap, sym, ◌∙◌, refl, subst}
use Rattle.std.specs.declared.alloc.Global.{Global}
use Rattle.lam_rules.specs.Terms.{Term, true_term, false_term, if_then_else, numeral, succ, pred, is_zero, variable, free, lambda, apply, unit_term, ascribe, let_in, record_term, project, fix, term_field}
use Rattle.lam_rules.specs.TermViews.{written_of, terms_made, term_step, term_of, terms_of}
use Rattle.lam_rules.specs.declared.types.Ty.{Ty}
use Rattle.lam_rules.specs.declared.terms.Core.{Core, fold-roll-Core, out-Core, roll-Core, roll-out-Core}
use Rattle.lam_rules.specs.declared.terms.Core.TheOpen.{Core-F}
use Rattle.lam_rules.specs.declared.terms.Core.TheVariants.{True, False, If, Num, Succ, Pred, IsZero, Var, Free, Abs, App, Unit as UnitTerm, Ascribe, Let, Record, Proj, Fix, rolls-True, rolls-False, rolls-If, rolls-Num, rolls-Succ, rolls-Pred, rolls-IsZero, rolls-Var, rolls-Free, rolls-Abs, rolls-App, rolls-Unit, rolls-Ascribe, rolls-Let, rolls-Record, rolls-Proj, rolls-Fix}

terms_made-map : (fs : List (String Global × Core)) → terms_made (map (λ f. (f.0, term_of f.1)) fs) ≡ terms_of fs
terms_made-map [] = refl
terms_made-map (f ∷ fs) = ap (λ rest. term_field (string_bytes f.0) (term_of f.1) rest) (terms_made-map fs)

-- the tree of each variant

pub term_of-True : term_of True ≡ true_term
unfolding term_of
term_of-True = ap term_of (sym rolls-True) ∙ fold-roll-Core Term term_step Core-F.True

pub term_of-False : term_of False ≡ false_term
unfolding term_of
term_of-False = ap term_of (sym rolls-False) ∙ fold-roll-Core Term term_step Core-F.False

pub term_of-If : (p : Box (Core × Core × Core) Global) → term_of (If p) ≡ if_then_else (term_of p.value.0) (term_of p.value.1) (term_of p.value.2)
unfolding term_of
term_of-If p = ap term_of (sym (rolls-If p)) ∙ fold-roll-Core Term term_step (Core-F.If p)

pub term_of-Num : (s : String Global) → term_of (Num s) ≡ numeral (string_bytes s)
unfolding term_of
term_of-Num s = ap term_of (sym (rolls-Num s)) ∙ fold-roll-Core Term term_step (Core-F.Num s)

pub term_of-Succ : (e : Box Core Global) → term_of (Succ e) ≡ succ (term_of e.value)
unfolding term_of
term_of-Succ e = ap term_of (sym (rolls-Succ e)) ∙ fold-roll-Core Term term_step (Core-F.Succ e)

pub term_of-Pred : (e : Box Core Global) → term_of (Pred e) ≡ pred (term_of e.value)
unfolding term_of
term_of-Pred e = ap term_of (sym (rolls-Pred e)) ∙ fold-roll-Core Term term_step (Core-F.Pred e)

pub term_of-IsZero : (e : Box Core Global) → term_of (IsZero e) ≡ is_zero (term_of e.value)
unfolding term_of
term_of-IsZero e = ap term_of (sym (rolls-IsZero e)) ∙ fold-roll-Core Term term_step (Core-F.IsZero e)

pub term_of-Var : (n : ℕ) → term_of (Var n) ≡ variable n
unfolding term_of
term_of-Var n = ap term_of (sym (rolls-Var n)) ∙ fold-roll-Core Term term_step (Core-F.Var n)

pub term_of-Free : (s : String Global) → term_of (Free s) ≡ free (string_bytes s)
unfolding term_of
term_of-Free s = ap term_of (sym (rolls-Free s)) ∙ fold-roll-Core Term term_step (Core-F.Free s)

pub term_of-Abs : (p : Box (Option Ty × Core) Global) → term_of (Abs p) ≡ lambda (written_of p.value.0) (term_of p.value.1)
unfolding term_of
term_of-Abs p = ap term_of (sym (rolls-Abs p)) ∙ fold-roll-Core Term term_step (Core-F.Abs p)

pub term_of-App : (p : Box (Core × Core) Global) → term_of (App p) ≡ apply (term_of p.value.0) (term_of p.value.1)
unfolding term_of
term_of-App p = ap term_of (sym (rolls-App p)) ∙ fold-roll-Core Term term_step (Core-F.App p)

pub term_of-Unit : term_of UnitTerm ≡ unit_term
unfolding term_of
term_of-Unit = ap term_of (sym rolls-Unit) ∙ fold-roll-Core Term term_step Core-F.Unit

pub term_of-Ascribe : (p : Box (Core × Option Ty) Global) → term_of (Ascribe p) ≡ ascribe (term_of p.value.0) (written_of p.value.1)
unfolding term_of
term_of-Ascribe p = ap term_of (sym (rolls-Ascribe p)) ∙ fold-roll-Core Term term_step (Core-F.Ascribe p)

pub term_of-Let : (p : Box (Core × Core) Global) → term_of (Let p) ≡ let_in (term_of p.value.0) (term_of p.value.1)
unfolding term_of
term_of-Let p = ap term_of (sym (rolls-Let p)) ∙ fold-roll-Core Term term_step (Core-F.Let p)

pub term_of-Record : (fs : Vec (String Global × Core) Global) → term_of (Record fs) ≡ record_term (terms_of fs.items)
unfolding term_of
term_of-Record fs = ap term_of (sym (rolls-Record fs)) ∙ fold-roll-Core Term term_step (Core-F.Record fs) ∙ ap record_term (terms_made-map fs.items)

pub term_of-Proj : (p : Box (Core × String Global) Global) → term_of (Proj p) ≡ project (term_of p.value.0) (string_bytes p.value.1)
unfolding term_of
term_of-Proj p = ap term_of (sym (rolls-Proj p)) ∙ fold-roll-Core Term term_step (Core-F.Proj p)

pub term_of-Fix : (e : Box Core Global) → term_of (Fix e) ≡ fix (term_of e.value)
unfolding term_of
term_of-Fix e = ap term_of (sym (rolls-Fix e)) ∙ fold-roll-Core Term term_step (Core-F.Fix e)

-- a term beside its tree, variant by variant
pub data Seen : Core → Term → Type 0 where
  seen_True : Seen True true_term
  seen_False : Seen False false_term
  seen_If : (p : Box (Core × Core × Core) Global) → Seen (If p) (if_then_else (term_of p.value.0) (term_of p.value.1) (term_of p.value.2))
  seen_Num : (s : String Global) → Seen (Num s) (numeral (string_bytes s))
  seen_Succ : (e : Box Core Global) → Seen (Succ e) (succ (term_of e.value))
  seen_Pred : (e : Box Core Global) → Seen (Pred e) (pred (term_of e.value))
  seen_IsZero : (e : Box Core Global) → Seen (IsZero e) (is_zero (term_of e.value))
  seen_Var : (n : ℕ) → Seen (Var n) (variable n)
  seen_Free : (s : String Global) → Seen (Free s) (free (string_bytes s))
  seen_Abs : (p : Box (Option Ty × Core) Global) → Seen (Abs p) (lambda (written_of p.value.0) (term_of p.value.1))
  seen_App : (p : Box (Core × Core) Global) → Seen (App p) (apply (term_of p.value.0) (term_of p.value.1))
  seen_Unit : Seen UnitTerm unit_term
  seen_Ascribe : (p : Box (Core × Option Ty) Global) → Seen (Ascribe p) (ascribe (term_of p.value.0) (written_of p.value.1))
  seen_Let : (p : Box (Core × Core) Global) → Seen (Let p) (let_in (term_of p.value.0) (term_of p.value.1))
  seen_Record : (fs : Vec (String Global × Core) Global) → Seen (Record fs) (record_term (terms_of fs.items))
  seen_Proj : (p : Box (Core × String Global) Global) → Seen (Proj p) (project (term_of p.value.0) (string_bytes p.value.1))
  seen_Fix : (e : Box Core Global) → Seen (Fix e) (fix (term_of e.value))

pub seen : (e : Core) → Seen e (term_of e)
seen e = subst (λ e. Seen e (term_of e)) (roll-out-Core e) (rolled (out-Core e))
  where
    rolled : (o : Core-F Core) → Seen (roll-Core o) (term_of (roll-Core o))
    rolled Core-F.True = subst (λ e. Seen e (term_of e)) (sym rolls-True) (subst (λ u. Seen True u) (sym term_of-True) seen_True)
    rolled Core-F.False = subst (λ e. Seen e (term_of e)) (sym rolls-False) (subst (λ u. Seen False u) (sym term_of-False) seen_False)
    rolled (Core-F.If p) = subst (λ e. Seen e (term_of e)) (sym (rolls-If p)) (subst (λ u. Seen (If p) u) (sym (term_of-If p)) (seen_If p))
    rolled (Core-F.Num s) = subst (λ e. Seen e (term_of e)) (sym (rolls-Num s)) (subst (λ u. Seen (Num s) u) (sym (term_of-Num s)) (seen_Num s))
    rolled (Core-F.Succ e) = subst (λ e. Seen e (term_of e)) (sym (rolls-Succ e)) (subst (λ u. Seen (Succ e) u) (sym (term_of-Succ e)) (seen_Succ e))
    rolled (Core-F.Pred e) = subst (λ e. Seen e (term_of e)) (sym (rolls-Pred e)) (subst (λ u. Seen (Pred e) u) (sym (term_of-Pred e)) (seen_Pred e))
    rolled (Core-F.IsZero e) = subst (λ e. Seen e (term_of e)) (sym (rolls-IsZero e)) (subst (λ u. Seen (IsZero e) u) (sym (term_of-IsZero e)) (seen_IsZero e))
    rolled (Core-F.Var n) = subst (λ e. Seen e (term_of e)) (sym (rolls-Var n)) (subst (λ u. Seen (Var n) u) (sym (term_of-Var n)) (seen_Var n))
    rolled (Core-F.Free s) = subst (λ e. Seen e (term_of e)) (sym (rolls-Free s)) (subst (λ u. Seen (Free s) u) (sym (term_of-Free s)) (seen_Free s))
    rolled (Core-F.Abs p) = subst (λ e. Seen e (term_of e)) (sym (rolls-Abs p)) (subst (λ u. Seen (Abs p) u) (sym (term_of-Abs p)) (seen_Abs p))
    rolled (Core-F.App p) = subst (λ e. Seen e (term_of e)) (sym (rolls-App p)) (subst (λ u. Seen (App p) u) (sym (term_of-App p)) (seen_App p))
    rolled Core-F.Unit = subst (λ e. Seen e (term_of e)) (sym rolls-Unit) (subst (λ u. Seen UnitTerm u) (sym term_of-Unit) seen_Unit)
    rolled (Core-F.Ascribe p) = subst (λ e. Seen e (term_of e)) (sym (rolls-Ascribe p)) (subst (λ u. Seen (Ascribe p) u) (sym (term_of-Ascribe p)) (seen_Ascribe p))
    rolled (Core-F.Let p) = subst (λ e. Seen e (term_of e)) (sym (rolls-Let p)) (subst (λ u. Seen (Let p) u) (sym (term_of-Let p)) (seen_Let p))
    rolled (Core-F.Record fs) = subst (λ e. Seen e (term_of e)) (sym (rolls-Record fs)) (subst (λ u. Seen (Record fs) u) (sym (term_of-Record fs)) (seen_Record fs))
    rolled (Core-F.Proj p) = subst (λ e. Seen e (term_of e)) (sym (rolls-Proj p)) (subst (λ u. Seen (Proj p) u) (sym (term_of-Proj p)) (seen_Proj p))
    rolled (Core-F.Fix e) = subst (λ e. Seen e (term_of e)) (sym (rolls-Fix e)) (subst (λ u. Seen (Fix e) u) (sym (term_of-Fix e)) (seen_Fix e))

-- lists of labeled terms

pub terms_of-drop : (fs : List (String Global × Core)) (i : ℕ) (f : String Global × Core)
    → i < length fs → f ≡ get_or fs i f
    → terms_of (drop i fs) ≡ term_field (string_bytes f.0) (term_of f.1) (terms_of (drop (i + 1) fs))
terms_of-drop fs i f lt is = rw add-one (rw (drop-cons fs i f lt) (ap (λ g. term_field (string_bytes g.0) (term_of g.1) (terms_of (drop (suc i) fs))) (sym is)))

pub ruleset term_shapes = (term_of-True, term_of-False, term_of-If, term_of-Num, term_of-Succ, term_of-Pred, term_of-IsZero, term_of-Var, term_of-Free, term_of-Abs, term_of-App, term_of-Unit, term_of-Ascribe, term_of-Let, term_of-Record, term_of-Proj, term_of-Fix, terms_of-drop)
