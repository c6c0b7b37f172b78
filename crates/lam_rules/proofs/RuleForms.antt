-- Each rule of typing but T-Sub fits one form of term, and a number of premises.
use Rattle.std.proofs.Common.{◌≡◌, ℕ, List, [], ◌∷◌, Option, Some, None, String, Box, Vec, length, refl, ◌≢◌, ◌+◌, sym, ◌∙◌, arith}
use Rattle.std.specs.declared.alloc.Global.{Global}
use Rattle.lam_rules.specs.Types.{Label, Typ, record_of, Fields, no_fields, field}
use Rattle.lam_rules.specs.TypeViews.{typ_of, fields_of}
use Rattle.lam_rules.specs.TypingViews.{types_concluded}
use Rattle.lam_rules.proofs.TypeShapes.{typ_of-Bool, typ_of-Nat, typ_of-Arrow, typ_of-Record, shapes, no_arrow, no_record, field_count, field_count-fields_of}
use Rattle.lam_rules.proofs.TypingShapes.{typing_shapes, types_concluded-none, one_type, length-types_concluded}
use Rattle.lam_rules.specs.declared.types.Fields.{Fields as RustFields}
use Rattle.lam_rules.specs.declared.types.Ty.TheVariants.{Record as RecordType}
use Rattle.lam_rules.specs.declared.typing.TypeProof.{TypeProof}
use Rattle.lam_rules.specs.Terms.{Term, true_term, false_term, if_then_else, numeral, succ, pred, is_zero, variable, lambda, apply, unit_term, ascribe, let_in, record_term, project, fix, TermFields, no_terms, term_field}
use Rattle.lam_rules.specs.TermViews.{term_of, terms_of}
use Rattle.lam_rules.specs.Subtyping.{Claim}
use Rattle.lam_rules.specs.Typing.{Context, HasField}
use Rattle.lam_rules.specs.TypingSteps.{FitsRule}
use Rattle.lam_rules.specs.declared.types.Ty.{Ty}
use Rattle.lam_rules.specs.declared.rules.TypeRule.{TypeRule}
use Rattle.lam_rules.specs.declared.terms.Core.{Core}
use Rattle.lam_rules.specs.declared.terms.Core.TheVariants.{True, False, If, Num, Succ, Pred, IsZero, Var, Abs, App, Unit as UnitTerm, Ascribe, Let, Record, Proj, Fix}
use Rattle.lam_rules.proofs.TermShapes.{term_of-True, term_of-False, term_of-Num, term_of-Unit, term_of-Var, term_of-Succ, term_of-Pred, term_of-IsZero, term_of-Abs, term_of-App, term_of-Ascribe, term_of-Let, term_of-Proj, term_of-Fix, term_of-Record, Seen, seen, seen_True, seen_False, seen_If, seen_Num, seen_Succ, seen_Pred, seen_IsZero, seen_Var, seen_Abs, seen_App, seen_Unit, seen_Ascribe, seen_Let, seen_Record, seen_Proj, seen_Fix}

-- a rule with a proof of subtyping is T-Sub
pub only_sub : (r : TypeRule) → (r ≡ TypeRule.Sub → ⊥)
    → (c : Claim) (g : Context) (e : Term) (t : Typ) (ts : List Typ) → FitsRule r (Some c) g e t ts → ⊥
only_sub TypeRule.Sub n c g e t ts h = n refl
only_sub _ n c g e t ts h = h

not_true : {term : Core} {u : Term} → Seen term u → (term ≡ True → ⊥)
    → (g : Context) (t : Typ) (ts : List Typ) → FitsRule TypeRule.True None g u t ts → ⊥
not_true seen_True other g t ts h = other refl
not_true _ other g t ts h = h

pub no_true : (term : Core) → (term ≡ True → ⊥)
    → (g : Context) (t : Typ) (ts : List Typ) → FitsRule TypeRule.True None g (term_of term) t ts → ⊥
no_true term = not_true (seen term)

not_false : {term : Core} {u : Term} → Seen term u → (term ≡ False → ⊥)
    → (g : Context) (t : Typ) (ts : List Typ) → FitsRule TypeRule.False None g u t ts → ⊥
not_false seen_False other g t ts h = other refl
not_false _ other g t ts h = h

pub no_false : (term : Core) → (term ≡ False → ⊥)
    → (g : Context) (t : Typ) (ts : List Typ) → FitsRule TypeRule.False None g (term_of term) t ts → ⊥
no_false term = not_false (seen term)

not_if : {term : Core} {u : Term} → Seen term u → ((p : Box (Core × Core × Core) Global) → term ≡ (If p) → ⊥)
    → (g : Context) (t : Typ) (ts : List Typ) → FitsRule TypeRule.If None g u t ts → ⊥
not_if (seen_If p) other g t ts h = other p refl
not_if _ other g t ts h = h

pub no_if : (term : Core) → ((p : Box (Core × Core × Core) Global) → term ≡ (If p) → ⊥)
    → (g : Context) (t : Typ) (ts : List Typ) → FitsRule TypeRule.If None g (term_of term) t ts → ⊥
no_if term = not_if (seen term)

not_num : {term : Core} {u : Term} → Seen term u → ((s : String Global) → term ≡ (Num s) → ⊥)
    → (g : Context) (t : Typ) (ts : List Typ) → FitsRule TypeRule.Num None g u t ts → ⊥
not_num (seen_Num s) other g t ts h = other s refl
not_num _ other g t ts h = h

pub no_num : (term : Core) → ((s : String Global) → term ≡ (Num s) → ⊥)
    → (g : Context) (t : Typ) (ts : List Typ) → FitsRule TypeRule.Num None g (term_of term) t ts → ⊥
no_num term = not_num (seen term)

not_succ : {term : Core} {u : Term} → Seen term u → ((e : Box Core Global) → term ≡ (Succ e) → ⊥)
    → (g : Context) (t : Typ) (ts : List Typ) → FitsRule TypeRule.Succ None g u t ts → ⊥
not_succ (seen_Succ e) other g t ts h = other e refl
not_succ _ other g t ts h = h

pub no_succ : (term : Core) → ((e : Box Core Global) → term ≡ (Succ e) → ⊥)
    → (g : Context) (t : Typ) (ts : List Typ) → FitsRule TypeRule.Succ None g (term_of term) t ts → ⊥
no_succ term = not_succ (seen term)

not_pred : {term : Core} {u : Term} → Seen term u → ((e : Box Core Global) → term ≡ (Pred e) → ⊥)
    → (g : Context) (t : Typ) (ts : List Typ) → FitsRule TypeRule.Pred None g u t ts → ⊥
not_pred (seen_Pred e) other g t ts h = other e refl
not_pred _ other g t ts h = h

pub no_pred : (term : Core) → ((e : Box Core Global) → term ≡ (Pred e) → ⊥)
    → (g : Context) (t : Typ) (ts : List Typ) → FitsRule TypeRule.Pred None g (term_of term) t ts → ⊥
no_pred term = not_pred (seen term)

not_iszero : {term : Core} {u : Term} → Seen term u → ((e : Box Core Global) → term ≡ (IsZero e) → ⊥)
    → (g : Context) (t : Typ) (ts : List Typ) → FitsRule TypeRule.IsZero None g u t ts → ⊥
not_iszero (seen_IsZero e) other g t ts h = other e refl
not_iszero _ other g t ts h = h

pub no_iszero : (term : Core) → ((e : Box Core Global) → term ≡ (IsZero e) → ⊥)
    → (g : Context) (t : Typ) (ts : List Typ) → FitsRule TypeRule.IsZero None g (term_of term) t ts → ⊥
no_iszero term = not_iszero (seen term)

not_var : {term : Core} {u : Term} → Seen term u → ((n : ℕ) → term ≡ (Var n) → ⊥)
    → (g : Context) (t : Typ) (ts : List Typ) → FitsRule TypeRule.Var None g u t ts → ⊥
not_var (seen_Var n) other g t ts h = other n refl
not_var _ other g t ts h = h

pub no_var : (term : Core) → ((n : ℕ) → term ≡ (Var n) → ⊥)
    → (g : Context) (t : Typ) (ts : List Typ) → FitsRule TypeRule.Var None g (term_of term) t ts → ⊥
no_var term = not_var (seen term)

not_abs : {term : Core} {u : Term} → Seen term u → ((p : Box (Option Ty × Core) Global) → term ≡ (Abs p) → ⊥)
    → (g : Context) (t : Typ) (ts : List Typ) → FitsRule TypeRule.Abs None g u t ts → ⊥
not_abs (seen_Abs p) other g t ts h = other p refl
not_abs _ other g t ts h = h

pub no_abs : (term : Core) → ((p : Box (Option Ty × Core) Global) → term ≡ (Abs p) → ⊥)
    → (g : Context) (t : Typ) (ts : List Typ) → FitsRule TypeRule.Abs None g (term_of term) t ts → ⊥
no_abs term = not_abs (seen term)

not_app : {term : Core} {u : Term} → Seen term u → ((p : Box (Core × Core) Global) → term ≡ (App p) → ⊥)
    → (g : Context) (t : Typ) (ts : List Typ) → FitsRule TypeRule.App None g u t ts → ⊥
not_app (seen_App p) other g t ts h = other p refl
not_app _ other g t ts h = h

pub no_app : (term : Core) → ((p : Box (Core × Core) Global) → term ≡ (App p) → ⊥)
    → (g : Context) (t : Typ) (ts : List Typ) → FitsRule TypeRule.App None g (term_of term) t ts → ⊥
no_app term = not_app (seen term)

not_unit : {term : Core} {u : Term} → Seen term u → (term ≡ UnitTerm → ⊥)
    → (g : Context) (t : Typ) (ts : List Typ) → FitsRule TypeRule.Unit None g u t ts → ⊥
not_unit seen_Unit other g t ts h = other refl
not_unit _ other g t ts h = h

pub no_unit : (term : Core) → (term ≡ UnitTerm → ⊥)
    → (g : Context) (t : Typ) (ts : List Typ) → FitsRule TypeRule.Unit None g (term_of term) t ts → ⊥
no_unit term = not_unit (seen term)

not_ascribe : {term : Core} {u : Term} → Seen term u → ((p : Box (Core × Option Ty) Global) → term ≡ (Ascribe p) → ⊥)
    → (g : Context) (t : Typ) (ts : List Typ) → FitsRule TypeRule.Ascribe None g u t ts → ⊥
not_ascribe (seen_Ascribe p) other g t ts h = other p refl
not_ascribe _ other g t ts h = h

pub no_ascribe : (term : Core) → ((p : Box (Core × Option Ty) Global) → term ≡ (Ascribe p) → ⊥)
    → (g : Context) (t : Typ) (ts : List Typ) → FitsRule TypeRule.Ascribe None g (term_of term) t ts → ⊥
no_ascribe term = not_ascribe (seen term)

not_let : {term : Core} {u : Term} → Seen term u → ((p : Box (Core × Core) Global) → term ≡ (Let p) → ⊥)
    → (g : Context) (t : Typ) (ts : List Typ) → FitsRule TypeRule.Let None g u t ts → ⊥
not_let (seen_Let p) other g t ts h = other p refl
not_let _ other g t ts h = h

pub no_let : (term : Core) → ((p : Box (Core × Core) Global) → term ≡ (Let p) → ⊥)
    → (g : Context) (t : Typ) (ts : List Typ) → FitsRule TypeRule.Let None g (term_of term) t ts → ⊥
no_let term = not_let (seen term)

not_rcd : {term : Core} {u : Term} → Seen term u → ((fs : Vec (String Global × Core) Global) → term ≡ (Record fs) → ⊥)
    → (g : Context) (t : Typ) (ts : List Typ) → FitsRule TypeRule.Rcd None g u t ts → ⊥
not_rcd (seen_Record fs) other g t ts h = other fs refl
not_rcd _ other g t ts h = h

pub no_rcd : (term : Core) → ((fs : Vec (String Global × Core) Global) → term ≡ (Record fs) → ⊥)
    → (g : Context) (t : Typ) (ts : List Typ) → FitsRule TypeRule.Rcd None g (term_of term) t ts → ⊥
no_rcd term = not_rcd (seen term)

not_proj : {term : Core} {u : Term} → Seen term u → ((p : Box (Core × String Global) Global) → term ≡ (Proj p) → ⊥)
    → (g : Context) (t : Typ) (ts : List Typ) → FitsRule TypeRule.Proj None g u t ts → ⊥
not_proj (seen_Proj p) other g t ts h = other p refl
not_proj _ other g t ts h = h

pub no_proj : (term : Core) → ((p : Box (Core × String Global) Global) → term ≡ (Proj p) → ⊥)
    → (g : Context) (t : Typ) (ts : List Typ) → FitsRule TypeRule.Proj None g (term_of term) t ts → ⊥
no_proj term = not_proj (seen term)

not_fix : {term : Core} {u : Term} → Seen term u → ((e : Box Core Global) → term ≡ (Fix e) → ⊥)
    → (g : Context) (t : Typ) (ts : List Typ) → FitsRule TypeRule.Fix None g u t ts → ⊥
not_fix (seen_Fix e) other g t ts h = other e refl
not_fix _ other g t ts h = h

pub no_fix : (term : Core) → ((e : Box Core Global) → term ≡ (Fix e) → ⊥)
    → (g : Context) (t : Typ) (ts : List Typ) → FitsRule TypeRule.Fix None g (term_of term) t ts → ⊥
no_fix term = not_fix (seen term)

-- the number of premises of each rule

count_true : (g : Context) (e : Term) (t : Typ) (ts : List Typ) → FitsRule TypeRule.True None g e t ts → length ts ≡ 0
count_true g true_term t [] h = refl
count_true _ _ _ _ h = absurd h

pub counts_true : (ps : List TypeProof) → (length ps ≡ 0 → ⊥) → (g : Context) (e : Term) (t : Typ) → FitsRule TypeRule.True None g e t (types_concluded ps) → ⊥
counts_true ps other g e t h = other (sym (length-types_concluded ps) ∙ count_true g e t (types_concluded ps) h)

count_false : (g : Context) (e : Term) (t : Typ) (ts : List Typ) → FitsRule TypeRule.False None g e t ts → length ts ≡ 0
count_false g false_term t [] h = refl
count_false _ _ _ _ h = absurd h

pub counts_false : (ps : List TypeProof) → (length ps ≡ 0 → ⊥) → (g : Context) (e : Term) (t : Typ) → FitsRule TypeRule.False None g e t (types_concluded ps) → ⊥
counts_false ps other g e t h = other (sym (length-types_concluded ps) ∙ count_false g e t (types_concluded ps) h)

count_if : (g : Context) (e : Term) (t : Typ) (ts : List Typ) → FitsRule TypeRule.If None g e t ts → length ts ≡ 3
count_if g (if_then_else a b c) t (t1 ∷ t2 ∷ t3 ∷ []) h = refl
count_if _ _ _ _ h = absurd h

pub counts_if : (ps : List TypeProof) → (length ps ≡ 3 → ⊥) → (g : Context) (e : Term) (t : Typ) → FitsRule TypeRule.If None g e t (types_concluded ps) → ⊥
counts_if ps other g e t h = other (sym (length-types_concluded ps) ∙ count_if g e t (types_concluded ps) h)

count_num : (g : Context) (e : Term) (t : Typ) (ts : List Typ) → FitsRule TypeRule.Num None g e t ts → length ts ≡ 0
count_num g (numeral a) t [] h = refl
count_num _ _ _ _ h = absurd h

pub counts_num : (ps : List TypeProof) → (length ps ≡ 0 → ⊥) → (g : Context) (e : Term) (t : Typ) → FitsRule TypeRule.Num None g e t (types_concluded ps) → ⊥
counts_num ps other g e t h = other (sym (length-types_concluded ps) ∙ count_num g e t (types_concluded ps) h)

count_succ : (g : Context) (e : Term) (t : Typ) (ts : List Typ) → FitsRule TypeRule.Succ None g e t ts → length ts ≡ 1
count_succ g (succ a) t (t1 ∷ []) h = refl
count_succ _ _ _ _ h = absurd h

pub counts_succ : (ps : List TypeProof) → (length ps ≡ 1 → ⊥) → (g : Context) (e : Term) (t : Typ) → FitsRule TypeRule.Succ None g e t (types_concluded ps) → ⊥
counts_succ ps other g e t h = other (sym (length-types_concluded ps) ∙ count_succ g e t (types_concluded ps) h)

count_pred : (g : Context) (e : Term) (t : Typ) (ts : List Typ) → FitsRule TypeRule.Pred None g e t ts → length ts ≡ 1
count_pred g (pred a) t (t1 ∷ []) h = refl
count_pred _ _ _ _ h = absurd h

pub counts_pred : (ps : List TypeProof) → (length ps ≡ 1 → ⊥) → (g : Context) (e : Term) (t : Typ) → FitsRule TypeRule.Pred None g e t (types_concluded ps) → ⊥
counts_pred ps other g e t h = other (sym (length-types_concluded ps) ∙ count_pred g e t (types_concluded ps) h)

count_iszero : (g : Context) (e : Term) (t : Typ) (ts : List Typ) → FitsRule TypeRule.IsZero None g e t ts → length ts ≡ 1
count_iszero g (is_zero a) t (t1 ∷ []) h = refl
count_iszero _ _ _ _ h = absurd h

pub counts_iszero : (ps : List TypeProof) → (length ps ≡ 1 → ⊥) → (g : Context) (e : Term) (t : Typ) → FitsRule TypeRule.IsZero None g e t (types_concluded ps) → ⊥
counts_iszero ps other g e t h = other (sym (length-types_concluded ps) ∙ count_iszero g e t (types_concluded ps) h)

count_var : (g : Context) (e : Term) (t : Typ) (ts : List Typ) → FitsRule TypeRule.Var None g e t ts → length ts ≡ 0
count_var g (variable a) t [] h = refl
count_var _ _ _ _ h = absurd h

pub counts_var : (ps : List TypeProof) → (length ps ≡ 0 → ⊥) → (g : Context) (e : Term) (t : Typ) → FitsRule TypeRule.Var None g e t (types_concluded ps) → ⊥
counts_var ps other g e t h = other (sym (length-types_concluded ps) ∙ count_var g e t (types_concluded ps) h)

count_abs : (g : Context) (e : Term) (t : Typ) (ts : List Typ) → FitsRule TypeRule.Abs None g e t ts → length ts ≡ 1
count_abs g (lambda (Some a) b) t (t1 ∷ []) h = refl
count_abs _ _ _ _ h = absurd h

pub counts_abs : (ps : List TypeProof) → (length ps ≡ 1 → ⊥) → (g : Context) (e : Term) (t : Typ) → FitsRule TypeRule.Abs None g e t (types_concluded ps) → ⊥
counts_abs ps other g e t h = other (sym (length-types_concluded ps) ∙ count_abs g e t (types_concluded ps) h)

count_app : (g : Context) (e : Term) (t : Typ) (ts : List Typ) → FitsRule TypeRule.App None g e t ts → length ts ≡ 2
count_app g (apply a b) t (t1 ∷ t2 ∷ []) h = refl
count_app _ _ _ _ h = absurd h

pub counts_app : (ps : List TypeProof) → (length ps ≡ 2 → ⊥) → (g : Context) (e : Term) (t : Typ) → FitsRule TypeRule.App None g e t (types_concluded ps) → ⊥
counts_app ps other g e t h = other (sym (length-types_concluded ps) ∙ count_app g e t (types_concluded ps) h)

count_unit : (g : Context) (e : Term) (t : Typ) (ts : List Typ) → FitsRule TypeRule.Unit None g e t ts → length ts ≡ 0
count_unit g unit_term t [] h = refl
count_unit _ _ _ _ h = absurd h

pub counts_unit : (ps : List TypeProof) → (length ps ≡ 0 → ⊥) → (g : Context) (e : Term) (t : Typ) → FitsRule TypeRule.Unit None g e t (types_concluded ps) → ⊥
counts_unit ps other g e t h = other (sym (length-types_concluded ps) ∙ count_unit g e t (types_concluded ps) h)

count_ascribe : (g : Context) (e : Term) (t : Typ) (ts : List Typ) → FitsRule TypeRule.Ascribe None g e t ts → length ts ≡ 1
count_ascribe g (ascribe a (Some b)) t (t1 ∷ []) h = refl
count_ascribe _ _ _ _ h = absurd h

pub counts_ascribe : (ps : List TypeProof) → (length ps ≡ 1 → ⊥) → (g : Context) (e : Term) (t : Typ) → FitsRule TypeRule.Ascribe None g e t (types_concluded ps) → ⊥
counts_ascribe ps other g e t h = other (sym (length-types_concluded ps) ∙ count_ascribe g e t (types_concluded ps) h)

count_let : (g : Context) (e : Term) (t : Typ) (ts : List Typ) → FitsRule TypeRule.Let None g e t ts → length ts ≡ 2
count_let g (let_in a b) t (t1 ∷ t2 ∷ []) h = refl
count_let _ _ _ _ h = absurd h

pub counts_let : (ps : List TypeProof) → (length ps ≡ 2 → ⊥) → (g : Context) (e : Term) (t : Typ) → FitsRule TypeRule.Let None g e t (types_concluded ps) → ⊥
counts_let ps other g e t h = other (sym (length-types_concluded ps) ∙ count_let g e t (types_concluded ps) h)

count_proj : (g : Context) (e : Term) (t : Typ) (ts : List Typ) → FitsRule TypeRule.Proj None g e t ts → length ts ≡ 1
count_proj g (project a b) t (t1 ∷ []) h = refl
count_proj _ _ _ _ h = absurd h

pub counts_proj : (ps : List TypeProof) → (length ps ≡ 1 → ⊥) → (g : Context) (e : Term) (t : Typ) → FitsRule TypeRule.Proj None g e t (types_concluded ps) → ⊥
counts_proj ps other g e t h = other (sym (length-types_concluded ps) ∙ count_proj g e t (types_concluded ps) h)

count_fix : (g : Context) (e : Term) (t : Typ) (ts : List Typ) → FitsRule TypeRule.Fix None g e t ts → length ts ≡ 1
count_fix g (fix a) t (t1 ∷ []) h = refl
count_fix _ _ _ _ h = absurd h

pub counts_fix : (ps : List TypeProof) → (length ps ≡ 1 → ⊥) → (g : Context) (e : Term) (t : Typ) → FitsRule TypeRule.Fix None g e t (types_concluded ps) → ⊥
counts_fix ps other g e t h = other (sym (length-types_concluded ps) ∙ count_fix g e t (types_concluded ps) h)

count_sub : (c : Claim) (g : Context) (e : Term) (t : Typ) (ts : List Typ) → FitsRule TypeRule.Sub (Some c) g e t ts → length ts ≡ 1
count_sub c g e t (t1 ∷ []) h = refl
count_sub _ _ _ _ _ h = absurd h

pub counts_sub : (ps : List TypeProof) → (length ps ≡ 1 → ⊥) → (c : Claim) (g : Context) (e : Term) (t : Typ) → FitsRule TypeRule.Sub (Some c) g e t (types_concluded ps) → ⊥
counts_sub ps other c g e t h = other (sym (length-types_concluded ps) ∙ count_sub c g e t (types_concluded ps) h)

-- T-Rcd: the type is a record type, and there are as many terms as fields and as premises

rcd_only : (g : Context) (es : TermFields) (t : Typ) (ts : List Typ) → ((fs : Fields) → t ≡ record_of fs → ⊥) → FitsRule TypeRule.Rcd None g (record_term es) t ts → ⊥
rcd_only g no_terms (record_of fs) ts other h = other fs refl
rcd_only g (term_field k e es) (record_of fs) ts other h = other fs refl
rcd_only g no_terms _ ts other h = h
rcd_only g (term_field k e es) _ ts other h = h

pub no_rcd_type : (ty : Ty) → ((fs : RustFields) → ty ≡ RecordType fs → ⊥) → (g : Context) (es : TermFields) (ts : List Typ) → FitsRule TypeRule.Rcd None g (record_term es) (typ_of ty) ts → ⊥
no_rcd_type ty other g es ts = rcd_only g es (typ_of ty) ts (λ fs e. no_record ty fs other e)

abbrev term_count : TermFields → ℕ
term_count no_terms = 0
term_count (term_field k e es) = 1 + term_count es

term_count-terms_of : (es : List (String Global × Core)) → term_count (terms_of es) ≡ length es
term_count-terms_of [] = refl
term_count-terms_of (e ∷ es) = let h = term_count-terms_of es in omega arith

rcd_counts : (g : Context) (es : TermFields) (fs : Fields) (ts : List Typ) → FitsRule TypeRule.Rcd None g (record_term es) (record_of fs) ts
    → (term_count es ≡ field_count fs) × (term_count es ≡ length ts)
rcd_counts g no_terms no_fields [] h = (refl, refl)
rcd_counts g (term_field k e es) (field l t fs) (u ∷ ts) h = let r = rcd_counts g es fs ts h.2 in (omega arith, omega arith)
rcd_counts _ _ _ _ h = absurd h

pub rcd_not_fields : (es : List (String Global × Core)) (fs : List (String Global × Ty)) (ts : List Typ) → length es ≢ length fs
    → (g : Context) → FitsRule TypeRule.Rcd None g (record_term (terms_of es)) (record_of (fields_of fs)) ts → ⊥
rcd_not_fields es fs ts other g h =
    other (sym (term_count-terms_of es) ∙ (rcd_counts g (terms_of es) (fields_of fs) ts h).0 ∙ field_count-fields_of fs)

pub rcd_not_premises : (es : List (String Global × Core)) (fs : Fields) (ps : List TypeProof) → length es ≢ length ps
    → (g : Context) → FitsRule TypeRule.Rcd None g (record_term (terms_of es)) (record_of fs) (types_concluded ps) → ⊥
rcd_not_premises es fs ps other g h =
    other (sym (term_count-terms_of es) ∙ (rcd_counts g (terms_of es) fs (types_concluded ps) h).1 ∙ length-types_concluded ps)

-- only a record type has fields
pub no_field : (ty : Ty) → ((fs : RustFields) → ty ≡ RecordType fs → ⊥) → (l : Label) (t : Typ) → HasField (typ_of ty) l t → ⊥
no_field ty other l t = only (typ_of ty) (λ fs e. no_record ty fs other e)
  where
    only : (u : Typ) → ((fs : Fields) → u ≡ record_of fs → ⊥) → HasField u l t → ⊥
    only (record_of fs) n h = n fs refl
    only _ n h = h

-- what the functions of the checker go by, each for its rule

pub ruleset true_rule = (shapes, typing_shapes, types_concluded-none, term_of-True, no_true, counts_true)

pub ruleset false_rule = (shapes, typing_shapes, types_concluded-none, term_of-False, no_false, counts_false)

pub ruleset num_rule = (shapes, typing_shapes, types_concluded-none, term_of-Num, no_num, counts_num)

pub ruleset unit_rule = (shapes, typing_shapes, types_concluded-none, term_of-Unit, no_unit, counts_unit)

pub ruleset var_rule = (shapes, typing_shapes, types_concluded-none, term_of-Var, no_var, counts_var)

pub ruleset succ_rule = (typ_of-Nat, one_type, term_of-Succ)

pub ruleset pred_rule = (typ_of-Nat, one_type, term_of-Pred)

pub ruleset is_zero_rule = (typ_of-Bool, typ_of-Nat, one_type, term_of-IsZero)

pub ruleset abs_rule = (typ_of-Arrow, no_arrow, one_type, term_of-Abs)

pub ruleset ascribe_rule = (one_type, term_of-Ascribe)

pub ruleset rcd_rule = (typ_of-Record, term_of-Record, no_rcd_type)

pub ruleset proj_rule = (typ_of-Record, no_field, one_type, term_of-Proj)

pub ruleset fix_rule = (typ_of-Arrow, no_arrow, one_type, term_of-Fix)
