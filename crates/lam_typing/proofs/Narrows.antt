-- Narrowing: what is derived in a context is derived in each narrower one.
use Rattle.std.proofs.Common.{◌≡◌, ℕ, [], ◌∷◌, Some, None, zero, suc, refl, subst}
use Rattle.lam_rules.specs.Types.{Typ, bool, nat, arrow, record_of, Fields}
use Rattle.lam_rules.specs.Terms.{Term, TermFields}
use Rattle.lam_rules.specs.Subtyping.{IsBelow}
use Rattle.lam_rules.specs.Typing.{Context, IsEntry, IsWellFormedContext}
use Rattle.lam_rules.specs.declared.rules.Dialect.{Dialect}
use Rattle.lam_rules.proofs.Composing.{below_refl}
use Rattle.lam_typing.specs.Narrowing.{IsNarrower, Narrows}
use Rattle.lam_typing.proofs.Derivations.{Derives, FieldsDerive, t_true, t_false, t_if, t_num, t_succ, t_pred, t_is_zero, t_var, t_abs, t_app, t_unit, t_ascribe, t_let, t_rcd, t_proj, t_fix, t_sub, none_derive, more_derive, derives, has_type, derives_wf}

-- an entry of the wider context has one below it in the narrower
narrower_at : (n : ℕ) (g h : Context) (t : Typ) (d : Dialect) → IsNarrower g h d → IsEntry n h t → (s : Typ) × IsEntry n g s × IsBelow s t d
narrower_at n g [] t d narrower is = absurd is
narrower_at zero (None ∷ g) (None ∷ h) t d narrower is = let wrong : None ≡ Some t = is in absurd (cc)
narrower_at zero (Some s ∷ g) (None ∷ h) t d narrower is = let wrong : None ≡ Some t = is in absurd (cc)
narrower_at zero (None ∷ g) (Some u ∷ h) t d narrower is = absurd narrower.0
narrower_at zero (Some s ∷ g) (Some u ∷ h) t d narrower is =
    let same : u ≡ t = (let e : Some u ≡ Some t = is in (cc)) in
    (s, refl, subst (λ x. IsBelow s x d) same narrower.0)
narrower_at (suc n) (entry ∷ g) (other ∷ h) t d narrower is = narrower_at n g h t d narrower.1 is
narrower_at zero [] (other ∷ h) t d narrower is = absurd narrower
narrower_at (suc n) [] (other ∷ h) t d narrower is = absurd narrower

mutual
  pub narrow : (g h : Context) (e : Term) (t : Typ) (d : Dialect) → IsWellFormedContext g → IsNarrower g h d → Derives h e t d → Derives g e t d
  narrow g h _ _ d wg narrower (t_true wf) = t_true wg
  narrow g h _ _ d wg narrower (t_false wf) = t_false wg
  narrow g h _ t d wg narrower (t_if {c = c} {a = a} {b = b} x y z) = t_if (narrow g h c bool d wg narrower x) (narrow g h a t d wg narrower y) (narrow g h b t d wg narrower z)
  narrow g h _ _ d wg narrower (t_num wf) = t_num wg
  narrow g h _ _ d wg narrower (t_succ {e = e} x) = t_succ (narrow g h e nat d wg narrower x)
  narrow g h _ _ d wg narrower (t_pred {e = e} x) = t_pred (narrow g h e nat d wg narrower x)
  narrow g h _ _ d wg narrower (t_is_zero {e = e} x) = t_is_zero (narrow g h e nat d wg narrower x)
  narrow g h _ t d wg narrower (t_var {n = n} wf is) = let found = narrower_at n g h t d narrower is in t_sub (t_var wg found.1) found.2
  narrow g h _ _ d wg narrower (t_abs {s = s} {t = t} {e = e} x) =
      let ws = (derives_wf (Some s ∷ h) e t d x).0.0 in
      t_abs (narrow (Some s ∷ g) (Some s ∷ h) e t d (ws, wg) (below_refl s d ws, narrower) x)
  narrow g h _ t d wg narrower (t_app {s = s} {f = f} {a = a} x y) = t_app (narrow g h f (arrow s t) d wg narrower x) (narrow g h a s d wg narrower y)
  narrow g h _ _ d wg narrower (t_unit wf) = t_unit wg
  narrow g h _ t d wg narrower (t_ascribe {e = e} x) = t_ascribe (narrow g h e t d wg narrower x)
  narrow g h _ t d wg narrower (t_let {s = s} {a = a} {b = b} x y) =
      let ws = (derives_wf (Some s ∷ h) b t d y).0.0 in
      t_let (narrow g h a s d wg narrower x) (narrow (Some s ∷ g) (Some s ∷ h) b t d (ws, wg) (below_refl s d ws, narrower) y)
  narrow g h _ _ d wg narrower (t_rcd {es = es} {ts = ts} x wf) = t_rcd (narrow_fields g h es ts d wg narrower x) wf
  narrow g h _ t d wg narrower (t_proj {e = e} {ts = ts} x has) = t_proj (narrow g h e (record_of ts) d wg narrower x) has
  narrow g h _ t d wg narrower (t_fix {e = e} x) = t_fix (narrow g h e (arrow t t) d wg narrower x)
  narrow g h _ t d wg narrower (t_sub {e = e} {s = s} x below) = t_sub (narrow g h e s d wg narrower x) below

  narrow_fields : (g h : Context) (es : TermFields) (ts : Fields) (d : Dialect) → IsWellFormedContext g → IsNarrower g h d → FieldsDerive h es ts d → FieldsDerive g es ts d
  narrow_fields g h _ _ d wg narrower (none_derive wf) = none_derive wg
  narrow_fields g h _ _ d wg narrower (more_derive {e = e} {es = es} {t = t} {ts = ts} x xs) = more_derive (narrow g h e t d wg narrower x) (narrow_fields g h es ts d wg narrower xs)

-- a context is narrower than itself
pub narrower_self : (g : Context) (d : Dialect) → IsWellFormedContext g → IsNarrower g g d
narrower_self [] d wf = tt
narrower_self (None ∷ g) d wf = (tt, narrower_self g d wf.1)
narrower_self (Some t ∷ g) d wf = (below_refl t d wf.0, narrower_self g d wf.1)

pub narrows : (g h : Context) (d : Dialect) → Narrows g h d
narrows g h d wg wh narrower e t has = has_type g e t d (narrow g h e t d wg narrower (derives h e t d has))
