-- Alike terms have the same types, each in its own context.
use Rattle.std.proofs.Common.{◌≡◌, ℕ, zero, suc, [], ◌∷◌, Option, Some, None, slice_get, ap, sym, ◌∙◌}
use Rattle.lam_rules.specs.Types.{Typ, Fields}
use Rattle.lam_rules.specs.Terms.{Term, TermFields}
use Rattle.lam_rules.specs.Typing.{Context, IsEntry, IsWellFormedContext}
use Rattle.lam_rules.specs.declared.rules.Dialect.{Dialect}
use Rattle.lam_typing.proofs.AlikeTerms.{Alike, FieldsAlike, both_true, both_false, both_unit, both_numeral, both_variable, both_if, both_succ, both_pred, both_is_zero, both_lambda, both_apply, both_ascribe, both_let, both_record, both_project, both_fix, both_none, both_more, alike_back}
use Rattle.lam_typing.proofs.Derivations.{Derives, FieldsDerive, t_true, t_false, t_if, t_num, t_succ, t_pred, t_is_zero, t_var, t_abs, t_app, t_unit, t_ascribe, t_let, t_rcd, t_proj, t_fix, t_sub, none_derive, more_derive, derives_wf}
use Rattle.lam_typing.proofs.LeastIn.{LeastIn}

-- two variables that have the same entry

entry_got : (n : ℕ) (g : Context) (t : Typ) → IsEntry n g t → slice_get g n ≡ Some (Some t)
entry_got n [] t is = absurd is
entry_got zero (entry ∷ g) t is = ap Some is
entry_got (suc n) (entry ∷ g) t is = entry_got n g t is

got_entry : (n : ℕ) (g : Context) (t : Typ) → slice_get g n ≡ Some (Some t) → IsEntry n g t
got_entry n [] t got = cc
got_entry zero (entry ∷ g) t got = let same : Some entry ≡ Some (Some t) = got in cc
got_entry (suc n) (entry ∷ g) t got = got_entry n g t got

pub entry_alike : (g h : Context) (n m : ℕ) (t : Typ) → slice_get g n ≡ slice_get h m → IsEntry n g t → IsEntry m h t
entry_alike g h n m t same is = got_entry m h t (sym same ∙ entry_got n g t is)

mutual
  pub alike_derives : {g h : Context} {e f : Term} {t : Typ} {d : Dialect} → Alike g e h f → IsWellFormedContext h → Derives g e t d → Derives h f t d
  alike_derives i wh (t_sub x below) = t_sub (alike_derives i wh x) below
  alike_derives both_true wh (t_true wf) = t_true wh
  alike_derives both_false wh (t_false wf) = t_false wh
  alike_derives both_unit wh (t_unit wf) = t_unit wh
  alike_derives both_numeral wh (t_num wf) = t_num wh
  alike_derives {g = g} {h = h} {t = t} (both_variable {n = n} {m = m} same) wh (t_var wf is) = t_var wh (entry_alike g h n m t same is)
  alike_derives (both_if i j k) wh (t_if x y z) = t_if (alike_derives i wh x) (alike_derives j wh y) (alike_derives k wh z)
  alike_derives (both_succ i) wh (t_succ x) = t_succ (alike_derives i wh x)
  alike_derives (both_pred i) wh (t_pred x) = t_pred (alike_derives i wh x)
  alike_derives (both_is_zero i) wh (t_is_zero x) = t_is_zero (alike_derives i wh x)
  alike_derives (both_lambda i) wh (t_abs x) = t_abs (alike_derives i ((derives_wf _ _ _ _ x).0.0, wh) x)
  alike_derives (both_apply i j) wh (t_app x y) = t_app (alike_derives i wh x) (alike_derives j wh y)
  alike_derives (both_ascribe i) wh (t_ascribe x) = t_ascribe (alike_derives i wh x)
  alike_derives (both_let i j) wh (t_let {s = s} x y) = t_let (alike_derives i wh x) (alike_derives (j (Some s)) ((derives_wf _ _ _ _ y).0.0, wh) y)
  alike_derives (both_record is) wh (t_rcd xs wf) = t_rcd (fields_alike_derive is wh xs) wf
  alike_derives (both_project i) wh (t_proj x has) = t_proj (alike_derives i wh x) has
  alike_derives (both_fix i) wh (t_fix x) = t_fix (alike_derives i wh x)

  fields_alike_derive : {g h : Context} {es fs : TermFields} {ts : Fields} {d : Dialect}
      → FieldsAlike g es h fs → IsWellFormedContext h → FieldsDerive g es ts d → FieldsDerive h fs ts d
  fields_alike_derive both_none wh (none_derive wf) = none_derive wh
  fields_alike_derive (both_more i is) wh (more_derive x xs) = more_derive (alike_derives i wh x) (fields_alike_derive is wh xs)

-- so what is least of one is least of the other
pub alike_least : {g h : Context} {e f : Term} (o : Option Typ) (d : Dialect)
    → Alike g e h f → IsWellFormedContext g → IsWellFormedContext h → LeastIn g e o d → LeastIn h f o d
alike_least (Some t) d i wg wh least = (alike_derives i wh least.0, λ u x. least.1 u (alike_derives (alike_back i) wg x))
alike_least None d i wg wh least = λ u x. least u (alike_derives (alike_back i) wg x)
