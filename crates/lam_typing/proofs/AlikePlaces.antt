-- Terms in two scopes that are alike in the lowest contexts of these scopes: their places are alike too, in pairs.
use Rattle.std.proofs.Common.{◌≡◌, List, [], ◌∷◌, ◌++◌, Option, ap, refl}
use Rattle.lam_rules.specs.Types.{Typ}
use Rattle.lam_rules.specs.Terms.{Term, TermFields}
use Rattle.lam_rules.specs.Typing.{Context, IsWellFormedEntry}
use Rattle.lam_rules.specs.declared.rules.Dialect.{Dialect}
use Rattle.lam_scope.specs.Places.{written, of_term, Scope, Place, places, field_places}
use Rattle.lam_scope.specs.WellFormed.{IsWellFormedTerm, AreWellFormedTerms}
use Rattle.lam_typing.specs.LeastTypes.{IsTyped, IsLeastAt}
use Rattle.lam_typing.specs.Progress.{IsLowest}
use Rattle.lam_typing.proofs.AlikeTerms.{Alike, FieldsAlike, both_true, both_false, both_unit, both_numeral, both_free, both_variable, both_if, both_succ, both_pred, both_is_zero, both_lambda, both_apply, both_ascribe, both_let, both_record, both_project, both_fix, both_none, both_more, alike_back}
use Rattle.lam_typing.proofs.AlikeTypes.{alike_derives, alike_least}
use Rattle.lam_typing.proofs.Existing.{exists_in}
use Rattle.lam_typing.proofs.Forms.{lowest_let}
use Rattle.lam_typing.proofs.LeastIn.{lowest_written, least_at, least_in, typed_in, typed_at}

-- their types

pub typed_alike : {s r : Scope} {g h : Context} {e f : Term} {d : Dialect}
    → Alike g e h f → IsLowest s g d → IsLowest r h d → IsTyped s e d → IsTyped r f d
typed_alike {s = s} {r = r} {g = g} {h = h} {e = e} {f = f} {d = d} i ls lr typed =
    let x = typed_in s g e d ls typed in
    typed_at r h f x.0 d lr (alike_derives i lr.wf x.1)

pub least_alike : {s r : Scope} {g h : Context} {e f : Term} {d : Dialect} (o : Option Typ)
    → Alike g e h f → IsLowest s g d → IsLowest r h d → IsLeastAt s e o d → IsLeastAt r f o d
least_alike {s = s} {r = r} {g = g} {h = h} {e = e} {f = f} {d = d} o i ls lr least =
    least_at r h f o d lr (alike_least o d i ls.wf lr.wf (least_in s g e o d ls least))

-- the scopes inside of a binder

-- those of the bodies of two lambdas
pub lowest_in_lambda : {s : Scope} {g : Context} {w : Option Typ} {d : Dialect}
    → IsWellFormedEntry w → IsLowest s g d → IsLowest (written w ∷ s) (w ∷ g) d
lowest_in_lambda {s = s} {g = g} {w = w} {d = d} wf low = lowest_written w s w g d wf refl low

-- those of the second terms of two lets, which have the same least entry
pub lowest_in_let : {s r : Scope} {g h : Context} {a x : Term} {d : Dialect}
    → Alike g a h x → IsLowest s g d → IsLowest r h d → IsWellFormedTerm a
    → (entry : Option Typ) × IsLowest (of_term a ∷ s) (entry ∷ g) d × IsLowest (of_term x ∷ r) (entry ∷ h) d
lowest_in_let {s = s} {r = r} {g = g} {h = h} {a = a} {x = x} {d = d} i ls lr wa =
    let o = exists_in d a g ls.wf wa in
    let least = alike_least o.0 d i ls.wf lr.wf o.1 in (
      o.0,
      lowest_let a g o.0 d (λ u low. least_at u g a o.0 d low o.1) s ls,
      lowest_let x h o.0 d (λ u low. least_at u h x o.0 d low least) r lr,
    )

-- pairs of places

-- two places with alike terms, and the lowest context of the scope of each
pub record ArePaired (d : Dialect) (p q : Place) : Type 0 where
  pub first : Context
  pub second : Context
  pub first_lowest : IsLowest p.scope first d
  pub second_lowest : IsLowest q.scope second d
  pub first_wf : IsWellFormedTerm p.here
  pub second_wf : IsWellFormedTerm q.here
  pub are : Alike first p.here second q.here

pub paired_back : {d : Dialect} {p q : Place} → ArePaired d p q → ArePaired d q p
paired_back pair = record {
  first = pair.second;
  second = pair.first;
  first_lowest = pair.second_lowest;
  second_lowest = pair.first_lowest;
  first_wf = pair.second_wf;
  second_wf = pair.first_wf;
  are = alike_back pair.are;
}

-- two lists of places, paired one by one
pub data AllPaired (d : Dialect) : List Place → List Place → Type 0 where
  no_pairs : AllPaired d [] []
  pair_first : {p q : Place} {ps qs : List Place} → ArePaired d p q → AllPaired d ps qs → AllPaired d (p ∷ ps) (q ∷ qs)

paired_before : {d : Dialect} {ps qs xs ys : List Place} → AllPaired d ps qs → AllPaired d xs ys → AllPaired d (ps ++ xs) (qs ++ ys)
paired_before no_pairs rest = rest
paired_before (pair_first pair pairs) rest = pair_first pair (paired_before pairs rest)

-- what the first places of a list are paired with, and what the others are
pub record PairedParts (d : Dialect) (front rest qs : List Place) : Type 0 where
  pub before : List Place
  pub behind : List Place
  pub are : qs ≡ before ++ behind
  pub fronts : AllPaired d front before
  pub rests : AllPaired d rest behind

pub paired_parts : {d : Dialect} (front rest : List Place) {qs : List Place} → AllPaired d (front ++ rest) qs → PairedParts d front rest qs
paired_parts [] rest {qs = qs} pairs = record { before = []; behind = qs; are = refl; fronts = no_pairs; rests = pairs }
paired_parts (p ∷ front) rest (pair_first {q = q} pair pairs) =
    let parts = paired_parts front rest pairs in
    record {
      before = q ∷ parts.before;
      behind = parts.behind;
      are = ap (λ xs. q ∷ xs) parts.are;
      fronts = pair_first pair parts.fronts;
      rests = parts.rests;
    }

-- the places of two terms: those of their parts, and their own behind them

own_paired : {s r : Scope} {g h : Context} {e f : Term} {d : Dialect} {ps qs : List Place}
    → Alike g e h f → IsLowest s g d → IsLowest r h d → IsWellFormedTerm e → IsWellFormedTerm f → AllPaired d ps qs
    → AllPaired d (ps ++ record { scope = s; here = e } ∷ []) (qs ++ record { scope = r; here = f } ∷ [])
own_paired {s = s} {r = r} {g = g} {h = h} {e = e} {f = f} i ls lr we wf parts =
    paired_before parts (pair_first (record { first = g; second = h; first_lowest = ls; second_lowest = lr; first_wf = we; second_wf = wf; are = i }) no_pairs)

mutual
  pub places_paired : {s r : Scope} {g h : Context} {e f : Term} {d : Dialect}
      → Alike g e h f → IsLowest s g d → IsLowest r h d → IsWellFormedTerm e → IsWellFormedTerm f → AllPaired d (places s e) (places r f)
  places_paired both_true ls lr we wf = own_paired both_true ls lr we wf no_pairs
  places_paired both_false ls lr we wf = own_paired both_false ls lr we wf no_pairs
  places_paired both_unit ls lr we wf = own_paired both_unit ls lr we wf no_pairs
  places_paired both_numeral ls lr we wf = own_paired both_numeral ls lr we wf no_pairs
  places_paired both_free ls lr we wf = own_paired both_free ls lr we wf no_pairs
  places_paired (both_variable same) ls lr we wf = own_paired (both_variable same) ls lr we wf no_pairs
  places_paired (both_if i j k) ls lr we wf =
      let conditions = places_paired i ls lr we.0 wf.0 in
      let branches = paired_before conditions (places_paired j ls lr we.1 wf.1) in
      own_paired (both_if i j k) ls lr we wf (paired_before branches (places_paired k ls lr we.2 wf.2))
  places_paired (both_succ i) ls lr we wf = own_paired (both_succ i) ls lr we wf (places_paired i ls lr we wf)
  places_paired (both_pred i) ls lr we wf = own_paired (both_pred i) ls lr we wf (places_paired i ls lr we wf)
  places_paired (both_is_zero i) ls lr we wf = own_paired (both_is_zero i) ls lr we wf (places_paired i ls lr we wf)
  places_paired (both_lambda i) ls lr we wf =
      own_paired (both_lambda i) ls lr we wf (places_paired i (lowest_in_lambda we.0 ls) (lowest_in_lambda wf.0 lr) we.1 wf.1)
  places_paired (both_apply i j) ls lr we wf =
      own_paired (both_apply i j) ls lr we wf (paired_before (places_paired i ls lr we.0 wf.0) (places_paired j ls lr we.1 wf.1))
  places_paired (both_ascribe i) ls lr we wf = own_paired (both_ascribe i) ls lr we wf (places_paired i ls lr we.0 wf.0)
  places_paired (both_let i j) ls lr we wf =
      let o = lowest_in_let i ls lr we.0 in
      own_paired (both_let i j) ls lr we wf (paired_before (places_paired i ls lr we.0 wf.0) (places_paired (j o.0) o.1 o.2 we.1 wf.1))
  places_paired (both_record is) ls lr we wf = own_paired (both_record is) ls lr we wf (fields_paired is ls lr we wf)
  places_paired (both_project i) ls lr we wf = own_paired (both_project i) ls lr we wf (places_paired i ls lr we wf)
  places_paired (both_fix i) ls lr we wf = own_paired (both_fix i) ls lr we wf (places_paired i ls lr we wf)

  fields_paired : {s r : Scope} {g h : Context} {es fs : TermFields} {d : Dialect}
      → FieldsAlike g es h fs → IsLowest s g d → IsLowest r h d → AreWellFormedTerms es → AreWellFormedTerms fs
      → AllPaired d (field_places s es) (field_places r fs)
  fields_paired both_none ls lr we wf = no_pairs
  fields_paired (both_more i is) ls lr we wf = paired_before (places_paired i ls lr we.0 wf.0) (fields_paired is ls lr we.1 wf.1)
