-- What it means that one type is below another, shape by shape.
use Rattle.std.proofs.Common.{◌≡◌, ◌⊎◌, ◌↔◌, refl, inl, inr, subst, ap, ◌≤◌, arith}
use Rattle.lam_rules.specs.Types.{Label, Typ, bool, nat, unit, top, arrow, record_of, Fields, no_fields, field, Has, IsAbsent, nodes, nodes_in, IsWellFormed, AreWellFormed}
use Rattle.lam_rules.specs.Subtyping.{IsBelow, sub_step, no_subs}
use Rattle.lam_rules.specs.declared.rules.Dialect.{Dialect}
use Rattle.lam_rules.specs.declared.rules.SubRule.{SubRule}
use Rattle.lam_rules.proofs.ByShape.{Under, under_bool, under_nat, under_unit, under_top, under_arrow, under_record, under_bool_nat, FieldsUnder, fields_none, fields_more, below_under, below_wf}
use Rattle.lam_rules.proofs.SharedTexts.{has_wf, one_type}
use Rattle.lam_rules.proofs.Permutations.{absent_not}
use Rattle.lam_rules.proofs.Composing.{below_refl, below_top, below_arrow}
use Rattle.lam_sub.specs.inner.FieldsBelow.{AreBelow}
use Rattle.lam_sub.proofs.Arranging.{record_below}

pub bool_below_nat : IsBelow bool nat Dialect.Two
bool_below_nat = (sub_step SubRule.BoolNat bool nat no_subs, ((tt, tt, tt, (refl, refl), tt), refl))

-- what is below another type part by part is below it by the rules
mutual
  pub under_below : (d : Dialect) (s t : Typ) → Under d s t → IsWellFormed s → IsWellFormed t → IsBelow s t d
  under_below d _ _ under_bool ws wt = below_refl bool d tt
  under_below d _ _ under_nat ws wt = below_refl nat d tt
  under_below d _ _ under_unit ws wt = below_refl unit d tt
  under_below d s _ (under_top _) ws wt = below_top s d ws
  under_below d _ _ (under_arrow {s1 = s1} {s2 = s2} {t1 = t1} {t2 = t2} a b) ws wt =
      below_arrow s1 s2 t1 t2 d (under_below d t1 s1 a wt.0 ws.0) (under_below d s2 t2 b ws.1 wt.1)
  under_below d _ _ (under_record {fs = fs} {gs = gs} u) ws wt = record_below fs gs d ws wt (under_fields_below d fs gs u ws wt)
  under_below _ _ _ under_bool_nat ws wt = bool_below_nat

  under_fields_below : (d : Dialect) (fs gs : Fields) → FieldsUnder d fs gs → AreWellFormed fs → AreWellFormed gs → AreBelow fs gs d
  under_fields_below d fs _ (fields_none _) wf wg = tt
  under_fields_below d fs _ (fields_more {gs = gs} {l = l} s {t = t} has down more) wf wg =
      ((s, has, under_below d s t down (has_wf fs wf l s has) wg.0), under_fields_below d fs gs more wf wg.2)

-- one arrow below another, one record type below another

arrow_parts : (d : Dialect) (s1 s2 t1 t2 : Typ) → Under d (arrow s1 s2) (arrow t1 t2) → IsWellFormed (arrow s1 s2) → IsWellFormed (arrow t1 t2) → IsBelow t1 s1 d × IsBelow s2 t2 d
arrow_parts d s1 s2 t1 t2 (under_arrow a b) ws wt = (under_below d t1 s1 a wt.0 ws.0, under_below d s2 t2 b ws.1 wt.1)

pub arrow_inside : (s1 s2 t1 t2 : Typ) (d : Dialect) → IsBelow (arrow s1 s2) (arrow t1 t2) d → IsBelow t1 s1 d × IsBelow s2 t2 d
arrow_inside s1 s2 t1 t2 d below =
    let wf = below_wf (arrow s1 s2) (arrow t1 t2) d below in
    arrow_parts d s1 s2 t1 t2 (below_under (arrow s1 s2) (arrow t1 t2) d below) wf.0 wf.1

pub arrow_iff : (s1 s2 t1 t2 : Typ) (d : Dialect) → (IsBelow t1 s1 d × IsBelow s2 t2 d) ↔ IsBelow (arrow s1 s2) (arrow t1 t2) d
arrow_iff s1 s2 t1 t2 d = ((λ h. below_arrow s1 s2 t1 t2 d h.0 h.1), arrow_inside s1 s2 t1 t2 d)

record_parts : (d : Dialect) (fs gs : Fields) → Under d (record_of fs) (record_of gs) → AreWellFormed fs → AreWellFormed gs → AreBelow fs gs d
record_parts d fs gs (under_record u) wf wg = under_fields_below d fs gs u wf wg

pub record_inside : (fs gs : Fields) (d : Dialect) → IsBelow (record_of fs) (record_of gs) d → AreBelow fs gs d
record_inside fs gs d below =
    let wf = below_wf (record_of fs) (record_of gs) d below in
    record_parts d fs gs (below_under (record_of fs) (record_of gs) d below) wf.0 wf.1

pub record_iff : (fs gs : Fields) (d : Dialect) → AreWellFormed fs → AreWellFormed gs → AreBelow fs gs d ↔ IsBelow (record_of fs) (record_of gs) d
record_iff fs gs d wf wg = (record_below fs gs d wf wg, record_inside fs gs d)

-- what is below each shape, and above it

under_bool_is : (d : Dialect) (s : Typ) → Under d s bool → s ≡ bool
under_bool_is d _ under_bool = refl

under_nat_is : (d : Dialect) (s : Typ) → Under d s nat → (s ≡ nat) ⊎ ((s ≡ bool) × (d ≡ Dialect.Two))
under_nat_is d _ under_nat = inl refl
under_nat_is _ _ under_bool_nat = inr (refl, refl)

under_unit_is : (d : Dialect) (s : Typ) → Under d s unit → s ≡ unit
under_unit_is d _ under_unit = refl

under_arrow_is : (d : Dialect) (s t1 t2 : Typ) → Under d s (arrow t1 t2) → (s1 : Typ) × (s2 : Typ) × (s ≡ arrow s1 s2)
under_arrow_is d _ t1 t2 (under_arrow {s1 = s1} {s2 = s2} a b) = (s1, s2, refl)

under_record_is : (d : Dialect) (s : Typ) (gs : Fields) → Under d s (record_of gs) → (fs : Fields) × (s ≡ record_of fs)
under_record_is d _ gs (under_record {fs = fs} a) = (fs, refl)

over_arrow_is : (d : Dialect) (s1 s2 t : Typ) → Under d (arrow s1 s2) t → (t ≡ top) ⊎ ((t1 : Typ) × (t2 : Typ) × (t ≡ arrow t1 t2))
over_arrow_is d s1 s2 _ (under_arrow {t1 = t1} {t2 = t2} a b) = inr (t1, t2, refl)
over_arrow_is d s1 s2 _ (under_top _) = inl refl

over_record_is : (d : Dialect) (fs : Fields) (t : Typ) → Under d (record_of fs) t → (t ≡ top) ⊎ ((gs : Fields) × (t ≡ record_of gs))
over_record_is d fs _ (under_record {gs = gs} a) = inr (gs, refl)
over_record_is d fs _ (under_top _) = inl refl

over_top_is : (d : Dialect) (t : Typ) → Under d top t → t ≡ top
over_top_is d _ (under_top _) = refl

pub below_bool : (s : Typ) (d : Dialect) → IsBelow s bool d → s ≡ bool
below_bool s d below = under_bool_is d s (below_under s bool d below)

pub below_nat : (s : Typ) (d : Dialect) → IsBelow s nat d → (s ≡ nat) ⊎ ((s ≡ bool) × (d ≡ Dialect.Two))
below_nat s d below = under_nat_is d s (below_under s nat d below)

pub below_unit : (s : Typ) (d : Dialect) → IsBelow s unit d → s ≡ unit
below_unit s d below = under_unit_is d s (below_under s unit d below)

pub above_top : (t : Typ) (d : Dialect) → IsBelow top t d → t ≡ top
above_top t d below = over_top_is d t (below_under top t d below)

pub below_arrow_is : (s t1 t2 : Typ) (d : Dialect) → IsBelow s (arrow t1 t2) d → (s1 : Typ) × (s2 : Typ) × (s ≡ arrow s1 s2) × IsBelow t1 s1 d × IsBelow s2 t2 d
below_arrow_is s t1 t2 d below =
    let is = under_arrow_is d s t1 t2 (below_under s (arrow t1 t2) d below) in
    let parts = arrow_inside is.0 is.1 t1 t2 d (subst (λ u. IsBelow u (arrow t1 t2) d) is.2 below) in
    (is.0, is.1, is.2, parts.0, parts.1)

pub below_record_is : (s : Typ) (gs : Fields) (d : Dialect) → IsBelow s (record_of gs) d → (fs : Fields) × (s ≡ record_of fs) × AreWellFormed fs × AreBelow fs gs d
below_record_is s gs d below =
    let is = under_record_is d s gs (below_under s (record_of gs) d below) in
    let here = subst (λ u. IsBelow u (record_of gs) d) is.1 below in
    (is.0, is.1, (below_wf (record_of is.0) (record_of gs) d here).0, record_inside is.0 gs d here)

pub above_arrow_is : (s1 s2 t : Typ) (d : Dialect) → IsBelow (arrow s1 s2) t d → (t ≡ top) ⊎ ((t1 : Typ) × (t2 : Typ) × (t ≡ arrow t1 t2) × IsBelow t1 s1 d × IsBelow s2 t2 d)
above_arrow_is s1 s2 t d below = by (over_arrow_is d s1 s2 t (below_under (arrow s1 s2) t d below))
  where
    by : (t ≡ top) ⊎ ((t1 : Typ) × (t2 : Typ) × (t ≡ arrow t1 t2)) → (t ≡ top) ⊎ ((t1 : Typ) × (t2 : Typ) × (t ≡ arrow t1 t2) × IsBelow t1 s1 d × IsBelow s2 t2 d)
    by (inl e) = inl e
    by (inr is) = let parts = arrow_inside s1 s2 is.0 is.1 d (subst (λ u. IsBelow (arrow s1 s2) u d) is.2 below) in inr (is.0, is.1, is.2, parts.0, parts.1)

pub above_record_is : (fs : Fields) (t : Typ) (d : Dialect) → IsBelow (record_of fs) t d → (t ≡ top) ⊎ ((gs : Fields) × (t ≡ record_of gs) × AreWellFormed gs × AreBelow fs gs d)
above_record_is fs t d below = by (over_record_is d fs t (below_under (record_of fs) t d below))
  where
    by : (t ≡ top) ⊎ ((gs : Fields) × (t ≡ record_of gs)) → (t ≡ top) ⊎ ((gs : Fields) × (t ≡ record_of gs) × AreWellFormed gs × AreBelow fs gs d)
    by (inl e) = inl e
    by (inr is) =
        let here = subst (λ u. IsBelow (record_of fs) u d) is.1 below in
        inr (is.0, is.1, (below_wf (record_of fs) (record_of is.0) d here).1, record_inside fs is.0 d here)

-- one field of several

pub field_iff : (fs : Fields) (d : Dialect) (l : Label) (s t : Typ) → AreWellFormed fs → Has l s fs → ((u : Typ) × Has l u fs × IsBelow u t d) ↔ IsBelow s t d
field_iff fs d l s t wf has = (
  λ h. subst (λ u. IsBelow u t d) (one_type fs wf l h.0 s h.1 has) h.2,
  λ h. (s, has, h),
)

pub no_field : (fs : Fields) (d : Dialect) (l : Label) (t : Typ) → IsAbsent l fs → ((u : Typ) × Has l u fs × IsBelow u t d) → ⊥
no_field fs d l t absent h = absent_not l fs h.0 absent h.1

pub nodes_of_field : (fs : Fields) (l : Label) (s : Typ) → Has l s fs → nodes s ≤ nodes_in fs
nodes_of_field no_fields l s has = absurd has
nodes_of_field (field k u fs) l s (inl e) = let same = ap nodes e.1 in omega arith
nodes_of_field (field k u fs) l s (inr has) = let below = nodes_of_field fs l s has in omega arith

pub ruleset shapes_below = (below_refl, below_top, bool_below_nat, arrow_iff, record_iff, below_bool, below_nat, below_unit, below_arrow_is, below_record_is, above_top)

pub ruleset fields_one_by_one = (has_wf, field_iff, no_field, nodes_of_field)
