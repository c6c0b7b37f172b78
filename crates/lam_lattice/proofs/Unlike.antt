-- Bounds of types that are not of one shape.
use Rattle.std.proofs.Common.{◌≡◌, sym, refl, subst}
use Rattle.lam_rules.specs.Types.{Typ, top, IsWellFormed}
use Rattle.lam_rules.specs.Subtyping.{IsBelow}
use Rattle.lam_rules.specs.declared.rules.Dialect.{Dialect}
use Rattle.lam_rules.proofs.ByShape.{Under, under_bool, under_nat, under_unit, under_top, under_arrow, under_record, under_bool_nat, below_under, below_wf}
use Rattle.lam_rules.proofs.Composing.{below_refl, below_top}
use Rattle.lam_sub.proofs.Below.{under_below}
use Rattle.lam_lattice.specs.inner.Bounds.{IsJoin, IsMeet, HaveNoMeet}
use Rattle.lam_lattice.specs.inner.Records.{AreUnlike}

-- if one type is above another, it is their join, and the other is their meet

pub join_above : (s t : Typ) (d : Dialect) → IsBelow s t d → IsJoin s t t d
join_above s t d below = record { left = below; right = below_refl t d (below_wf s t d below).1; least = λ u a b. b }

pub join_below : (s t : Typ) (d : Dialect) → IsBelow t s d → IsJoin s t s d
join_below s t d below = record { left = below_refl s d (below_wf t s d below).1; right = below; least = λ u a b. a }

pub meet_above : (s t : Typ) (d : Dialect) → IsBelow s t d → IsMeet s t s d
meet_above s t d below = record { left = below_refl s d (below_wf s t d below).0; right = below; greatest = λ u a b. a }

pub meet_below : (s t : Typ) (d : Dialect) → IsBelow t s d → IsMeet s t t d
meet_below s t d below = record { left = below; right = below_refl t d (below_wf t s d below).0; greatest = λ u a b. b }

-- with neither above the other, types that are not of one shape have nothing but Top above them ..

above_is_top : (d : Dialect) (s t u : Typ) → AreUnlike s t → Under d s u → Under d t u → (Under d s t → ⊥) → (Under d t s → ⊥) → u ≡ top
above_is_top d s t _ unlike (under_top _) b n m = refl
above_is_top d _ t _ unlike under_bool b n m = absurd (m b)
above_is_top d _ t _ unlike under_nat b n m = absurd (m b)
above_is_top d _ t _ unlike under_unit b n m = absurd (m b)
above_is_top d _ _ _ unlike (under_arrow a1 a2) (under_arrow b1 b2) n m = absurd unlike
above_is_top d _ _ _ unlike (under_record a) (under_record b) n m = absurd unlike
above_is_top _ _ _ _ unlike under_bool_nat under_nat n m = absurd (n under_bool_nat)
above_is_top _ _ _ _ unlike under_bool_nat under_bool_nat n m = absurd (n under_bool)

pub join_unlike_top : (s t : Typ) (d : Dialect) → IsWellFormed s → IsWellFormed t → AreUnlike s t → (IsBelow s t d → ⊥) → (IsBelow t s d → ⊥) → IsJoin s t top d
join_unlike_top s t d ws wt unlike n m = record {
  left = below_top s d ws;
  right = below_top t d wt;
  least = λ u a b.
      subst (λ v. IsBelow top v d)
      (sym (above_is_top d s t u unlike (below_under s u d a) (below_under t u d b) (λ under. n (under_below d s t under ws wt)) (λ under. m (under_below d t s under wt ws))))
      (below_refl top d tt);
}

-- .. and nothing below them

nothing_below : (d : Dialect) (s t u : Typ) → AreUnlike s t → Under d u s → Under d u t → (Under d s t → ⊥) → (Under d t s → ⊥) → ⊥
nothing_below d _ t u unlike (under_top _) b n m = m (under_top t)
nothing_below d s _ u unlike a (under_top _) n m = n (under_top s)
nothing_below d _ t _ unlike under_bool b n m = n b
nothing_below d _ t _ unlike under_nat b n m = n b
nothing_below d _ t _ unlike under_unit b n m = n b
nothing_below d _ _ _ unlike (under_arrow a1 a2) (under_arrow b1 b2) n m = unlike
nothing_below d _ _ _ unlike (under_record a) (under_record b) n m = unlike
nothing_below _ _ _ _ unlike under_bool_nat under_bool n m = m under_bool_nat
nothing_below _ _ _ _ unlike under_bool_nat under_bool_nat n m = n under_nat

pub no_meet_unlike : (s t : Typ) (d : Dialect) → IsWellFormed s → IsWellFormed t → AreUnlike s t → (IsBelow s t d → ⊥) → (IsBelow t s d → ⊥) → HaveNoMeet s t d
no_meet_unlike s t d ws wt unlike n m = λ u a b.
    nothing_below d s t u unlike (below_under u s d a) (below_under u t d b) (λ under. n (under_below d s t under ws wt)) (λ under. m (under_below d t s under wt ws))

-- from types to types that are equal to them

-- a join, a meet, and that there is no meet

pub join_seen : (s t j x y z : Typ) (d : Dialect) → x ≡ s → y ≡ t → z ≡ j → IsJoin x y z d → IsJoin s t j d
join_seen s t j x y z d is_s is_t is_j join =
    subst (λ u. IsJoin u t j d) is_s (subst (λ u. IsJoin x u j d) is_t (subst (λ u. IsJoin x y u d) is_j join))

pub meet_seen : (s t m x y z : Typ) (d : Dialect) → x ≡ s → y ≡ t → z ≡ m → IsMeet x y z d → IsMeet s t m d
meet_seen s t m x y z d is_s is_t is_m meet =
    subst (λ u. IsMeet u t m d) is_s (subst (λ u. IsMeet x u m d) is_t (subst (λ u. IsMeet x y u d) is_m meet))

pub no_meet_seen : (s t x y : Typ) (d : Dialect) → x ≡ s → y ≡ t → HaveNoMeet x y d → HaveNoMeet s t d
no_meet_seen s t x y d is_s is_t none = subst (λ u. HaveNoMeet u t d) is_s (subst (λ u. HaveNoMeet x u d) is_t none)

pub ruleset ordered = (join_above, join_below, meet_above, meet_below)
