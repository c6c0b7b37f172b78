-- The order in which the fields of bounds stand.
use Rattle.std.proofs.Common.{◌≡◌, ◌∙◌, ap, refl, inl, inr, subst}
use Rattle.lam_rules.specs.Types.{Label, Typ, bool, nat, unit, top, arrow, record_of, Fields, no_fields, field, joined, Has}
use Rattle.lam_rules.specs.Subtyping.{IsBelow}
use Rattle.lam_rules.specs.declared.rules.Dialect.{Dialect}
use Rattle.lam_rules.proofs.ByShape.{Under, under_bool, under_nat, under_unit, under_top, under_arrow, under_record, under_bool_nat, below_under}
use Rattle.lam_rules.proofs.TypeShapes.{joined-none}
use Rattle.lam_sub.specs.OtherFields.{other_fields}
use Rattle.lam_sub.specs.BoundOrder.{join_without_parts, join_of_arrows, join_of_records, FieldsJoinInOrder, join_no_fields, join_common, join_leaves_out, meet_without_parts, meet_under_top, meet_of_top, meet_of_arrows, meet_of_records, FieldsMeetInOrder, meet_no_fields, meet_common, meet_alone}
use Rattle.lam_sub.proofs.LookUps.{others_without}
use Rattle.lam_lattice.specs.inner.Bounds.{JoinsInOrder, MeetsInOrder}
use Rattle.lam_lattice.specs.inner.Records.{AreUnlike, OrderlyJoins, OrderlyMeets, AreJoined, joined_none, joined_both, joined_left_out, AreMet, met_none, met_both, met_alone}
use Rattle.lam_lattice.proofs.FieldBounds.{Joins, Meets}

-- the bounds of a type and itself

abbrev IsWithin : Fields → Fields → Type 0
IsWithin fs gs = (l : Label) (s : Typ) → Has l s fs → Has l s gs

no_others : (fs gs : Fields) → IsWithin fs gs → other_fields fs gs ≡ no_fields
no_others no_fields gs within = refl
no_others (field l s fs) gs within = others_without l s s fs gs (within l s (inl (refl, refl))) ∙ no_others fs gs (λ k u has. within k u (inr has))

mutual
  pub join_of_same : (s : Typ) → JoinsInOrder s s s
  join_of_same bool = join_without_parts tt
  join_of_same nat = join_without_parts tt
  join_of_same unit = join_without_parts tt
  join_of_same top = join_without_parts tt
  join_of_same (arrow s t) = join_of_arrows (meet_of_same s) (join_of_same t)
  join_of_same (record_of fs) = join_of_records (join_of_same_fields fs fs (λ l s has. has))

  join_of_same_fields : (fs gs : Fields) → IsWithin fs gs → FieldsJoinInOrder fs gs fs
  join_of_same_fields no_fields gs within = join_no_fields
  join_of_same_fields (field l s fs) gs within =
      join_common (within l s (inl (refl, refl))) (join_of_same s) (join_of_same_fields fs gs (λ k u has. within k u (inr has)))

  pub meet_of_same : (s : Typ) → MeetsInOrder s s s
  meet_of_same bool = meet_without_parts tt
  meet_of_same nat = meet_without_parts tt
  meet_of_same unit = meet_without_parts tt
  meet_of_same top = meet_without_parts tt
  meet_of_same (arrow s t) = meet_of_arrows (join_of_same s) (meet_of_same t)
  meet_of_same (record_of fs) =
      subst (λ hs. MeetsInOrder (record_of fs) (record_of fs) (record_of hs))
      (ap (λ os. joined fs os) (no_others fs fs (λ l s has. has)) ∙ joined-none fs)
      (meet_of_records (meet_of_same_fields fs fs (λ l s has. has)))

  meet_of_same_fields : (fs gs : Fields) → IsWithin fs gs → FieldsMeetInOrder fs gs fs
  meet_of_same_fields no_fields gs within = meet_no_fields
  meet_of_same_fields (field l s fs) gs within =
      meet_common (within l s (inl (refl, refl))) (meet_of_same s) (meet_of_same_fields fs gs (λ k u has. within k u (inr has)))

-- if one of two types that are not of one shape is below the other, the two are their own bounds, in order

join_is_second : (d : Dialect) (s t : Typ) → AreUnlike s t → Under d s t → JoinsInOrder s t t
join_is_second d s _ unlike (under_top _) = join_without_parts tt
join_is_second d _ _ unlike under_bool = join_without_parts tt
join_is_second d _ _ unlike under_nat = join_without_parts tt
join_is_second d _ _ unlike under_unit = join_without_parts tt
join_is_second d _ _ unlike (under_arrow a b) = absurd unlike
join_is_second d _ _ unlike (under_record a) = absurd unlike
join_is_second _ _ _ unlike under_bool_nat = join_without_parts tt

join_is_first : (d : Dialect) (s t : Typ) → AreUnlike s t → Under d t s → JoinsInOrder s t s
join_is_first d _ t unlike (under_top _) = join_without_parts tt
join_is_first d _ _ unlike under_bool = join_without_parts tt
join_is_first d _ _ unlike under_nat = join_without_parts tt
join_is_first d _ _ unlike under_unit = join_without_parts tt
join_is_first d _ _ unlike (under_arrow a b) = absurd unlike
join_is_first d _ _ unlike (under_record a) = absurd unlike
join_is_first _ _ _ unlike under_bool_nat = join_without_parts tt

meet_is_first : (d : Dialect) (s t : Typ) → AreUnlike s t → Under d s t → MeetsInOrder s t s
meet_is_first d s _ unlike (under_top _) = meet_under_top
meet_is_first d _ _ unlike under_bool = meet_without_parts tt
meet_is_first d _ _ unlike under_nat = meet_without_parts tt
meet_is_first d _ _ unlike under_unit = meet_without_parts tt
meet_is_first d _ _ unlike (under_arrow a b) = absurd unlike
meet_is_first d _ _ unlike (under_record a) = absurd unlike
meet_is_first _ _ _ unlike under_bool_nat = meet_without_parts tt

meet_is_second : (d : Dialect) (s t : Typ) → AreUnlike s t → Under d t s → MeetsInOrder s t t
meet_is_second d _ t unlike (under_top _) = meet_of_top
meet_is_second d _ _ unlike under_bool = meet_without_parts tt
meet_is_second d _ _ unlike under_nat = meet_without_parts tt
meet_is_second d _ _ unlike under_unit = meet_without_parts tt
meet_is_second d _ _ unlike (under_arrow a b) = absurd unlike
meet_is_second d _ _ unlike (under_record a) = absurd unlike
meet_is_second _ _ _ unlike under_bool_nat = meet_without_parts tt

pub join_order_above : (s t : Typ) (d : Dialect) → AreUnlike s t → IsBelow s t d → JoinsInOrder s t t
join_order_above s t d unlike below = join_is_second d s t unlike (below_under s t d below)

pub join_order_below : (s t : Typ) (d : Dialect) → AreUnlike s t → IsBelow t s d → JoinsInOrder s t s
join_order_below s t d unlike below = join_is_first d s t unlike (below_under t s d below)

pub meet_order_above : (s t : Typ) (d : Dialect) → AreUnlike s t → IsBelow s t d → MeetsInOrder s t s
meet_order_above s t d unlike below = meet_is_first d s t unlike (below_under s t d below)

pub meet_order_below : (s t : Typ) (d : Dialect) → AreUnlike s t → IsBelow t s d → MeetsInOrder s t t
meet_order_below s t d unlike below = meet_is_second d s t unlike (below_under t s d below)

-- fields that are bounds in order are bounds, and in order

pub are_joins : (d : Dialect) (gs fs hs : Fields) → AreJoined (OrderlyJoins d) gs fs hs → AreJoined (Joins d) gs fs hs
are_joins d gs _ _ joined_none = joined_none
are_joins d gs _ _ (joined_both l s t j {fs = fs} {hs = hs} there made rest) = joined_both l s t j there made.0 (are_joins d gs fs hs rest)
are_joins d gs _ hs (joined_left_out l s {fs = fs} absent rest) = joined_left_out l s absent (are_joins d gs fs hs rest)

pub joins_are_ordered : (d : Dialect) (gs fs hs : Fields) → AreJoined (OrderlyJoins d) gs fs hs → FieldsJoinInOrder fs gs hs
joins_are_ordered d gs _ _ joined_none = join_no_fields
joins_are_ordered d gs _ _ (joined_both l s t j {fs = fs} {hs = hs} there made rest) = join_common there made.1 (joins_are_ordered d gs fs hs rest)
joins_are_ordered d gs _ hs (joined_left_out l s {fs = fs} absent rest) = join_leaves_out absent (joins_are_ordered d gs fs hs rest)

pub are_meets : (d : Dialect) (gs fs hs : Fields) → AreMet (OrderlyMeets d) gs fs hs → AreMet (Meets d) gs fs hs
are_meets d gs _ _ met_none = met_none
are_meets d gs _ _ (met_both l s t m {fs = fs} {hs = hs} there made rest) = met_both l s t m there made.0 (are_meets d gs fs hs rest)
are_meets d gs _ _ (met_alone l s {fs = fs} {hs = hs} absent rest) = met_alone l s absent (are_meets d gs fs hs rest)

pub meets_are_ordered : (d : Dialect) (gs fs hs : Fields) → AreMet (OrderlyMeets d) gs fs hs → FieldsMeetInOrder fs gs hs
meets_are_ordered d gs _ _ met_none = meet_no_fields
meets_are_ordered d gs _ _ (met_both l s t m {fs = fs} {hs = hs} there made rest) = meet_common there made.1 (meets_are_ordered d gs fs hs rest)
meets_are_ordered d gs _ _ (met_alone l s {fs = fs} {hs = hs} absent rest) = meet_alone absent (meets_are_ordered d gs fs hs rest)

-- the order of equal types is the same
pub order_seen : (InOrder : Typ → Typ → Typ → Type 0) (s t j x y z : Typ) → x ≡ s → y ≡ t → z ≡ j → InOrder x y z → InOrder s t j
order_seen InOrder s t j x y z is_s is_t is_j order =
    subst (λ u. InOrder u t j) is_s (subst (λ u. InOrder x u j) is_t (subst (λ u. InOrder x y u) is_j order))
