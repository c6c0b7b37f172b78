-- Two joins of one pair of types, or two meets, are one type if both are in its order.
use Rattle.std.proofs.Common.{◌≡◌, ◌∙◌, ap, sym, refl, inl, inr, subst}
use Rattle.lam_rules.specs.Types.{Label, Typ, nat, arrow, record_of, Fields, field, joined, Has, IsWellFormed, AreWellFormed}
use Rattle.lam_rules.specs.Subtyping.{IsBelow}
use Rattle.lam_rules.specs.declared.rules.Dialect.{Dialect}
use Rattle.lam_rules.proofs.ByShape.{Under, under_bool, under_nat, under_unit, under_top, under_arrow, under_record, under_bool_nat, below_under, below_wf}
use Rattle.lam_rules.proofs.Permutations.{absent_not}
use Rattle.lam_rules.proofs.SharedTexts.{one_type, has_wf}
use Rattle.lam_sub.specs.OtherFields.{other_fields}
use Rattle.lam_sub.specs.BoundOrder.{HasNoParts, join_without_parts, join_of_arrows, join_of_records, FieldsJoinInOrder, join_no_fields, join_common, join_leaves_out, meet_without_parts, meet_under_top, meet_of_top, meet_of_arrows, meet_of_records, FieldsMeetInOrder, meet_no_fields, meet_common, meet_alone}
use Rattle.lam_sub.proofs.LookUps.{has_in_first}
use Rattle.lam_sub.proofs.Arranging.{field_below}
use Rattle.lam_sub.proofs.Below.{arrow_inside, record_inside, below_bool, above_top}
use Rattle.lam_lattice.specs.inner.Bounds.{IsJoin, IsMeet, JoinsInOrder, MeetsInOrder}

-- a type without parts is the only type that is both above and below it

one_without_parts : (d : Dialect) (j k : Typ) → HasNoParts j → Under d j k → IsBelow k j d → j ≡ k
one_without_parts d j _ n (under_top _) above = above_top j d above
one_without_parts d _ _ n under_bool above = refl
one_without_parts d _ _ n under_nat above = refl
one_without_parts d _ _ n under_unit above = refl
one_without_parts d _ _ n (under_arrow a b) above = absurd n
one_without_parts d _ _ n (under_record a) above = absurd n
one_without_parts _ _ _ n under_bool_nat above = cc (below_bool nat Dialect.Two above)

-- two types that are below each other
record AreLevel (d : Dialect) (j k : Typ) : Type 0 where
  below : IsBelow j k d
  above : IsBelow k j d

turned : (d : Dialect) (j k : Typ) → AreLevel d j k → AreLevel d k j
turned d j k level = record { below = level.above; above = level.below }

bare : (d : Dialect) (j k : Typ) → HasNoParts j → AreLevel d j k → j ≡ k
bare d j k n level = one_without_parts d j k n (below_under j k d level.below) level.above

parameters : (d : Dialect) (j1 j2 k1 k2 : Typ) → AreLevel d (arrow j1 j2) (arrow k1 k2) → AreLevel d j1 k1
parameters d j1 j2 k1 k2 level = record { below = (arrow_inside k1 k2 j1 j2 d level.above).0; above = (arrow_inside j1 j2 k1 k2 d level.below).0 }

outcomes : (d : Dialect) (j1 j2 k1 k2 : Typ) → AreLevel d (arrow j1 j2) (arrow k1 k2) → AreLevel d j2 k2
outcomes d j1 j2 k1 k2 level = record { below = (arrow_inside j1 j2 k1 k2 d level.below).1; above = (arrow_inside k1 k2 j1 j2 d level.above).1 }

-- the types that both lists have under one label are below each other
abbrev AreLevelFields : Dialect → Fields → Fields → Type 0
AreLevelFields d hs ks = (l : Label) (j k : Typ) → Has l j hs → Has l k ks → AreLevel d j k

field_under : (d : Dialect) (hs ks : Fields) → IsBelow (record_of hs) (record_of ks) d → (l : Label) (j k : Typ) → Has l j hs → Has l k ks → IsBelow j k d
field_under d hs ks below l j k one other =
    let found = field_below hs ks d (record_inside hs ks d below) l k other in
    subst (λ x. IsBelow x k d) (one_type hs (below_wf (record_of hs) (record_of ks) d below).0 l found.0 j found.1 one) found.2

fields_level : (d : Dialect) (hs ks : Fields) → AreLevel d (record_of hs) (record_of ks) → AreLevelFields d hs ks
fields_level d hs ks level l j k one other = record { below = field_under d hs ks level.below l j k one other; above = field_under d ks hs level.above l k j other one }

mutual
  one_join : (d : Dialect) (s t j k : Typ) → IsWellFormed t → JoinsInOrder s t j → JoinsInOrder s t k → AreLevel d j k → j ≡ k
  one_join d s t j k wt (join_without_parts n) other level = bare d j k n level
  one_join d s t j k wt one (join_without_parts n) level = sym (bare d k j n (turned d j k level))
  one_join d _ _ _ _ wt (join_of_arrows {s1 = s1} {s2 = s2} {t1 = t1} {t2 = t2} {m = m} {j = j} a b) (join_of_arrows {m = n} {j = k} x y) level =
      ap (λ p. arrow p j) (one_meet d s1 t1 m n wt.0 a x (parameters d m j n k level)) ∙ ap (λ o. arrow n o) (one_join d s2 t2 j k wt.1 b y (outcomes d m j n k level))
  one_join d _ _ _ _ wt (join_of_records {fs = fs} {gs = gs} {hs = hs} a) (join_of_records {hs = ks} x) level =
      ap record_of (one_join_of_fields d fs gs hs ks wt a x (fields_level d hs ks level))

  one_join_of_fields : (d : Dialect) (fs gs hs ks : Fields) → AreWellFormed gs → FieldsJoinInOrder fs gs hs → FieldsJoinInOrder fs gs ks → AreLevelFields d hs ks → hs ≡ ks
  one_join_of_fields d _ gs _ _ wg join_no_fields join_no_fields level = refl
  one_join_of_fields d _ gs _ _ wg (join_common {l = l} {s = s} {t = t} {j = j} {fs = fs} {hs = hs} has a more) (join_common {t = u} {j = k} {hs = ks} found x others) level =
      ap (λ x. field l x hs) (one_join d s t j k (has_wf gs wg l t has) a (subst (λ v. JoinsInOrder s v k) (one_type gs wg l u t found has) x) (level l j k (inl (refl, refl)) (inl (refl, refl))))
      ∙ ap (λ rest. field l k rest) (one_join_of_fields d fs gs hs ks wg more others (λ i u v one other. level i u v (inr one) (inr other)))
  one_join_of_fields d _ gs _ _ wg (join_common {l = l} {t = t} has a more) (join_leaves_out absent others) level = absurd (absent_not l gs t absent has)
  one_join_of_fields d _ gs _ _ wg (join_leaves_out {l = l} absent more) (join_common {t = t} has x others) level = absurd (absent_not l gs t absent has)
  one_join_of_fields d _ gs hs ks wg (join_leaves_out {fs = fs} absent more) (join_leaves_out missing others) level = one_join_of_fields d fs gs hs ks wg more others level

  one_meet : (d : Dialect) (s t m n : Typ) → IsWellFormed t → MeetsInOrder s t m → MeetsInOrder s t n → AreLevel d m n → m ≡ n
  one_meet d s t m n wt (meet_without_parts bare_one) other level = bare d m n bare_one level
  one_meet d s t m n wt one (meet_without_parts bare_one) level = sym (bare d n m bare_one (turned d m n level))
  one_meet d _ _ _ _ wt meet_under_top meet_under_top level = refl
  one_meet d _ _ _ _ wt meet_under_top meet_of_top level = refl
  one_meet d _ _ _ _ wt meet_of_top meet_under_top level = refl
  one_meet d _ _ _ _ wt meet_of_top meet_of_top level = refl
  one_meet d _ _ _ _ wt (meet_of_arrows {s1 = s1} {s2 = s2} {t1 = t1} {t2 = t2} {j = j} {m = m} a b) (meet_of_arrows {j = k} {m = n} x y) level =
      ap (λ p. arrow p m) (one_join d s1 t1 j k wt.0 a x (parameters d j m k n level)) ∙ ap (λ o. arrow k o) (one_meet d s2 t2 m n wt.1 b y (outcomes d j m k n level))
  one_meet d _ _ _ _ wt (meet_of_records {fs = fs} {gs = gs} {hs = hs} a) (meet_of_records {hs = ks} x) level =
      let whole = fields_level d (joined hs (other_fields gs fs)) (joined ks (other_fields gs fs)) level in
      ap (λ ms. record_of (joined ms (other_fields gs fs)))
      (one_meet_of_fields d fs gs hs ks wt a x (λ l u v one other. whole l u v (has_in_first hs (other_fields gs fs) l u one) (has_in_first ks (other_fields gs fs) l v other)))

  one_meet_of_fields : (d : Dialect) (fs gs hs ks : Fields) → AreWellFormed gs → FieldsMeetInOrder fs gs hs → FieldsMeetInOrder fs gs ks → AreLevelFields d hs ks → hs ≡ ks
  one_meet_of_fields d _ gs _ _ wg meet_no_fields meet_no_fields level = refl
  one_meet_of_fields d _ gs _ _ wg (meet_common {l = l} {s = s} {t = t} {m = m} {fs = fs} {hs = hs} has a more) (meet_common {t = u} {m = n} {hs = ks} found x others) level =
      ap (λ x. field l x hs) (one_meet d s t m n (has_wf gs wg l t has) a (subst (λ v. MeetsInOrder s v n) (one_type gs wg l u t found has) x) (level l m n (inl (refl, refl)) (inl (refl, refl))))
      ∙ ap (λ rest. field l n rest) (one_meet_of_fields d fs gs hs ks wg more others (λ i u v one other. level i u v (inr one) (inr other)))
  one_meet_of_fields d _ gs _ _ wg (meet_common {l = l} {t = t} has a more) (meet_alone absent others) level = absurd (absent_not l gs t absent has)
  one_meet_of_fields d _ gs _ _ wg (meet_alone {l = l} absent more) (meet_common {t = t} has x others) level = absurd (absent_not l gs t absent has)
  one_meet_of_fields d _ gs _ _ wg (meet_alone {l = l} {s = s} {fs = fs} {hs = hs} absent more) (meet_alone {hs = ks} missing others) level =
      ap (λ rest. field l s rest) (one_meet_of_fields d fs gs hs ks wg more others (λ i u v one other. level i u v (inr one) (inr other)))

pub joins_are_one : (s t j k : Typ) (d : Dialect) → IsJoin s t j d → IsJoin s t k d → JoinsInOrder s t j → JoinsInOrder s t k → j ≡ k
joins_are_one s t j k d one other a b =
    one_join d s t j k (below_wf t j d one.right).0 a b (record { below = one.least k other.left other.right; above = other.least j one.left one.right })

pub meets_are_one : (s t m n : Typ) (d : Dialect) → IsMeet s t m d → IsMeet s t n d → MeetsInOrder s t m → MeetsInOrder s t n → m ≡ n
meets_are_one s t m n d one other a b =
    one_meet d s t m n (below_wf m t d one.right).1 a b (record { below = other.greatest m one.left one.right; above = one.greatest n other.left other.right })
