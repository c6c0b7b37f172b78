-- The order of the fields in a join or a meet: that of the first type, at every depth.
use Rattle.lam_rules.specs.Types.{Label, Typ, top, arrow, record_of, Fields, no_fields, field, joined, Has, IsAbsent}
use Rattle.lam_sub.specs.OtherFields.{other_fields}

-- Bool, Nat, Unit and Top, which have no parts to order
abbrev pub HasNoParts : Typ → Type 0
HasNoParts (arrow s t) = ⊥
HasNoParts (record_of fs) = ⊥
HasNoParts _ = Unit {0}

mutual
  -- the third type, as a join of the first two, is in the order of the first
  pub data JoinsInOrder : Typ → Typ → Typ → Type 0 where
    join_without_parts : {s t j : Typ} → HasNoParts j → JoinsInOrder s t j
    join_of_arrows : {s1 s2 t1 t2 m j : Typ} → MeetsInOrder s1 t1 m → JoinsInOrder s2 t2 j → JoinsInOrder (arrow s1 s2) (arrow t1 t2) (arrow m j)
    join_of_records : {fs gs hs : Fields} → FieldsJoinInOrder fs gs hs → JoinsInOrder (record_of fs) (record_of gs) (record_of hs)

  -- the labels that both lists have, in the order of the first, each with a type that is in order too
  pub data FieldsJoinInOrder : Fields → Fields → Fields → Type 0 where
    join_no_fields : {gs : Fields} → FieldsJoinInOrder no_fields gs no_fields
    join_common : {l : Label} {s t j : Typ} {fs gs hs : Fields} → Has l t gs → JoinsInOrder s t j → FieldsJoinInOrder fs gs hs → FieldsJoinInOrder (field l s fs) gs (field l j hs)
    join_leaves_out : {l : Label} {s : Typ} {fs gs hs : Fields} → IsAbsent l gs → FieldsJoinInOrder fs gs hs → FieldsJoinInOrder (field l s fs) gs hs

  -- the third type, as a meet of the first two, is in the order of the first: its fields are followed by those that only the second has, in the order of the second
  pub data MeetsInOrder : Typ → Typ → Typ → Type 0 where
    meet_without_parts : {s t m : Typ} → HasNoParts m → MeetsInOrder s t m
    meet_under_top : {s : Typ} → MeetsInOrder s top s
    meet_of_top : {t : Typ} → MeetsInOrder top t t
    meet_of_arrows : {s1 s2 t1 t2 j m : Typ} → JoinsInOrder s1 t1 j → MeetsInOrder s2 t2 m → MeetsInOrder (arrow s1 s2) (arrow t1 t2) (arrow j m)
    meet_of_records : {fs gs hs : Fields} → FieldsMeetInOrder fs gs hs → MeetsInOrder (record_of fs) (record_of gs) (record_of (joined hs (other_fields gs fs)))

  -- the labels of the first list in order: one that the second has too with a type that is in order, any other with its own type
  pub data FieldsMeetInOrder : Fields → Fields → Fields → Type 0 where
    meet_no_fields : {gs : Fields} → FieldsMeetInOrder no_fields gs no_fields
    meet_common : {l : Label} {s t m : Typ} {fs gs hs : Fields} → Has l t gs → MeetsInOrder s t m → FieldsMeetInOrder fs gs hs → FieldsMeetInOrder (field l s fs) gs (field l m hs)
    meet_alone : {l : Label} {s : Typ} {fs gs hs : Fields} → IsAbsent l gs → FieldsMeetInOrder fs gs hs → FieldsMeetInOrder (field l s fs) gs (field l s hs)
