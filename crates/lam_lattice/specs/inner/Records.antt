-- Bounds of record types field by field, and pairs of types that are not of the same form.
use Rattle.lam_rules.specs.Types.{Label, Typ, arrow, record_of, Fields, no_fields, field, Has, IsAbsent}
use Rattle.lam_rules.specs.declared.rules.Dialect.{Dialect}
use Rattle.lam_lattice.specs.inner.Bounds.{IsJoin, IsMeet, JoinsInOrder, MeetsInOrder}

-- the types are not both arrows, and not both record types
abbrev pub AreUnlike : Typ → Typ → Type 0
AreUnlike (arrow s1 s2) (arrow t1 t2) = ⊥
AreUnlike (record_of fs) (record_of gs) = ⊥
AreUnlike _ _ = Unit {0}

-- the third type is a join of the first two, in the order of the first
abbrev pub OrderlyJoins : Dialect → Typ → Typ → Typ → Type 0
OrderlyJoins d s t j = IsJoin s t j d × JoinsInOrder s t j

-- the third type is a meet of the first two, in the order of the first
abbrev pub OrderlyMeets : Dialect → Typ → Typ → Typ → Type 0
OrderlyMeets d s t m = IsMeet s t m d × MeetsInOrder s t m

-- the labels that both lists have, in the order of the first, each with a type made from its two types, as in a join
pub data AreJoined (IsMade : Typ → Typ → Typ → Type 0) (gs : Fields) : Fields → Fields → Type 0 where
  joined_none : AreJoined IsMade gs no_fields no_fields
  joined_both : (l : Label) (s t j : Typ) {fs hs : Fields} → Has l t gs → IsMade s t j → AreJoined IsMade gs fs hs → AreJoined IsMade gs (field l s fs) (field l j hs)
  joined_left_out : (l : Label) (s : Typ) {fs hs : Fields} → IsAbsent l gs → AreJoined IsMade gs fs hs → AreJoined IsMade gs (field l s fs) hs

-- the labels of the first list in order: one that the second has too with a type made from its two types, as in a meet, any other with its own type
pub data AreMet (IsMade : Typ → Typ → Typ → Type 0) (gs : Fields) : Fields → Fields → Type 0 where
  met_none : AreMet IsMade gs no_fields no_fields
  met_both : (l : Label) (s t m : Typ) {fs hs : Fields} → Has l t gs → IsMade s t m → AreMet IsMade gs fs hs → AreMet IsMade gs (field l s fs) (field l m hs)
  met_alone : (l : Label) (s : Typ) {fs hs : Fields} → IsAbsent l gs → AreMet IsMade gs fs hs → AreMet IsMade gs (field l s fs) (field l s hs)
