-- Whether one type is below another is decided, by the shape of the two.
use Rattle.std.proofs.Common.{◌⊎◌, inl, inr, refl, subst}
use Rattle.lam_rules.specs.Types.{Label, Typ, bool, nat, unit, top, arrow, record_of, Fields, no_fields, field, Has, IsAbsent, IsWellFormed, AreWellFormed}
use Rattle.lam_rules.specs.Subtyping.{IsBelow}
use Rattle.lam_rules.specs.declared.rules.Dialect.{Dialect}
use Rattle.lam_rules.proofs.ByShape.{Under, under_bool, under_nat, under_unit, under_top, under_arrow, under_record, under_bool_nat, FieldsUnder, fields_none, fields_more, below_under}
use Rattle.lam_rules.proofs.SharedTexts.{has_wf, one_type}
use Rattle.lam_rules.proofs.Permutations.{absent_not}
use Rattle.lam_sub.proofs.LookUps.{label_or}
use Rattle.lam_sub.proofs.Below.{under_below}

abbrev pub Decided : Dialect → Typ → Typ → Type 0
Decided d s t = Under d s t ⊎ (Under d s t → ⊥)

-- the shapes of two types of which the first may be below the second
abbrev MayBeUnder : Typ → Typ → Type 0
MayBeUnder s top = Unit {0}
MayBeUnder bool bool = Unit {0}
MayBeUnder bool nat = Unit {0}
MayBeUnder nat nat = Unit {0}
MayBeUnder unit unit = Unit {0}
MayBeUnder (arrow s1 s2) (arrow t1 t2) = Unit {0}
MayBeUnder (record_of fs) (record_of gs) = Unit {0}
MayBeUnder _ _ = ⊥

may_be : {d : Dialect} {s t : Typ} → Under d s t → MayBeUnder s t
may_be under_bool = tt
may_be under_nat = tt
may_be under_unit = tt
may_be (under_top s) = tt
may_be (under_arrow a b) = tt
may_be (under_record u) = tt
may_be under_bool_nat = tt

bool_not_nat : Under Dialect.One bool nat → ⊥
bool_not_nat u = elim u [ ]

-- an arrow reverses the order on its left side, so both directions are decided at once
abbrev BothWays : Dialect → Typ → Type 0
BothWays d s = (t : Typ) → IsWellFormed t → Decided d s t × Decided d t s

bool_nat : (d : Dialect) → Decided d bool nat
bool_nat Dialect.One = inr bool_not_nat
bool_nat Dialect.Two = inl under_bool_nat

bool_ways : (d : Dialect) → BothWays d bool
bool_ways d bool wf = (inl under_bool, inl under_bool)
bool_ways d nat wf = (bool_nat d, inr (λ u. may_be u))
bool_ways d top wf = (inl (under_top bool), inr (λ u. may_be u))
bool_ways d _ wf = (inr (λ u. may_be u), inr (λ u. may_be u))

nat_ways : (d : Dialect) → BothWays d nat
nat_ways d bool wf = (inr (λ u. may_be u), bool_nat d)
nat_ways d nat wf = (inl under_nat, inl under_nat)
nat_ways d top wf = (inl (under_top nat), inr (λ u. may_be u))
nat_ways d _ wf = (inr (λ u. may_be u), inr (λ u. may_be u))

unit_ways : (d : Dialect) → BothWays d unit
unit_ways d unit wf = (inl under_unit, inl under_unit)
unit_ways d top wf = (inl (under_top unit), inr (λ u. may_be u))
unit_ways d _ wf = (inr (λ u. may_be u), inr (λ u. may_be u))

top_ways : (d : Dialect) → BothWays d top
top_ways d top wf = (inl (under_top top), inl (under_top top))
top_ways d _ wf = (inr (λ u. may_be u), inl (under_top _))

arrow_parts : {d : Dialect} {s1 s2 t1 t2 : Typ} → Under d (arrow s1 s2) (arrow t1 t2) → Under d t1 s1 × Under d s2 t2
arrow_parts (under_arrow a b) = (a, b)

arrows : (d : Dialect) (s1 s2 t1 t2 : Typ) → Decided d t1 s1 → Decided d s2 t2 → Decided d (arrow s1 s2) (arrow t1 t2)
arrows d s1 s2 t1 t2 (inl a) (inl b) = inl (under_arrow a b)
arrows d s1 s2 t1 t2 (inr n) b = inr (λ u. n (arrow_parts u).0)
arrows d s1 s2 t1 t2 (inl a) (inr n) = inr (λ u. n (arrow_parts u).1)

arrow_ways : (d : Dialect) (s1 s2 : Typ) → BothWays d s1 → BothWays d s2 → BothWays d (arrow s1 s2)
arrow_ways d s1 s2 b1 b2 (arrow t1 t2) wf =
    let w1 = b1 t1 wf.0 in
    let w2 = b2 t2 wf.1 in
    (arrows d s1 s2 t1 t2 w1.1 w2.0, arrows d t1 t2 s1 s2 w1.0 w2.1)
arrow_ways d s1 s2 b1 b2 top wf = (inl (under_top (arrow s1 s2)), inr (λ u. may_be u))
arrow_ways d s1 s2 b1 b2 _ wf = (inr (λ u. may_be u), inr (λ u. may_be u))

record_parts : {d : Dialect} {fs gs : Fields} → Under d (record_of fs) (record_of gs) → FieldsUnder d fs gs
record_parts (under_record u) = u

first_under : {d : Dialect} {fs gs : Fields} {l : Label} {t : Typ} → FieldsUnder d fs (field l t gs) → ((s : Typ) × Has l s fs × Under d s t) × FieldsUnder d fs gs
first_under (fields_more s has down more) = ((s, has, down), more)

-- each way of a record: every field above is sought below, and the types of those found are compared
abbrev BothWaysEach : Dialect → Fields → Type 0
BothWaysEach d fs = (l : Label) (s : Typ) → Has l s fs → BothWays d s

fields_down : (d : Dialect) (fs gs : Fields) → AreWellFormed fs → AreWellFormed gs → BothWaysEach d fs → FieldsUnder d fs gs ⊎ (FieldsUnder d fs gs → ⊥)
fields_down d fs no_fields wf wg each = inl (fields_none fs)
fields_down d fs (field l t gs) wf wg each = by (label_or l fs) (fields_down d fs gs wf wg.2 each)
  where
    by : ((s : Typ) × Has l s fs) ⊎ IsAbsent l fs → FieldsUnder d fs gs ⊎ (FieldsUnder d fs gs → ⊥) → FieldsUnder d fs (field l t gs) ⊎ (FieldsUnder d fs (field l t gs) → ⊥)
    by (inr absent) rest = inr (λ u. let first = (first_under u).0 in absent_not l fs first.0 absent first.1)
    by (inl found) (inr n) = inr (λ u. n (first_under u).1)
    by (inl (s, has)) (inl rest) = compare (each l s has t wg.0).0
      where
        compare : Decided d s t → FieldsUnder d fs (field l t gs) ⊎ (FieldsUnder d fs (field l t gs) → ⊥)
        compare (inl down) = inl (fields_more s has down rest)
        compare (inr n) = inr (λ u. let first = (first_under u).0 in n (subst (λ x. Under d x t) (one_type fs wf l first.0 s first.1 has) first.2))

fields_up : (d : Dialect) (fs gs : Fields) → AreWellFormed fs → AreWellFormed gs → BothWaysEach d fs → FieldsUnder d gs fs ⊎ (FieldsUnder d gs fs → ⊥)
fields_up d no_fields gs wf wg each = inl (fields_none gs)
fields_up d (field l s fs) gs wf wg each = by (label_or l gs) (fields_up d fs gs wf.2 wg (λ k t has. each k t (inr has)))
  where
    by : ((t : Typ) × Has l t gs) ⊎ IsAbsent l gs → FieldsUnder d gs fs ⊎ (FieldsUnder d gs fs → ⊥) → FieldsUnder d gs (field l s fs) ⊎ (FieldsUnder d gs (field l s fs) → ⊥)
    by (inr absent) rest = inr (λ u. let first = (first_under u).0 in absent_not l gs first.0 absent first.1)
    by (inl found) (inr n) = inr (λ u. n (first_under u).1)
    by (inl (t, has)) (inl rest) = compare (each l s (inl (refl, refl)) t (has_wf gs wg l t has)).1
      where
        compare : Decided d t s → FieldsUnder d gs (field l s fs) ⊎ (FieldsUnder d gs (field l s fs) → ⊥)
        compare (inl down) = inl (fields_more t has down rest)
        compare (inr n) = inr (λ u. let first = (first_under u).0 in n (subst (λ x. Under d x s) (one_type gs wg l first.0 t first.1 has) first.2))

records : (d : Dialect) (fs gs : Fields) → FieldsUnder d fs gs ⊎ (FieldsUnder d fs gs → ⊥) → Decided d (record_of fs) (record_of gs)
records d fs gs (inl u) = inl (under_record u)
records d fs gs (inr n) = inr (λ u. n (record_parts u))

record_ways : (d : Dialect) (fs : Fields) → AreWellFormed fs → BothWaysEach d fs → BothWays d (record_of fs)
record_ways d fs wf each (record_of gs) wg = (records d fs gs (fields_down d fs gs wf wg each), records d gs fs (fields_up d fs gs wf wg each))
record_ways d fs wf each top wg = (inl (under_top (record_of fs)), inr (λ u. may_be u))
record_ways d fs wf each _ wg = (inr (λ u. may_be u), inr (λ u. may_be u))

mutual
  both_ways : (d : Dialect) (s : Typ) → IsWellFormed s → BothWays d s
  both_ways d bool wf = bool_ways d
  both_ways d nat wf = nat_ways d
  both_ways d unit wf = unit_ways d
  both_ways d top wf = top_ways d
  both_ways d (arrow s t) wf = arrow_ways d s t (both_ways d s wf.0) (both_ways d t wf.1)
  both_ways d (record_of fs) wf = record_ways d fs wf (both_ways_each d fs wf)

  both_ways_each : (d : Dialect) (fs : Fields) → AreWellFormed fs → BothWaysEach d fs
  both_ways_each d no_fields wf l s has = absurd has
  both_ways_each d (field k t fs) wf l s (inl e) = subst (BothWays d) e.1 (both_ways d t wf.0)
  both_ways_each d (field k t fs) wf l s (inr has) = both_ways_each d fs wf.2 l s has

decide_under : (d : Dialect) (s t : Typ) → IsWellFormed s → IsWellFormed t → Decided d s t
decide_under d s t ws wt = (both_ways d s ws t wt).0

pub decide_below : (d : Dialect) (s t : Typ) → IsWellFormed s → IsWellFormed t → IsBelow s t d ⊎ (IsBelow s t d → ⊥)
decide_below d s t ws wt = by (decide_under d s t ws wt)
  where
    by : Decided d s t → IsBelow s t d ⊎ (IsBelow s t d → ⊥)
    by (inl under) = inl (under_below d s t under ws wt)
    by (inr n) = inr (λ below. n (below_under s t d below))
