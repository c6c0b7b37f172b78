-- Every two types have a join, and a meet or nothing below both.
use Rattle.std.proofs.Common.{◌≡◌, ◌⊎◌, refl, inl, inr, subst}
use Rattle.lam_rules.specs.Types.{Label, Typ, bool, nat, unit, top, arrow, record_of, Fields, no_fields, field, Has, IsAbsent, joined, IsWellFormed, AreWellFormed}
use Rattle.lam_rules.specs.Subtyping.{IsBelow}
use Rattle.lam_rules.specs.declared.rules.Dialect.{Dialect}
use Rattle.lam_rules.proofs.SharedTexts.{has_wf}
use Rattle.lam_rules.proofs.Composing.{below_refl, below_top}
use Rattle.lam_sub.specs.OtherFields.{other_fields}
use Rattle.lam_sub.proofs.LookUps.{label_or}
use Rattle.lam_sub.proofs.Below.{below_bool, below_nat, below_unit, bool_below_nat, below_arrow_is, below_record_is}
use Rattle.lam_lattice.specs.inner.Bounds.{IsJoin, IsMeet, HaveNoMeet}
use Rattle.lam_lattice.specs.inner.Records.{AreUnlike, AreJoined, joined_none, joined_both, joined_left_out, AreMet, met_none, met_both, met_alone}
use Rattle.lam_lattice.proofs.Unlike.{join_above, join_below, meet_above, meet_below, join_unlike_top, no_meet_unlike}
use Rattle.lam_lattice.proofs.Arrows.{arrows_join, arrows_join_top, arrows_meet, arrows_no_meet}
use Rattle.lam_lattice.proofs.FieldBounds.{Joins, Meets, records_join, records_meet, records_no_meet}

-- what two types have as bounds
pub record HaveBounds (s t : Typ) (d : Dialect) : Type 0 where
  pub join : (j : Typ) × IsJoin s t j d
  pub meet : ((m : Typ) × IsMeet s t m d) ⊎ HaveNoMeet s t d

-- two types one of which is below the other, and two that are not

ordered : (s t : Typ) (d : Dialect) → IsBelow s t d → HaveBounds s t d
ordered s t d below = record { join = (t, join_above s t d below); meet = inl (s, meet_above s t d below) }

turned : (s t : Typ) (d : Dialect) → IsBelow t s d → HaveBounds s t d
turned s t d below = record { join = (s, join_below s t d below); meet = inl (t, meet_below s t d below) }

apart : (s t : Typ) (d : Dialect) → IsWellFormed s → IsWellFormed t → AreUnlike s t → (IsBelow s t d → ⊥) → (IsBelow t s d → ⊥) → HaveBounds s t d
apart s t d ws wt unlike n m = record { join = (top, join_unlike_top s t d ws wt unlike n m); meet = inr (no_meet_unlike s t d ws wt unlike n m) }

-- each pair of shapes

abbrev Bounded : Typ → Type 0
Bounded s = (t : Typ) (d : Dialect) → IsWellFormed s → IsWellFormed t → HaveBounds s t d

not_bool_nat : IsBelow bool nat Dialect.One → ⊥
not_bool_nat below = by (below_nat bool Dialect.One below)
  where
    by : (bool ≡ nat) ⊎ ((bool ≡ bool) × (Dialect.One ≡ Dialect.Two)) → ⊥
    by (inl e) = cc
    by (inr e) = cc

not_nat : (s : Typ) (d : Dialect) → (s ≡ nat → ⊥) → (s ≡ bool → ⊥) → IsBelow s nat d → ⊥
not_nat s d n m below = by (below_nat s d below)
  where
    by : (s ≡ nat) ⊎ ((s ≡ bool) × (d ≡ Dialect.Two)) → ⊥
    by (inl e) = n e
    by (inr e) = m e.0

bool_nat : (d : Dialect) → HaveBounds bool nat d
bool_nat Dialect.One = apart bool nat Dialect.One tt tt tt not_bool_nat (λ below. cc (below_bool nat Dialect.One below))
bool_nat Dialect.Two = ordered bool nat Dialect.Two bool_below_nat

nat_bool : (d : Dialect) → HaveBounds nat bool d
nat_bool Dialect.One = apart nat bool Dialect.One tt tt tt (λ below. cc (below_bool nat Dialect.One below)) not_bool_nat
nat_bool Dialect.Two = turned nat bool Dialect.Two bool_below_nat

bounds_bool : Bounded bool
bounds_bool bool d ws wt = ordered bool bool d (below_refl bool d tt)
bounds_bool nat d ws wt = bool_nat d
bounds_bool unit d ws wt = apart bool unit d tt tt tt (λ below. cc (below_unit bool d below)) (λ below. cc (below_bool unit d below))
bounds_bool top d ws wt = ordered bool top d (below_top bool d tt)
bounds_bool (arrow t1 t2) d ws wt = apart bool (arrow t1 t2) d tt wt tt (λ below. cc (below_arrow_is bool t1 t2 d below).2) (λ below. cc (below_bool (arrow t1 t2) d below))
bounds_bool (record_of gs) d ws wt = apart bool (record_of gs) d tt wt tt (λ below. cc (below_record_is bool gs d below).1) (λ below. cc (below_bool (record_of gs) d below))

bounds_nat : Bounded nat
bounds_nat bool d ws wt = nat_bool d
bounds_nat nat d ws wt = ordered nat nat d (below_refl nat d tt)
bounds_nat unit d ws wt = apart nat unit d tt tt tt (λ below. cc (below_unit nat d below)) (not_nat unit d (λ e. cc) (λ e. cc))
bounds_nat top d ws wt = ordered nat top d (below_top nat d tt)
bounds_nat (arrow t1 t2) d ws wt = apart nat (arrow t1 t2) d tt wt tt (λ below. cc (below_arrow_is nat t1 t2 d below).2) (not_nat (arrow t1 t2) d (λ e. cc) (λ e. cc))
bounds_nat (record_of gs) d ws wt = apart nat (record_of gs) d tt wt tt (λ below. cc (below_record_is nat gs d below).1) (not_nat (record_of gs) d (λ e. cc) (λ e. cc))

bounds_unit : Bounded unit
bounds_unit bool d ws wt = apart unit bool d tt tt tt (λ below. cc (below_bool unit d below)) (λ below. cc (below_unit bool d below))
bounds_unit nat d ws wt = apart unit nat d tt tt tt (not_nat unit d (λ e. cc) (λ e. cc)) (λ below. cc (below_unit nat d below))
bounds_unit unit d ws wt = ordered unit unit d (below_refl unit d tt)
bounds_unit top d ws wt = ordered unit top d (below_top unit d tt)
bounds_unit (arrow t1 t2) d ws wt = apart unit (arrow t1 t2) d tt wt tt (λ below. cc (below_arrow_is unit t1 t2 d below).2) (λ below. cc (below_unit (arrow t1 t2) d below))
bounds_unit (record_of gs) d ws wt = apart unit (record_of gs) d tt wt tt (λ below. cc (below_record_is unit gs d below).1) (λ below. cc (below_unit (record_of gs) d below))

bounds_top : Bounded top
bounds_top t d ws wt = turned top t d (below_top t d wt)

bounds_arrow : (s1 s2 : Typ) → Bounded s1 → Bounded s2 → Bounded (arrow s1 s2)
bounds_arrow s1 s2 b1 b2 bool d ws wt = apart (arrow s1 s2) bool d ws tt tt (λ below. cc (below_bool (arrow s1 s2) d below)) (λ below. cc (below_arrow_is bool s1 s2 d below).2)
bounds_arrow s1 s2 b1 b2 nat d ws wt = apart (arrow s1 s2) nat d ws tt tt (not_nat (arrow s1 s2) d (λ e. cc) (λ e. cc)) (λ below. cc (below_arrow_is nat s1 s2 d below).2)
bounds_arrow s1 s2 b1 b2 unit d ws wt = apart (arrow s1 s2) unit d ws tt tt (λ below. cc (below_unit (arrow s1 s2) d below)) (λ below. cc (below_arrow_is unit s1 s2 d below).2)
bounds_arrow s1 s2 b1 b2 top d ws wt = ordered (arrow s1 s2) top d (below_top (arrow s1 s2) d ws)
bounds_arrow s1 s2 b1 b2 (record_of gs) d ws wt = apart (arrow s1 s2) (record_of gs) d ws wt tt (λ below. cc (below_record_is (arrow s1 s2) gs d below).1) (λ below. cc (below_arrow_is (record_of gs) s1 s2 d below).2)
bounds_arrow s1 s2 b1 b2 (arrow t1 t2) d ws wt = both (b1 t1 d ws.0 wt.0) (b2 t2 d ws.1 wt.1)
  where
    join_of : HaveBounds s1 t1 d → HaveBounds s2 t2 d → ((m : Typ) × IsMeet s1 t1 m d) ⊎ HaveNoMeet s1 t1 d → (j : Typ) × IsJoin (arrow s1 s2) (arrow t1 t2) j d
    join_of parameters outcomes (inl met) = (arrow met.0 outcomes.join.0, arrows_join s1 s2 t1 t2 met.0 outcomes.join.0 d met.1 outcomes.join.1)
    join_of parameters outcomes (inr none) = (top, arrows_join_top s1 s2 t1 t2 d ws wt none)

    meet_of : HaveBounds s1 t1 d → HaveBounds s2 t2 d → ((m : Typ) × IsMeet s2 t2 m d) ⊎ HaveNoMeet s2 t2 d → ((m : Typ) × IsMeet (arrow s1 s2) (arrow t1 t2) m d) ⊎ HaveNoMeet (arrow s1 s2) (arrow t1 t2) d
    meet_of parameters outcomes (inl met) = inl (arrow parameters.join.0 met.0, arrows_meet s1 s2 t1 t2 parameters.join.0 met.0 d parameters.join.1 met.1)
    meet_of parameters outcomes (inr none) = inr (arrows_no_meet s1 s2 t1 t2 d none)

    both : HaveBounds s1 t1 d → HaveBounds s2 t2 d → HaveBounds (arrow s1 s2) (arrow t1 t2) d
    both parameters outcomes = record { join = join_of parameters outcomes parameters.meet; meet = meet_of parameters outcomes outcomes.meet }

-- two lists of fields, where each type in the first has bounds with any type

abbrev EachBounded : Fields → Type 0
EachBounded fs = (l : Label) (s : Typ) → Has l s fs → Bounded s

fields_join : (d : Dialect) (gs fs : Fields) → EachBounded fs → AreWellFormed fs → AreWellFormed gs → (hs : Fields) × AreJoined (Joins d) gs fs hs
fields_join d gs no_fields each wf wg = (no_fields, joined_none)
fields_join d gs (field l s fs) each wf wg = by (label_or l gs) (fields_join d gs fs (λ k u has. each k u (inr has)) wf.2 wg)
  where
    by : ((t : Typ) × Has l t gs) ⊎ IsAbsent l gs → (hs : Fields) × AreJoined (Joins d) gs fs hs → (hs : Fields) × AreJoined (Joins d) gs (field l s fs) hs
    by (inl found) rest =
        let bounds = each l s (inl (refl, refl)) found.0 d wf.0 (has_wf gs wg l found.0 found.1) in
        (field l bounds.join.0 rest.0, joined_both l s found.0 bounds.join.0 found.1 bounds.join.1 rest.1)
    by (inr absent) rest = (rest.0, joined_left_out l s absent rest.1)

fields_meet : (d : Dialect) (gs fs : Fields) → EachBounded fs → AreWellFormed fs → AreWellFormed gs
    → ((hs : Fields) × AreMet (Meets d) gs fs hs) ⊎ ((l : Label) × (s : Typ) × (t : Typ) × Has l s fs × Has l t gs × HaveNoMeet s t d)
fields_meet d gs no_fields each wf wg = inl (no_fields, met_none)
fields_meet d gs (field l s fs) each wf wg = by (label_or l gs) (fields_meet d gs fs (λ k u has. each k u (inr has)) wf.2 wg)
  where
    beside : (t : Typ) → Has l t gs → ((m : Typ) × IsMeet s t m d) ⊎ HaveNoMeet s t d → (hs : Fields) × AreMet (Meets d) gs fs hs
        → ((hs : Fields) × AreMet (Meets d) gs (field l s fs) hs) ⊎ ((k : Label) × (u : Typ) × (v : Typ) × Has k u (field l s fs) × Has k v gs × HaveNoMeet u v d)
    beside t has (inl met) rest = inl (field l met.0 rest.0, met_both l s t met.0 has met.1 rest.1)
    beside t has (inr none) rest = inr (l, s, t, inl (refl, refl), has, none)

    by : ((t : Typ) × Has l t gs) ⊎ IsAbsent l gs
        → ((hs : Fields) × AreMet (Meets d) gs fs hs) ⊎ ((k : Label) × (u : Typ) × (v : Typ) × Has k u fs × Has k v gs × HaveNoMeet u v d)
        → ((hs : Fields) × AreMet (Meets d) gs (field l s fs) hs) ⊎ ((k : Label) × (u : Typ) × (v : Typ) × Has k u (field l s fs) × Has k v gs × HaveNoMeet u v d)
    by found (inr none) = inr (none.0, none.1, none.2, inr none.3, none.4, none.5)
    by (inl found) (inl rest) =
        let bounds = each l s (inl (refl, refl)) found.0 d wf.0 (has_wf gs wg l found.0 found.1) in
        beside found.0 found.1 bounds.meet rest
    by (inr absent) (inl rest) = inl (field l s rest.0, met_alone l s absent rest.1)

bounds_record : (fs : Fields) → EachBounded fs → Bounded (record_of fs)
bounds_record fs each bool d ws wt = apart (record_of fs) bool d ws tt tt (λ below. cc (below_bool (record_of fs) d below)) (λ below. cc (below_record_is bool fs d below).1)
bounds_record fs each nat d ws wt = apart (record_of fs) nat d ws tt tt (not_nat (record_of fs) d (λ e. cc) (λ e. cc)) (λ below. cc (below_record_is nat fs d below).1)
bounds_record fs each unit d ws wt = apart (record_of fs) unit d ws tt tt (λ below. cc (below_unit (record_of fs) d below)) (λ below. cc (below_record_is unit fs d below).1)
bounds_record fs each top d ws wt = ordered (record_of fs) top d (below_top (record_of fs) d ws)
bounds_record fs each (arrow t1 t2) d ws wt = apart (record_of fs) (arrow t1 t2) d ws wt tt (λ below. cc (below_arrow_is (record_of fs) t1 t2 d below).2) (λ below. cc (below_record_is (arrow t1 t2) fs d below).1)
bounds_record fs each (record_of gs) d ws wt = record {
  join = let made = fields_join d gs fs each ws wt in (record_of made.0, records_join d fs gs made.0 ws wt made.1);
  meet = by (fields_meet d gs fs each ws wt);
}
  where
    by : ((hs : Fields) × AreMet (Meets d) gs fs hs) ⊎ ((l : Label) × (s : Typ) × (t : Typ) × Has l s fs × Has l t gs × HaveNoMeet s t d)
        → ((m : Typ) × IsMeet (record_of fs) (record_of gs) m d) ⊎ HaveNoMeet (record_of fs) (record_of gs) d
    by (inl made) = inl (record_of (joined made.0 (other_fields gs fs)), records_meet d fs gs made.0 ws wt made.1)
    by (inr none) = inr (records_no_meet d fs gs none.0 none.1 none.2 none.3 none.4 none.5)

mutual
  pub bounds_exist : (s : Typ) → (t : Typ) (d : Dialect) → IsWellFormed s → IsWellFormed t → HaveBounds s t d
  bounds_exist bool = bounds_bool
  bounds_exist nat = bounds_nat
  bounds_exist unit = bounds_unit
  bounds_exist top = bounds_top
  bounds_exist (arrow s1 s2) = bounds_arrow s1 s2 (bounds_exist s1) (bounds_exist s2)
  bounds_exist (record_of fs) = bounds_record fs (each_exists fs)

  each_exists : (fs : Fields) (l : Label) (s : Typ) → Has l s fs → (t : Typ) (d : Dialect) → IsWellFormed s → IsWellFormed t → HaveBounds s t d
  each_exists no_fields l s has = absurd has
  each_exists (field k u fs) l s (inl e) = subst (λ v. (t : Typ) (d : Dialect) → IsWellFormed v → IsWellFormed t → HaveBounds v t d) e.1 (bounds_exist u)
  each_exists (field k u fs) l s (inr has) = each_exists fs l s has

pub joins_exist : (s t : Typ) (d : Dialect) → IsWellFormed s → IsWellFormed t → (j : Typ) × IsJoin s t j d
joins_exist s t d ws wt = (bounds_exist s t d ws wt).join

pub meets_decided : (s t : Typ) (d : Dialect) → IsWellFormed s → IsWellFormed t → ((m : Typ) × IsMeet s t m d) ⊎ HaveNoMeet s t d
meets_decided s t d ws wt = (bounds_exist s t d ws wt).meet
