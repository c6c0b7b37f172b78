-- Bounds of two record types.
use Rattle.std.proofs.Common.{◌≡◌, ◌⊎◌, ℕ, ◌+◌, ◌<◌, ◌++◌, List, [], ◌∷◌, String, string_bytes, length, get_or, drop, sym, refl, inl, inr, subst}
use Rattle.std.specs.declared.alloc.Global.{Global}
use Rattle.lam_rules.specs.TypeViews.{typ_of, fields_of}
use Rattle.lam_rules.specs.declared.types.Ty.{Ty}
use Rattle.lam_rules.proofs.TypeShapes.{fields_of-drop, joined-push}
use Rattle.lam_rules.specs.Types.{Label, Typ, top, record_of, Fields, field, joined, Has, IsAbsent, IsWellFormed, AreWellFormed}
use Rattle.lam_rules.specs.Subtyping.{IsBelow}
use Rattle.lam_rules.specs.declared.rules.Dialect.{Dialect}
use Rattle.lam_rules.proofs.ByShape.{below_wf}
use Rattle.lam_rules.proofs.Permutations.{absent_not}
use Rattle.lam_rules.proofs.SharedTexts.{one_type, has_wf}
use Rattle.lam_rules.proofs.Composing.{below_refl, below_top}
use Rattle.lam_sub.specs.inner.FieldsBelow.{AreBelow}
use Rattle.lam_sub.specs.OtherFields.{other_fields}
use Rattle.lam_sub.proofs.LookUps.{label_or, absent_from, others_are, others_have, others_wf, joined_has, has_in_first, has_in_second, joined_wf}
use Rattle.lam_sub.proofs.Arranging.{field_below, fields_below, record_below}
use Rattle.lam_sub.proofs.Below.{record_inside, below_record_is, above_record_is}
use Rattle.lam_lattice.specs.inner.Bounds.{IsJoin, IsMeet, HaveNoMeet}
use Rattle.lam_lattice.specs.inner.Records.{AreJoined, joined_none, joined_both, joined_left_out, AreMet, met_none, met_both, met_alone}

-- the third type is a join of the first two
abbrev pub Joins : Dialect → Typ → Typ → Typ → Type 0
Joins d s t j = IsJoin s t j d

-- the third type is a meet of the first two
abbrev pub Meets : Dialect → Typ → Typ → Typ → Type 0
Meets d s t m = IsMeet s t m d

-- joins: each field made is the join of a field of each list ..

joined_from : (d : Dialect) (gs fs hs : Fields) → AreJoined (Joins d) gs fs hs → (l : Label) (j : Typ) → Has l j hs
    → (s : Typ) × (t : Typ) × Has l s fs × Has l t gs × IsJoin s t j d
joined_from d gs _ _ joined_none l j has = absurd has
joined_from d gs _ _ (joined_both k s t v there join rest) l j (inl e) =
    (s, t, inl (e.0, refl), subst (λ m. Has m t gs) e.0 there, subst (λ x. IsJoin s t x d) e.1 join)
joined_from d gs _ _ (joined_both k s t v {fs = fs} {hs = hs} there join rest) l j (inr has) =
    let found = joined_from d gs fs hs rest l j has in (found.0, found.1, inr found.2, found.3, found.4)
joined_from d gs _ hs (joined_left_out k s {fs = fs} absent rest) l j has =
    let found = joined_from d gs fs hs rest l j has in (found.0, found.1, inr found.2, found.3, found.4)

-- .. and two fields with one label have a join among those made
joined_to : (d : Dialect) (gs fs hs : Fields) → AreWellFormed gs → AreJoined (Joins d) gs fs hs → (l : Label) (s t : Typ) → Has l s fs → Has l t gs
    → (j : Typ) × Has l j hs × IsJoin s t j d
joined_to d gs _ _ wg joined_none l s t has there = absurd has
joined_to d gs _ _ wg (joined_both k u v j other join rest) l s t (inl e) there =
    let same = one_type gs wg l v t (subst (λ m. Has m v gs) e.0 other) there in
    (j, inl (e.0, refl), subst (λ x. IsJoin x t j d) e.1 (subst (λ x. IsJoin u x j d) same join))
joined_to d gs _ _ wg (joined_both k u v j {fs = fs} {hs = hs} other join rest) l s t (inr has) there =
    let found = joined_to d gs fs hs wg rest l s t has there in (found.0, inr found.1, found.2)
joined_to d gs _ hs wg (joined_left_out k u {fs = fs} absent rest) l s t (inl e) there = absurd (absent_not k gs t absent (subst (λ m. Has m t gs) (sym e.0) there))
joined_to d gs _ hs wg (joined_left_out k u {fs = fs} absent rest) l s t (inr has) there = joined_to d gs fs hs wg rest l s t has there

joined_are_wf : (d : Dialect) (gs fs hs : Fields) → AreWellFormed fs → AreJoined (Joins d) gs fs hs → AreWellFormed hs
joined_are_wf d gs _ _ wf joined_none = tt
joined_are_wf d gs _ _ wf (joined_both k s t j {fs = fs} {hs = hs} there join rest) =
    ((below_wf s j d join.left).1, absent_from k hs (λ v has. let found = joined_from d gs fs hs rest k v has in absent_not k fs found.0 wf.1 found.2), joined_are_wf d gs fs hs wf.2 rest)
joined_are_wf d gs _ hs wf (joined_left_out k s {fs = fs} absent rest) = joined_are_wf d gs fs hs wf.2 rest

pub records_join : (d : Dialect) (fs gs hs : Fields) → AreWellFormed fs → AreWellFormed gs → AreJoined (Joins d) gs fs hs → IsJoin (record_of fs) (record_of gs) (record_of hs) d
records_join d fs gs hs wf wg are = record {
  left = record_below fs hs d wf wh (fields_below fs hs d (λ l j has. let found = joined_from d gs fs hs are l j has in (found.0, found.2, found.4.left)));
  right = record_below gs hs d wg wh (fields_below gs hs d (λ l j has. let found = joined_from d gs fs hs are l j has in (found.1, found.3, found.4.right)));
  least = λ u a b. by u b (above_record_is fs u d a);
}
  where
    wh : AreWellFormed hs
    wh = joined_are_wf d gs fs hs wf are

    each : (us : Fields) → AreBelow fs us d → AreBelow gs us d → (l : Label) (v : Typ) → Has l v us → (j : Typ) × Has l j hs × IsBelow j v d
    each us a b l v has =
        let one = field_below fs us d a l v has in
        let other = field_below gs us d b l v has in
        let found = joined_to d gs fs hs wg are l one.0 other.0 one.1 other.1 in
        (found.0, found.1, found.2.least v one.2 other.2)

    by : (u : Typ) → IsBelow (record_of gs) u d → (u ≡ top) ⊎ ((us : Fields) × (u ≡ record_of us) × AreWellFormed us × AreBelow fs us d) → IsBelow (record_of hs) u d
    by u b (inl e) = subst (λ v. IsBelow (record_of hs) v d) (sym e) (below_top (record_of hs) d wh)
    by u b (inr is) =
        let other = record_inside gs is.0 d (subst (λ v. IsBelow (record_of gs) v d) is.1 b) in
        subst (λ v. IsBelow (record_of hs) v d) (sym is.1) (record_below hs is.0 d wh is.2 (fields_below hs is.0 d (each is.0 is.3 other)))

-- meets: below each field of the first list is one of those made ..

met_left : (d : Dialect) (gs fs hs : Fields) → AreWellFormed fs → AreMet (Meets d) gs fs hs → (l : Label) (s : Typ) → Has l s fs → (m : Typ) × Has l m hs × IsBelow m s d
met_left d gs _ _ wf met_none l s has = absurd has
met_left d gs _ _ wf (met_both k u t m there meet rest) l s (inl e) = (m, inl (e.0, refl), subst (λ x. IsBelow m x d) e.1 meet.left)
met_left d gs _ _ wf (met_both k u t m {fs = fs} {hs = hs} there meet rest) l s (inr has) = let found = met_left d gs fs hs wf.2 rest l s has in (found.0, inr found.1, found.2)
met_left d gs _ _ wf (met_alone k u absent rest) l s (inl e) = (s, inl (e.0, e.1), below_refl s d (subst (λ x. IsWellFormed x) e.1 wf.0))
met_left d gs _ _ wf (met_alone k u {fs = fs} {hs = hs} absent rest) l s (inr has) = let found = met_left d gs fs hs wf.2 rest l s has in (found.0, inr found.1, found.2)

-- .. and one below each field of the second whose label the first has ..
met_right : (d : Dialect) (gs fs hs : Fields) → AreWellFormed gs → AreMet (Meets d) gs fs hs → (l : Label) (s t : Typ) → Has l s fs → Has l t gs → (m : Typ) × Has l m hs × IsBelow m t d
met_right d gs _ _ wg met_none l s t has there = absurd has
met_right d gs _ _ wg (met_both k u v m other meet rest) l s t (inl e) there =
    let same = one_type gs wg l v t (subst (λ j. Has j v gs) e.0 other) there in
    (m, inl (e.0, refl), subst (λ x. IsBelow m x d) same meet.right)
met_right d gs _ _ wg (met_both k u v m {fs = fs} {hs = hs} other meet rest) l s t (inr has) there = let found = met_right d gs fs hs wg rest l s t has there in (found.0, inr found.1, found.2)
met_right d gs _ _ wg (met_alone k u absent rest) l s t (inl e) there = absurd (absent_not k gs t absent (subst (λ j. Has j t gs) (sym e.0) there))
met_right d gs _ _ wg (met_alone k u {fs = fs} {hs = hs} absent rest) l s t (inr has) there = let found = met_right d gs fs hs wg rest l s t has there in (found.0, inr found.1, found.2)

-- .. and each field made is a meet, or a field of the first list
met_from : (d : Dialect) (gs fs hs : Fields) → AreMet (Meets d) gs fs hs → (l : Label) (m : Typ) → Has l m hs
    → (s : Typ) × Has l s fs × (((t : Typ) × Has l t gs × IsMeet s t m d) ⊎ (s ≡ m))
met_from d gs _ _ met_none l m has = absurd has
met_from d gs _ _ (met_both k s t v there meet rest) l m (inl e) =
    (s, inl (e.0, refl), inl (t, subst (λ j. Has j t gs) e.0 there, subst (λ x. IsMeet s t x d) e.1 meet))
met_from d gs _ _ (met_both k s t v {fs = fs} {hs = hs} there meet rest) l m (inr has) = let found = met_from d gs fs hs rest l m has in (found.0, inr found.1, found.2)
met_from d gs _ _ (met_alone k s absent rest) l m (inl e) = (s, inl (e.0, refl), inr e.1)
met_from d gs _ _ (met_alone k s {fs = fs} {hs = hs} absent rest) l m (inr has) = let found = met_from d gs fs hs rest l m has in (found.0, inr found.1, found.2)

met_are_wf : (d : Dialect) (gs fs hs : Fields) → AreWellFormed fs → AreMet (Meets d) gs fs hs → AreWellFormed hs
met_are_wf d gs _ _ wf met_none = tt
met_are_wf d gs _ _ wf (met_both k s t m {fs = fs} {hs = hs} there meet rest) =
    ((below_wf m s d meet.left).0, absent_from k hs (λ v has. let found = met_from d gs fs hs rest k v has in absent_not k fs found.0 wf.1 found.1), met_are_wf d gs fs hs wf.2 rest)
met_are_wf d gs _ _ wf (met_alone k s {fs = fs} {hs = hs} absent rest) =
    (wf.0, absent_from k hs (λ v has. let found = met_from d gs fs hs rest k v has in absent_not k fs found.0 wf.1 found.1), met_are_wf d gs fs hs wf.2 rest)

-- the meet of two record types has the fields that were made, and the other fields of the second
pub records_meet : (d : Dialect) (fs gs hs : Fields) → AreWellFormed fs → AreWellFormed gs → AreMet (Meets d) gs fs hs → IsMeet (record_of fs) (record_of gs) (record_of (joined hs (other_fields gs fs))) d
records_meet d fs gs hs wf wg are = record {
  left = record_below whole fs d ww wf (fields_below whole fs d to_left);
  right = record_below whole gs d ww wg (fields_below whole gs d (λ l t has. to_right l t has (label_or l fs)));
  greatest = λ u a b. by u b (below_record_is u fs d a);
}
  where
    whole : Fields
    whole = joined hs (other_fields gs fs)

    ww : AreWellFormed (joined hs (other_fields gs fs))
    ww = joined_wf hs (other_fields gs fs) (met_are_wf d gs fs hs wf are) (others_wf gs fs wg)
        (λ l m t one other. let found = met_from d gs fs hs are l m one in absent_not l fs found.0 (others_are gs fs l t other).1 found.1)

    to_left : (l : Label) (s : Typ) → Has l s fs → (m : Typ) × Has l m (joined hs (other_fields gs fs)) × IsBelow m s d
    to_left l s has = let found = met_left d gs fs hs wf are l s has in (found.0, has_in_first hs (other_fields gs fs) l found.0 found.1, found.2)

    to_right : (l : Label) (t : Typ) → Has l t gs → ((s : Typ) × Has l s fs) ⊎ IsAbsent l fs → (m : Typ) × Has l m (joined hs (other_fields gs fs)) × IsBelow m t d
    to_right l t has (inl one) =
        let found = met_right d gs fs hs wg are l one.0 t one.1 has in
        (found.0, has_in_first hs (other_fields gs fs) l found.0 found.1, found.2)
    to_right l t has (inr absent) = (t, has_in_second hs (other_fields gs fs) l t (others_have gs fs l t has absent), below_refl t d (has_wf gs wg l t has))

    beneath : (us : Fields) → AreWellFormed us → AreBelow us fs d → AreBelow us gs d → (l : Label) (m : Typ) → Has l m hs ⊎ Has l m (other_fields gs fs) → (v : Typ) × Has l v us × IsBelow v m d
    beneath us wu a b l m (inr other) = field_below us gs d b l m (others_are gs fs l m other).0
    beneath us wu a b l m (inl one) = from (met_from d gs fs hs are l m one)
      where
        from : (s : Typ) × Has l s fs × (((t : Typ) × Has l t gs × IsMeet s t m d) ⊎ (s ≡ m)) → (v : Typ) × Has l v us × IsBelow v m d
        from (s, has, inr same) = let below = field_below us fs d a l s has in (below.0, below.1, subst (λ x. IsBelow below.0 x d) same below.2)
        from (s, has, inl both) =
            let below = field_below us fs d a l s has in
            let other = field_below us gs d b l both.0 both.1 in
            let same = one_type us wu l other.0 below.0 other.1 below.1 in
            (below.0, below.1, both.2.greatest below.0 below.2 (subst (λ x. IsBelow x both.0 d) same other.2))

    by : (u : Typ) → IsBelow u (record_of gs) d → (us : Fields) × (u ≡ record_of us) × AreWellFormed us × AreBelow us fs d → IsBelow u (record_of (joined hs (other_fields gs fs))) d
    by u b is =
        let other = record_inside is.0 gs d (subst (λ v. IsBelow v (record_of gs) d) is.1 b) in
        subst (λ v. IsBelow v (record_of whole) d) (sym is.1)
        (record_below is.0 whole d is.2 ww (fields_below is.0 whole d (λ l m has. beneath is.0 is.2 is.3 other l m (joined_has hs (other_fields gs fs) l m has))))

-- two record types have nothing below both if this is so for the two types of some label
pub records_no_meet : (d : Dialect) (fs gs : Fields) (l : Label) (s t : Typ) → Has l s fs → Has l t gs → HaveNoMeet s t d → HaveNoMeet (record_of fs) (record_of gs) d
records_no_meet d fs gs l s t has there none = λ u a b.
    let is = below_record_is u fs d a in
    let other = record_inside is.0 gs d (subst (λ v. IsBelow v (record_of gs) d) is.1 b) in
    let one = field_below is.0 fs d is.3 l s has in
    let two = field_below is.0 gs d other l t there in
    none one.0 one.2 (subst (λ x. IsBelow x t d) (one_type is.0 is.2 l two.0 one.0 two.1 one.1) two.2)

-- fields made one after the other: what is made, with what will be made of the rest, is made of the whole

pub meet_alone : (IsMade : Typ → Typ → Typ → Type 0) (gs whole : Fields) (left : List (String Global × Ty)) (i : ℕ) (f : String Global × Ty) (made more : List (String Global × Ty)) (c : String Global × Ty)
    → i < length left → f ≡ get_or left i f → more ≡ made ++ c ∷ [] → string_bytes c.0 ≡ string_bytes f.0 → typ_of c.1 ≡ typ_of f.1
    → IsAbsent (string_bytes f.0) gs
    → ((rest : Fields) → AreMet IsMade gs (fields_of (drop i left)) rest → AreMet IsMade gs whole (joined (fields_of made) rest))
    → (rest : Fields) → AreMet IsMade gs (fields_of (drop (i + 1) left)) rest → AreMet IsMade gs whole (joined (fields_of more) rest)
meet_alone IsMade gs whole left i f made more c lt is pushed same_label same_type absent so_far rest are =
    rw (pushed, joined-push made c rest, same_label, same_type)
    (so_far (field (string_bytes f.0) (typ_of f.1) rest) (rw (fields_of-drop left i f lt is) (met_alone (string_bytes f.0) (typ_of f.1) absent are)))
