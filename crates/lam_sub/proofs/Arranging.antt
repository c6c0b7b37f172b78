-- A record type put in the order of another: the fields that the other one asks for, in its order, and then the rest.
use Rattle.std.proofs.Common.{◌≡◌, ◌⊎◌, Bool, true, false, if◌then◌else◌, sym, refl, inl, inr, subst}
use Rattle.std.specs.Str.{bytes_eq}
use Rattle.std.proofs.lemmas.Slice.Eq.{bytes_eq-Decides}
use Rattle.lam_rules.specs.Types.{Label, Typ, record_of, Fields, no_fields, field, joined, Has, IsAbsent, AreWellFormed}
use Rattle.lam_rules.specs.Subtyping.{IsBelow, IsPermutation}
use Rattle.lam_rules.specs.declared.rules.Dialect.{Dialect}
use Rattle.lam_rules.proofs.Permutations.{absent_not, includes_from, permutation_iff}
use Rattle.lam_rules.proofs.SharedTexts.{one_type, has_wf}
use Rattle.lam_rules.proofs.Composing.{EachBelow, below_trans, below_width, below_permutation, below_depth}
use Rattle.lam_sub.specs.inner.Arranging.{type_under, picked, HasLabelsOf}
use Rattle.lam_sub.specs.inner.FieldsBelow.{AreBelow}
use Rattle.lam_sub.specs.OtherFields.{other_fields}
use Rattle.lam_sub.proofs.LookUps.{label_or, absent_from, others_are, others_have, others_wf, joined_has, has_in_first, has_in_second, joined_wf, begins_with_first}

pub field_below : (fs gs : Fields) (d : Dialect) → AreBelow fs gs d → (l : Label) (t : Typ) → Has l t gs → (s : Typ) × Has l s fs × IsBelow s t d
field_below fs no_fields d h l t has = absurd has
field_below fs (field k u gs) d h l t (inl e) = (h.0.0, subst (λ j. Has j h.0.0 fs) e.0 h.0.1, subst (λ v. IsBelow h.0.0 v d) e.1 h.0.2)
field_below fs (field k u gs) d h l t (inr has) = field_below fs gs d h.1 l t has

pub fields_below : (fs gs : Fields) (d : Dialect) → ((l : Label) (t : Typ) → Has l t gs → (s : Typ) × Has l s fs × IsBelow s t d) → AreBelow fs gs d
fields_below fs no_fields d each = tt
fields_below fs (field l t gs) d each = (each l t (inl (refl, refl)), fields_below fs gs d (λ k u has. each k u (inr has)))

has_type_under : (l : Label) (s : Typ) (fs : Fields) → Has l s fs → Has l (type_under l fs) fs
has_type_under l s no_fields has = absurd has
has_type_under l s (field k u fs) (inl e) = rw ((bytes_eq-Decides k l).1 e.0) (inl (e.0, refl))
has_type_under l s (field k u fs) (inr has) = by (bytes_eq k l) refl (has_type_under l s fs has)
  where
    by : (b : Bool) → bytes_eq k l ≡ b → Has l (type_under l fs) fs → Has l (if b then u else type_under l fs) (field k u fs)
    by true e h = inl ((bytes_eq-Decides k l).0 e, refl)
    by false e h = inr h

pub type_under_is : (l : Label) (s : Typ) (fs : Fields) → AreWellFormed fs → Has l s fs → type_under l fs ≡ s
type_under_is l s fs wf has = one_type fs wf l (type_under l fs) s (has_type_under l s fs has) has

-- the fields of the first list: those whose labels the second has, in the second's order, then the others in their own
abbrev pub arranged : Fields → Fields → Fields
arranged fs gs = joined (picked fs gs) (other_fields fs gs)

pub below_labels : (fs gs : Fields) (d : Dialect) → AreBelow fs gs d → HasLabelsOf fs gs
below_labels fs gs d below l t has = let found = field_below fs gs d below l t has in (found.0, found.1)

pub picked_are : (fs gs : Fields) → HasLabelsOf fs gs → (l : Label) (s : Typ) → Has l s (picked fs gs) → Has l s fs × ((t : Typ) × Has l t gs)
picked_are fs no_fields labels l s has = absurd has
picked_are fs (field k u gs) labels l s (inl e) =
    let found = labels k u (inl (refl, refl)) in
    (subst (λ j. Has j s fs) e.0 (subst (λ v. Has k v fs) e.1 (has_type_under k found.0 fs found.1)), (u, inl (e.0, refl)))
picked_are fs (field k u gs) labels l s (inr has) =
    let rest = picked_are fs gs (λ j v h. labels j v (inr h)) l s has in
    (rest.0, (rest.1.0, inr rest.1.1))

picked_have : (fs gs : Fields) → AreWellFormed fs → (l : Label) (s t : Typ) → Has l s fs → Has l t gs → Has l s (picked fs gs)
picked_have fs no_fields wf l s t has there = absurd there
picked_have fs (field k u gs) wf l s t has (inl e) = inl (e.0, subst (λ j. type_under j fs ≡ s) (sym e.0) (type_under_is l s fs wf has))
picked_have fs (field k u gs) wf l s t has (inr there) = inr (picked_have fs gs wf l s t has there)

pub picked_wf : (fs gs : Fields) → AreWellFormed fs → AreWellFormed gs → HasLabelsOf fs gs → AreWellFormed (picked fs gs)
picked_wf fs no_fields wf wg labels = tt
picked_wf fs (field k u gs) wf wg labels =
    let found = labels k u (inl (refl, refl)) in
    let rest : HasLabelsOf fs gs = λ j v h. labels j v (inr h) in (
      has_wf fs wf k (type_under k fs) (has_type_under k found.0 fs found.1),
      absent_from k (picked fs gs) (λ t has. let there = (picked_are fs gs rest k t has).1 in absent_not k gs there.0 wg.1 there.1),
      picked_wf fs gs wf wg.2 rest,
    )

pub picked_each : (fs gs : Fields) (d : Dialect) → AreWellFormed fs → AreBelow fs gs d → EachBelow (picked fs gs) gs d
picked_each fs no_fields d wf below = tt
picked_each fs (field l t gs) d wf below =
    (refl, subst (λ s. IsBelow s t d) (sym (type_under_is l below.0.0 fs wf below.0.1)) below.0.2, picked_each fs gs d wf below.1)

pub arranged_wf : (fs gs : Fields) → AreWellFormed fs → AreWellFormed gs → HasLabelsOf fs gs → AreWellFormed (arranged fs gs)
arranged_wf fs gs wf wg labels =
    joined_wf (picked fs gs) (other_fields fs gs) (picked_wf fs gs wf wg labels) (others_wf fs gs wf)
    (λ l t u one other. let there = (picked_are fs gs labels l t one).1 in absent_not l gs there.0 (others_are fs gs l u other).1 there.1)

pub arranged_permutes : (fs gs : Fields) → AreWellFormed fs → AreWellFormed gs → HasLabelsOf fs gs → IsPermutation fs (arranged fs gs)
arranged_permutes fs gs wf wg labels =
    (permutation_iff fs (arranged fs gs) wf (arranged_wf fs gs wf wg labels)).0
    (includes_from fs (arranged fs gs) (λ l s has. there l s has (label_or l gs)), includes_from (arranged fs gs) fs (λ l s has. back l s (joined_has (picked fs gs) (other_fields fs gs) l s has)))
  where
    there : (l : Label) (s : Typ) → Has l s fs → ((t : Typ) × Has l t gs) ⊎ IsAbsent l gs → Has l s (arranged fs gs)
    there l s has (inl found) = has_in_first (picked fs gs) (other_fields fs gs) l s (picked_have fs gs wf l s found.0 has found.1)
    there l s has (inr absent) = has_in_second (picked fs gs) (other_fields fs gs) l s (others_have fs gs l s has absent)

    back : (l : Label) (s : Typ) → Has l s (picked fs gs) ⊎ Has l s (other_fields fs gs) → Has l s fs
    back l s (inl has) = (picked_are fs gs labels l s has).0
    back l s (inr has) = (others_are fs gs l s has).0

-- a record type is below another if each field above has one below
pub record_below : (fs gs : Fields) (d : Dialect) → AreWellFormed fs → AreWellFormed gs → AreBelow fs gs d → IsBelow (record_of fs) (record_of gs) d
record_below fs gs d wf wg below =
    let labels = below_labels fs gs d below in
    let wa = arranged_wf fs gs wf wg labels in
    let wp = picked_wf fs gs wf wg labels in
    below_trans (record_of fs) (record_of (picked fs gs)) (record_of gs) d
    (below_trans (record_of fs) (record_of (arranged fs gs)) (record_of (picked fs gs)) d
    (below_permutation fs (arranged fs gs) d wf wa (arranged_permutes fs gs wf wg labels))
    (below_width (arranged fs gs) (picked fs gs) d wa wp (begins_with_first (picked fs gs) (other_fields fs gs))))
    (below_depth (picked fs gs) gs d wp wg (picked_each fs gs d wf below))
