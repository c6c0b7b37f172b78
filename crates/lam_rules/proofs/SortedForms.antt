-- Putting each field in its place sorts: the result is the one sorted form.
use Rattle.std.proofs.Common.{◌≡◌, List, ◌∷◌, Bool, true, false, if◌then◌else◌, ap, sym, ◌∙◌, refl, subst}
use Rattle.std.specs.Prelude.{IsTrue}
use Rattle.std.specs.Str.{bytes_eq}
use Rattle.std.specs.Ordering.{is_le, is_gt, ordering_reverse, is_eq}
use Rattle.std.specs.declared.cmp.Ordering.{Ordering}
use Rattle.std.specs.declared.cmp.Ordering.TheVariants.{Less, Equal, Greater}
use Rattle.std.specs.Cmp.Lexicographic.{nat_list_cmp_total, texts_ties}
use Rattle.std.proofs.lemmas.Slice.Eq.{bytes_eq-Decides}
use Rattle.std.proofs.lemmas.Cmp.{tied_itself, upto}
use Rattle.lam_rules.specs.Types.{Label, Typ, bool, nat, unit, top, arrow, record_of, Fields, no_fields, field}
use Rattle.lam_rules.specs.Texts.{is_not_after, placed, sorted, sorted_fields}
use Rattle.lam_rules.specs.Sorting.{ComesFirst, IsAscending, types_under, IsSorting, IsSortedForm, AreSortedForms}

-- the order of labels

le_not_gt : (o : Ordering) → is_le o ≡ true → is_gt o ≡ false
le_not_gt Less h = refl
le_not_gt Equal h = refl
le_not_gt Greater h = cc

not_gt_le : (o : Ordering) → is_gt o ≡ false → is_le o ≡ true
not_gt_le Less h = refl
not_gt_le Equal h = refl
not_gt_le Greater h = cc

not_le_turned : (o : Ordering) → is_le o ≡ false → is_le (ordering_reverse o) ≡ true
not_le_turned Less h = cc
not_le_turned Equal h = cc
not_le_turned Greater h = refl

both_le_tied : (o : Ordering) → is_le o ≡ true → is_le (ordering_reverse o) ≡ true → is_eq o ≡ true
both_le_tied Less h k = cc
both_le_tied Equal h k = refl
both_le_tied Greater h k = cc

pub not_after_itself : (k : Label) → is_not_after k k ≡ true
not_after_itself k = ap is_le (tied_itself nat_list_cmp_total k)

not_after_trans : (j k l : Label) → is_not_after j k ≡ true → is_not_after k l ≡ true → is_not_after j l ≡ true
not_after_trans j k l p q = not_gt_le _ (upto nat_list_cmp_total j k l (le_not_gt _ p) (le_not_gt _ q))

not_after_turned : (k l : Label) → is_not_after l k ≡ false → is_not_after k l ≡ true
not_after_turned k l h = ap is_le (nat_list_cmp_total.antisymm k l) ∙ not_le_turned _ h

not_after_same : (k l : Label) → is_not_after k l ≡ true → is_not_after l k ≡ true → k ≡ l
not_after_same k l p q =
    (bytes_eq-Decides k l).0 (texts_ties k l ∙ both_le_tied _ p (ap is_le (sym (nat_list_cmp_total.antisymm l k)) ∙ q))

same_label : (k : Label) → bytes_eq k k ≡ true
same_label k = (bytes_eq-Decides k k).1 refl

-- a field that is put in its place: the labels still ascend, and under each label are the same types as with the field in front

first_placed : (j l : Label) (t : Typ) (fs : Fields) → IsTrue (is_not_after j l) → ComesFirst j fs → ComesFirst j (placed l t fs)
first_placed j l t no_fields h first = (h, tt)
first_placed j l t (field k u fs) h first = by (is_not_after l k) (first_placed j l t fs h first.1)
  where
    by : (b : Bool) → ComesFirst j (placed l t fs) → ComesFirst j (if b then field l t (field k u fs) else field k u (placed l t fs))
    by true rest = (h, first)
    by false rest = (first.0, rest)

pub first_trans : (l k : Label) (fs : Fields) → IsTrue (is_not_after l k) → ComesFirst k fs → ComesFirst l fs
first_trans l k no_fields h first = tt
first_trans l k (field j u fs) h first = (not_after_trans l k j h first.0, first_trans l k fs h first.1)

ascending_placed : (l : Label) (t : Typ) (fs : Fields) → IsAscending fs → IsAscending (placed l t fs)
ascending_placed l t no_fields up = (tt, tt)
ascending_placed l t (field k u fs) up = by (is_not_after l k) refl (ascending_placed l t fs up.1)
  where
    by : (b : Bool) → is_not_after l k ≡ b → IsAscending (placed l t fs) → IsAscending (if b then field l t (field k u fs) else field k u (placed l t fs))
    by true e rest = ((e, first_trans l k fs e up.0), up)
    by false e rest = (first_placed k l t fs (not_after_turned k l e) up.0, rest)

-- two fields of different labels may change places
swapped : (a b : Bool) (t u : Typ) (before after : List Typ) → (a ≡ true → b ≡ true → ⊥)
    → after ≡ (if a then t ∷ before else before)
    → (if b then u ∷ after else after) ≡ (if a then t ∷ (if b then u ∷ before else before) else (if b then u ∷ before else before))
swapped true true t u before after apart e = absurd (apart refl refl)
swapped true false t u before after apart e = e
swapped false true t u before after apart e = ap (λ r. u ∷ r) e
swapped false false t u before after apart e = e

types_placed : (l k : Label) (t : Typ) (fs : Fields) → types_under l (placed k t fs) ≡ types_under l (field k t fs)
types_placed l k t no_fields = refl
types_placed l k t (field j u fs) = by (is_not_after k j) refl (types_placed l k t fs)
  where
    by : (b : Bool) → is_not_after k j ≡ b → types_under l (placed k t fs) ≡ types_under l (field k t fs)
        → types_under l (if b then field k t (field j u fs) else field j u (placed k t fs)) ≡ types_under l (field k t (field j u fs))
    by true e rest = refl
    by false e rest =
        swapped (bytes_eq l k) (bytes_eq l j) t u (types_under l fs) (types_under l (placed k t fs)) apart rest
      where
        apart : bytes_eq l k ≡ true → bytes_eq l j ≡ true → ⊥
        apart p q =
            let same : k ≡ j = sym ((bytes_eq-Decides l k).0 p) ∙ (bytes_eq-Decides l j).0 q in
            cc (not_after_itself j, ap (λ m. is_not_after m j) same)

-- the sorted form that putting in place gives

-- each type sorted, the fields where they are
abbrev pub sorted_inside : Fields → Fields
sorted_inside no_fields = no_fields
sorted_inside (field l t fs) = field l (sorted t) (sorted_inside fs)

pub ascending_sorted : (fs : Fields) → IsAscending (sorted_fields fs)
ascending_sorted no_fields = tt
ascending_sorted (field l t fs) = ascending_placed l (sorted t) (sorted_fields fs) (ascending_sorted fs)

types_sorted : (l : Label) (fs : Fields) → types_under l (sorted_fields fs) ≡ types_under l (sorted_inside fs)
types_sorted l no_fields = refl
types_sorted l (field k t fs) =
    types_placed l k (sorted t) (sorted_fields fs)
    ∙ ap (λ r. if bytes_eq l k then sorted t ∷ r else r) (types_sorted l fs)

fields_sorting : (fs : Fields) → IsSorting (sorted_inside fs) (sorted_fields fs)
fields_sorting fs = record { ascending = ascending_sorted fs; same_fields = λ l. types_sorted l fs }

mutual
  pub sorted_is_form : (t : Typ) → IsSortedForm t (sorted t)
  sorted_is_form bool = tt
  sorted_is_form nat = tt
  sorted_is_form unit = tt
  sorted_is_form top = tt
  sorted_is_form (arrow s t) = (sorted_is_form s, sorted_is_form t)
  sorted_is_form (record_of fs) = (sorted_inside fs, inside_forms fs, fields_sorting fs)

  inside_forms : (fs : Fields) → AreSortedForms fs (sorted_inside fs)
  inside_forms no_fields = tt
  inside_forms (field l t fs) = (refl, sorted_is_form t, inside_forms fs)

-- there is no other: fields whose labels ascend are determined by the types under each label

occurs_after : (l : Label) (fs : Fields) → ComesFirst l fs → (k : Label) (t : Typ) (ts : List Typ) → types_under k fs ≡ t ∷ ts → is_not_after l k ≡ true
occurs_after l no_fields first k t ts e = cc
occurs_after l (field j s fs) first k t ts e = by (bytes_eq k j) refl e (occurs_after l fs first.1 k t ts)
  where
    by : (b : Bool) → bytes_eq k j ≡ b → (if b then s ∷ types_under k fs else types_under k fs) ≡ t ∷ ts
        → (types_under k fs ≡ t ∷ ts → is_not_after l k ≡ true) → is_not_after l k ≡ true
    by true same h further = rw ((bytes_eq-Decides k j).0 same) first.0
    by false other h further = further h

types_of_first : (k : Label) (t : Typ) (fs : Fields) → types_under k (field k t fs) ≡ t ∷ types_under k fs
types_of_first k t fs = rw (same_label k)

rest_types : (b : Bool) (t u : Typ) (ts us : List Typ) → (if b then t ∷ ts else ts) ≡ (if b then u ∷ us else us) → ts ≡ us
rest_types true t u ts us e = cc
rest_types false t u ts us e = e

ascending_one : (fs gs : Fields) → IsAscending fs → IsAscending gs → ((l : Label) → types_under l fs ≡ types_under l gs) → fs ≡ gs
ascending_one no_fields no_fields uf ug same = refl
ascending_one no_fields (field k u gs) uf ug same = cc (same k ∙ types_of_first k u gs)
ascending_one (field l t fs) no_fields uf ug same = cc (sym (types_of_first l t fs) ∙ same l)
ascending_one (field l t fs) (field k u gs) uf ug same =
    let labels : l ≡ k =
    not_after_same l k
    (occurs_after l (field l t fs) (not_after_itself l, uf.0) k u (types_under k gs) (same k ∙ types_of_first k u gs))
    (occurs_after k (field k u gs) (not_after_itself k, ug.0) l t (types_under l fs) (sym (same l) ∙ types_of_first l t fs)) in
    let heads : t ∷ types_under k fs ≡ u ∷ types_under k gs =
    sym (types_of_first k t fs) ∙ (rw labels at (same k)) ∙ types_of_first k u gs in
    let types : t ≡ u = cc in
    let rest = ascending_one fs gs uf.1 ug.1 (λ j. rest_types (bytes_eq j k) t u (types_under j fs) (types_under j gs) (rw labels at (same j))) in
    rw (labels, types, rest)

-- so fields whose types are sorted are sorted in one way
pub one_sorting : (fs gs : Fields) → IsSorting (sorted_inside fs) gs → gs ≡ sorted_fields fs
one_sorting fs gs h = ascending_one gs (sorted_fields fs) h.ascending (ascending_sorted fs) (λ l. h.same_fields l ∙ sym (types_sorted l fs))

mutual
  pub one_sorted_form : (t u : Typ) → IsSortedForm t u → u ≡ sorted t
  one_sorted_form bool bool h = refl
  one_sorted_form nat nat h = refl
  one_sorted_form unit unit h = refl
  one_sorted_form top top h = refl
  one_sorted_form (arrow s t) (arrow u v) h = rw (one_sorted_form s u h.0, one_sorted_form t v h.1)
  one_sorted_form (record_of fs) (record_of gs) h =
      let inside = inside_one fs h.0 h.1 in
      ap record_of (one_sorting fs gs (subst (λ x. IsSorting x gs) inside h.2))
  one_sorted_form _ _ h = absurd h

  inside_one : (fs gs : Fields) → AreSortedForms fs gs → gs ≡ sorted_inside fs
  inside_one no_fields no_fields h = refl
  inside_one (field l t fs) (field k u gs) h = rw (h.0, one_sorted_form t u h.1, inside_one fs gs h.2)
  inside_one no_fields (field k u gs) h = absurd h
  inside_one (field l t fs) no_fields h = absurd h
