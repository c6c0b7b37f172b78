-- A stable sort by the bytes of the labels sorts the fields that labeled values stand for.
use Rattle.std.proofs.Common.{◌≡◌, ℕ, ◌+◌, ◌<◌, ◌≤◌, ◌++◌, drop, subst, List, [], ◌∷◌, Bool, true, false, cond, if◌then◌else◌, map, not, ◌&&◌, get_or, length, ap, sym, ◌∙◌, refl, suc, arith, String, string_bytes, ◌⊎◌, inl, inr}
use Rattle.std.specs.List.{filter}
use Rattle.std.specs.List.Sorted.{IsSortedBy, IsStableBy, ties}
use Rattle.std.specs.Ordering.{nat_cmp, is_lt, is_le, is_eq, ordering_reverse}
use Rattle.std.specs.declared.cmp.Ordering.{Ordering}
use Rattle.std.specs.declared.cmp.Ordering.TheVariants.{Less, Equal, Greater}
use Rattle.std.specs.Cmp.Lexicographic.{slice_cmp, nat_list_cmp_total, texts_ties}
use Rattle.std.specs.Str.{bytes_eq}
use Rattle.std.specs.declared.alloc.Global.{Global}
use Rattle.std.proofs.lemmas.List.{drop_all}
use Rattle.lam_rules.specs.Types.{Label, Typ, field, joined}
use Rattle.lam_rules.specs.TypeViews.{typ_of, fields_of}
use Rattle.lam_rules.specs.declared.types.Ty.{Ty}
use Rattle.lam_rules.specs.Texts.{is_not_after, sorted, sorted_fields}
use Rattle.lam_rules.specs.Sorting.{IsAscending, types_under, IsSorting, fields_by}
use Rattle.std.proofs.lemmas.Slice.Eq.{bytes_eq-Decides}
use Rattle.lam_rules.proofs.SortedForms.{first_trans, sorted_inside, one_sorting}
use Rattle.lam_rules.proofs.TypeShapes.{fields_of-drop, joined-none, joined-push}

not_lt_turned : (o : Ordering) → is_lt o ≡ false → is_le (ordering_reverse o) ≡ true
not_lt_turned Less h = cc
not_lt_turned Equal h = refl
not_lt_turned Greater h = refl

tied_same : (o : Ordering) → not (is_lt o) && not (is_lt (ordering_reverse o)) ≡ is_eq o
tied_same Less = refl
tied_same Equal = refl
tied_same Greater = refl

module _ {X : Type 0} where
  -- the label of the first comes before that of the second
  abbrev pub is_before : String Global × X → String Global × X → Bool
  is_before x y = is_lt (slice_cmp nat_cmp (string_bytes x.0) (string_bytes y.0))

  tied_label : (x y : String Global × X) → ties is_before x y ≡ bytes_eq (string_bytes x.0) (string_bytes y.0)
  tied_label x y =
      ap (λ o. not (is_lt (slice_cmp nat_cmp (string_bytes x.0) (string_bytes y.0))) && not (is_lt o)) (nat_list_cmp_total.antisymm (string_bytes y.0) (string_bytes x.0))
      ∙ tied_same (slice_cmp nat_cmp (string_bytes x.0) (string_bytes y.0))
      ∙ sym (texts_ties (string_bytes x.0) (string_bytes y.0))

  module _ (typ : X → Typ) where
    ascending : (ys : List (String Global × X)) → IsSortedBy is_before ys → IsAscending (fields_by typ ys)
    ascending [] up = tt
    ascending (x ∷ []) up = (tt, tt)
    ascending (x ∷ y ∷ ys) up =
        let rest : IsAscending (fields_by typ (y ∷ ys)) = ascending (y ∷ ys) (λ k d low high.
        let next : suc (k + 1) ≡ suc k + 1 = omega arith in
        ap (λ n. is_before (get_or (x ∷ y ∷ ys) n d) (get_or (y ∷ ys) k d)) next ∙ up (suc k) d (omega arith) (omega arith)) in
        let here : is_not_after (string_bytes x.0) (string_bytes y.0) ≡ true =
        ap is_le (nat_list_cmp_total.antisymm (string_bytes x.0) (string_bytes y.0)) ∙ not_lt_turned (slice_cmp nat_cmp (string_bytes y.0) (string_bytes x.0)) (up 0 x (omega arith) (omega arith)) in
        ((here, first_trans (string_bytes x.0) (string_bytes y.0) (fields_by typ ys) here rest.0), rest)

    -- the types under the label of a value are those of the values that tie with it
    types_tied : (x : String Global × X) (ys : List (String Global × X)) → types_under (string_bytes x.0) (fields_by typ ys) ≡ map (λ y. typ y.1) (filter (ties is_before x) ys)
    types_tied x [] = refl
    types_tied x (y ∷ ys) = rw (tied_label x y) (by (bytes_eq (string_bytes x.0) (string_bytes y.0)) (types_tied x ys))
      where
        by : (b : Bool) → types_under (string_bytes x.0) (fields_by typ ys) ≡ map (λ y. typ y.1) (filter (ties is_before x) ys)
            → (if b then typ y.1 ∷ types_under (string_bytes x.0) (fields_by typ ys) else types_under (string_bytes x.0) (fields_by typ ys))
            ≡ map (λ y. typ y.1) (cond b (y ∷ filter (ties is_before x) ys) (filter (ties is_before x) ys))
        by true e = ap (λ r. typ y.1 ∷ r) e
        by false e = e

    module _ (xs ys : List (String Global × X)) (stable : IsStableBy is_before xs ys) where
      types_kept : (x : String Global × X) → types_under (string_bytes x.0) (fields_by typ ys) ≡ types_under (string_bytes x.0) (fields_by typ xs)
      types_kept x = types_tied x ys ∙ ap (map (λ y. typ y.1)) (stable x) ∙ sym (types_tied x xs)

      -- for a label that some value has, the types under it are kept; for any other there are none
      kept_or_none : (l : Label) (zs : List (String Global × X)) → (types_under l (fields_by typ ys) ≡ types_under l (fields_by typ xs)) ⊎ (types_under l (fields_by typ zs) ≡ [])
      kept_or_none l [] = inr refl
      kept_or_none l (z ∷ zs) = by (bytes_eq l (string_bytes z.0)) refl (kept_or_none l zs)
        where
          by : (b : Bool) → bytes_eq l (string_bytes z.0) ≡ b
              → (types_under l (fields_by typ ys) ≡ types_under l (fields_by typ xs)) ⊎ (types_under l (fields_by typ zs) ≡ [])
              → (types_under l (fields_by typ ys) ≡ types_under l (fields_by typ xs))
              ⊎ ((if b then typ z.1 ∷ types_under l (fields_by typ zs) else types_under l (fields_by typ zs)) ≡ [])
          by true e rest = inl (rw ((bytes_eq-Decides l (string_bytes z.0)).0 e) (types_kept z))
          by false e rest = rest

      same_types : (l : Label) → types_under l (fields_by typ ys) ≡ types_under l (fields_by typ xs)
      same_types l = by (kept_or_none l xs) (kept_or_none l ys)
        where
          by : (types_under l (fields_by typ ys) ≡ types_under l (fields_by typ xs)) ⊎ (types_under l (fields_by typ xs) ≡ [])
              → (types_under l (fields_by typ ys) ≡ types_under l (fields_by typ xs)) ⊎ (types_under l (fields_by typ ys) ≡ [])
              → types_under l (fields_by typ ys) ≡ types_under l (fields_by typ xs)
          by (inl e) _ = e
          by (inr e) (inl f) = f
          by (inr e) (inr f) = f ∙ sym e

    pub stable_sorting : (xs ys : List (String Global × X)) → IsSortedBy is_before ys → IsStableBy is_before xs ys → IsSorting (fields_by typ xs) (fields_by typ ys)
    stable_sorting xs ys up stable = record { ascending = ascending ys up; same_fields = same_types xs ys stable }

-- fields whose types are sorted one by one, and which are then sorted by their labels

pub inside_more : (made more fs : List (String Global × Ty)) (i : ℕ) (f : String Global × Ty) (label : String Global) (t : Ty)
    → i < length fs → f ≡ get_or fs i f → more ≡ made ++ (label, t) ∷ [] → string_bytes label ≡ string_bytes f.0 → typ_of t ≡ sorted (typ_of f.1)
    → joined (fields_of made) (sorted_inside (fields_of (drop i fs))) ≡ sorted_inside (fields_of fs)
    → joined (fields_of more) (sorted_inside (fields_of (drop (i + 1) fs))) ≡ sorted_inside (fields_of fs)
inside_more made more fs i f label t lt is pushed same_label is_sorted so_far =
    rw (pushed, joined-push made (label, t) (sorted_inside (fields_of (drop (i + 1) fs))), same_label, is_sorted) (rw (fields_of-drop fs i f lt is) at so_far)

pub inside_all : (made fs : List (String Global × Ty)) (i : ℕ) → length fs ≤ i
    → joined (fields_of made) (sorted_inside (fields_of (drop i fs))) ≡ sorted_inside (fields_of fs) → fields_of made ≡ sorted_inside (fields_of fs)
inside_all made fs i le so_far = sym (joined-none (fields_of made)) ∙ (rw (drop_all i fs le) at so_far)

fields_by-of : (fs : List (String Global × Ty)) → fields_by typ_of fs ≡ fields_of fs
fields_by-of [] = refl
fields_by-of (f ∷ fs) = ap (λ r. field (string_bytes f.0) (typ_of f.1) r) (fields_by-of fs)

pub sorted_types : (made more fs : List (String Global × Ty))
    → ((typ : Ty → Typ) → IsSorting (fields_by typ made) (fields_by typ more))
    → fields_of made ≡ sorted_inside (fields_of fs) → fields_of more ≡ sorted_fields (fields_of fs)
sorted_types made more fs sorting inside =
    one_sorting (fields_of fs) (fields_of more)
    (subst (λ x. IsSorting x (fields_of more)) (fields_by-of made ∙ inside) (subst (IsSorting (fields_by typ_of made)) (fields_by-of more) (sorting typ_of)))
