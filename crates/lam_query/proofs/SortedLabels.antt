-- The items for the fields of a sorted type: their labels ascend, and they are just those of its fields.
use Rattle.std.proofs.Common.{◌≡◌, ◌≢◌, inl, inr, suc, map, true, sym, ap, ◌∙◌, refl, arith}
use Rattle.std.specs.Prelude.{Contains}
use Rattle.std.specs.List.{All, AllByRecursion}
use Rattle.std.specs.List.Sorted.{IsStrictlySortedBy}
use Rattle.std.specs.Ordering.{nat_cmp, is_le, is_eq}
use Rattle.std.specs.declared.cmp.Ordering.{Ordering}
use Rattle.std.specs.declared.cmp.Ordering.TheVariants.{Less, Equal, Greater}
use Rattle.std.specs.Cmp.Lexicographic.{slice_cmp, texts_ties}
use Rattle.std.proofs.lemmas.Slice.Eq.{bytes_eq-Decides}
use Rattle.std.proofs.lemmas.List.Elements.{All-nil, All-cons}
use Rattle.lam_rules.specs.Types.{Label, Typ, bool, nat, unit, top, arrow, record_of, Fields, no_fields, field, Has, IsAbsent, IsWellFormed, AreWellFormed}
use Rattle.lam_rules.specs.Texts.{is_not_after, sorted, sorted_fields}
use Rattle.lam_rules.specs.Sorting.{ComesFirst, IsAscending}
use Rattle.lam_rules.proofs.SortedForms.{ascending_sorted}
use Rattle.lam_rules.proofs.SortedBelow.{sorted_wf}
use Rattle.lam_query.specs.Completions.{Item, AreAscending}
use Rattle.lam_query.specs.inner.FieldItems.{field_item, field_items, items_in}
use Rattle.lam_query.proofs.Ascending.{none_ascend}

-- the labels ascend

-- a label that is not after another one stands before it
before_other : (k l : Label) → is_not_after k l ≡ true → k ≢ l → slice_cmp nat_cmp k l ≡ Less
before_other k l le other = by (slice_cmp nat_cmp k l) refl
  where
    by : (o : Ordering) → slice_cmp nat_cmp k l ≡ o → slice_cmp nat_cmp k l ≡ Less
    by Less e = e
    by Equal e = absurd (other ((bytes_eq-Decides k l).0 (texts_ties k l ∙ ap is_eq e)))
    by Greater e = let no_way : is_le Greater ≡ true = sym (ap is_le e) ∙ le in cc

before_each : (l : Label) (fs : Fields) → ComesFirst l fs → IsAbsent l fs → AllByRecursion (λ k. slice_cmp nat_cmp l k ≡ Less) (map (λ i. i.label) (field_items fs))
before_each l no_fields first absent = tt
before_each l (field k t fs) first absent = (before_other l k first.0 absent.0, before_each l fs first.1 absent.1)

strictly : (fs : Fields) → IsAscending fs → AreWellFormed fs → AreAscending (field_items fs)
unfolding IsStrictlySortedBy
strictly no_fields up wf = tt
strictly (field l t fs) up wf = (before_each l fs up.0 wf.1, strictly fs up.1 wf.2)

pub sorted_items : (t : Typ) → IsWellFormed t → AreAscending (items_in (sorted t))
sorted_items bool wf = none_ascend
sorted_items nat wf = none_ascend
sorted_items unit wf = none_ascend
sorted_items top wf = none_ascend
sorted_items (arrow s t) wf = none_ascend
sorted_items (record_of fs) wf = strictly (sorted_fields fs) (ascending_sorted fs) (sorted_wf (record_of fs) wf)

-- each item is one of a field, and each field has one

pub item_each : (P : Item → Type 0) (fs : Fields) → ((l : Label) (t : Typ) → Has l t fs → P (field_item l t)) → All P (field_items fs)
item_each P no_fields each = All-nil P
item_each P (field l t fs) each =
    All-cons P (field_item l t) (field_items fs) (each l t (inl (refl, refl))) (item_each P fs (λ k u has. each k u (inr has)))

pub item_there : (fs : Fields) (l : Label) (t : Typ) → Has l t fs → Contains (map (λ i. i.label) (field_items fs)) l
item_there no_fields l t has = absurd has
item_there (field k u fs) l t (inl e) = (0, omega arith, e.0)
item_there (field k u fs) l t (inr has) = let rest = item_there fs l t has in (suc rest.0, omega arith, rest.2)
