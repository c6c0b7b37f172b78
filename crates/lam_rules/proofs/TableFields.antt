-- Lists of labeled numbers: found by a label, given by a caller, sorted.
use Rattle.std.proofs.Common.{◌≡◌, ◌↔◌, inl, inr, ℕ, ◌+◌, ◌<◌, ◌≤◌, List, [], ◌∷◌, ◌++◌, length, take, drop, get_or, ap, sym, ◌∙◌, refl, subst, zero, suc, arith, max, String, string_bytes}
use Rattle.std.specs.List.{All, AllByRecursion}
use Rattle.std.specs.List.Sorted.{IsPermutation}
use Rattle.std.proofs.lemmas.List.Elements.{All-from_recursion, All-head, All-tail}
use Rattle.std.proofs.lemmas.List.Sorted.{All-permutation}
use Rattle.std.specs.declared.alloc.Global.{Global}
use Rattle.std.proofs.lemmas.List.{drop_all, take_more}
use denote.Ref.{Bor}
use Rattle.lam_rules.specs.Types.{Label, Typ, Fields, field, joined, Has, IsAbsent, IsWellFormed, AreWellFormed, nodes, nodes_in}
use Rattle.lam_rules.specs.TypeViews.{typ_of, fields_of}
use Rattle.lam_rules.specs.Texts.{sorted, sorted_fields}
use Rattle.lam_rules.specs.Sorting.{IsSorting, fields_by}
use Rattle.lam_rules.proofs.SortedForms.{sorted_inside, one_sorting}
use Rattle.lam_rules.specs.Numbers.{type_of, IsNumberOf, Keeps, fields_over, AreEarlier, IsNotAmong, HaveDistinctLabels, fields_given, AllStand, IsNotGiven, AreGivenApart}
use Rattle.std.specs.Prelude.{IfSome, Option, Some, None}
use Rattle.lam_rules.specs.Entries.{AreCopies}
use Rattle.lam_rules.specs.declared.types.Ty.{Ty}
use Rattle.lam_rules.specs.declared.numbers.TyNo.{TyNo}
use Rattle.lam_rules.proofs.Permutations.{absent_not}
use Rattle.lam_rules.proofs.TypeShapes.{fields_of-drop, joined-none, joined-push}
use Rattle.lam_rules.proofs.Tables.{keeps_trans, keeps_length, kept_fields, below_more}
use Rattle.lam_rules.proofs.TableEntries.{drop_more_read, fields_over-drop, below_read}

-- copies of fields that a caller gives

pub copies_push : (fs : List (String Global × TyNo)) (gs : List (Bor (List ℕ) × TyNo)) (f : String Global × TyNo) (g : Bor (List ℕ) × TyNo)
    → AreCopies fs gs → string_bytes f.0 ≡ g.0.now → f.1 ≡ g.1 → AreCopies (fs ++ f ∷ []) (gs ++ g ∷ [])
copies_push [] [] f g same label number = (label, number, tt)
copies_push (x ∷ fs) (y ∷ gs) f g same label number = (same.0, same.1, copies_push fs gs f g same.2 label number)
copies_push [] (y ∷ gs) f g same label number = absurd same
copies_push (x ∷ fs) [] f g same label number = absurd same

pub copied_below : (ts : List Typ) (fs : List (String Global × TyNo)) (gs : List (Bor (List ℕ) × TyNo)) → AreCopies fs gs → AllStand ts gs → AreEarlier (length ts) fs
copied_below ts [] [] same stand = tt
copied_below ts (f ∷ fs) (g ∷ gs) same stand = (rw same.1 stand.0, copied_below ts fs gs same.2 stand.1)
copied_below ts [] (g ∷ gs) same stand = absurd same
copied_below ts (f ∷ fs) [] same stand = absurd same

copied_not_among : (l : Label) (fs : List (String Global × TyNo)) (gs : List (Bor (List ℕ) × TyNo)) → AreCopies fs gs → IsNotGiven l gs → IsNotAmong l fs
copied_not_among l [] [] same apart = tt
copied_not_among l (f ∷ fs) (g ∷ gs) same apart = (rw same.0 apart.0, copied_not_among l fs gs same.2 apart.1)
copied_not_among l [] (g ∷ gs) same apart = absurd same
copied_not_among l (f ∷ fs) [] same apart = absurd same

pub copied_apart : (fs : List (String Global × TyNo)) (gs : List (Bor (List ℕ) × TyNo)) → AreCopies fs gs → AreGivenApart gs → HaveDistinctLabels fs
copied_apart [] [] same apart = tt
copied_apart (f ∷ fs) (g ∷ gs) same apart = (rw same.0 (copied_not_among g.0.now fs gs same.2 apart.0), copied_apart fs gs same.2 apart.1)
copied_apart [] (g ∷ gs) same apart = absurd same
copied_apart (f ∷ fs) [] same apart = absurd same

pub copied_fields : (ts : List Typ) (fs : List (String Global × TyNo)) (gs : List (Bor (List ℕ) × TyNo)) → AreCopies fs gs → fields_over ts fs ≡ fields_given ts gs
copied_fields ts [] [] same = refl
copied_fields ts (f ∷ fs) (g ∷ gs) same = rw (same.0, same.1, copied_fields ts fs gs same.2)
copied_fields ts [] (g ∷ gs) same = absurd same
copied_fields ts (f ∷ fs) [] same = absurd same

-- one more copy
pub copied_next : (items more : List (String Global × TyNo)) (fs : List (Bor (List ℕ) × TyNo)) (i : ℕ) (d : Bor (List ℕ) × TyNo) (label : String Global)
    → AreCopies items (take i fs) → i < length fs → more ≡ items ++ (label, (get_or fs i d).1) ∷ [] → string_bytes label ≡ (get_or fs i d).0.now
    → AreCopies more (take (i + 1) fs)
copied_next items more fs i d label so_far lt pushed same =
    rw (pushed, take_more fs i d lt) (copies_push items (take i fs) (label, (get_or fs i d).1) (get_or fs i d) so_far same refl)

pub ruleset copied = (copied_below, copied_apart, copied_fields)

-- fields that are found by a label

pub has_read : (ts : List Typ) (fs : List (String Global × TyNo)) (i : ℕ) (f : String Global × TyNo) → i < length fs → f ≡ get_or fs i f
    → Has (string_bytes f.0) (type_of ts f.1) (fields_over ts fs)
has_read ts [] i f lt is = let no_way : ⊥ = omega arith in absurd no_way
has_read ts (g ∷ fs) zero f lt is = inl (ap (λ x. string_bytes x.0) (sym is), ap (λ x. type_of ts x.1) (sym is))
has_read ts (g ∷ fs) (suc i) f lt is = inr (has_read ts fs i f (omega arith) is)

pub absent_has : (l : Label) (fs : Fields) → IsAbsent l fs → (t : Typ) → Has l t fs → ⊥
absent_has l fs absent t has = absent_not l fs t absent has

-- one more field that does not have the label
pub absent_more : (l : Label) (ts : List Typ) (fs : List (String Global × TyNo)) (i : ℕ) (f : String Global × TyNo) → i < length fs → f ≡ get_or fs i f
    → (l ≡ string_bytes f.0 → ⊥) → (IsAbsent l (fields_over ts fs) ↔ IsAbsent l (fields_over ts (drop i fs)))
    → IsAbsent l (fields_over ts fs) ↔ IsAbsent l (fields_over ts (drop (i + 1) fs))
absent_more l ts fs i f lt is other so_far =
    let step : IsAbsent l (fields_over ts fs) ↔ ((l ≡ string_bytes f.0 → ⊥) × IsAbsent l (fields_over ts (drop (i + 1) fs))) =
    rw (fields_over-drop ts fs i f lt is) at so_far in
    (λ h. (step.0 h).1, λ h. step.1 (other, h))

pub some_below : (o : Option TyNo) (fs : List (String Global × TyNo)) (n : ℕ) → AreEarlier n fs
    → IfSome o (λ x. (m : ℕ) → AreEarlier m fs → x.index < m) → IfSome o (λ x. x.index < n)
some_below None fs n below h = tt
some_below (Some x) fs n below h = h n below

pub ruleset found_fields = (fields_over-drop, below_read, has_read, absent_has)

-- labels that differ, from the front

pub among_drop : (l : Label) (fs : List (String Global × TyNo)) (i : ℕ) (f : String Global × TyNo) → i < length fs → f ≡ get_or fs i f
    → IsNotAmong l (drop i fs) ↔ ((l ≡ string_bytes f.0 → ⊥) × IsNotAmong l (drop (i + 1) fs))
among_drop l fs i f lt is = rw (drop_more_read fs i f lt is) ((λ h. h), (λ h. h))

pub distinct_drop : (fs : List (String Global × TyNo)) (i : ℕ) (f : String Global × TyNo) → i < length fs → f ≡ get_or fs i f
    → HaveDistinctLabels (drop i fs) ↔ (IsNotAmong (string_bytes f.0) (drop (i + 1) fs) × HaveDistinctLabels (drop (i + 1) fs))
distinct_drop fs i f lt is = rw (drop_more_read fs i f lt is) ((λ h. h), (λ h. h))

-- numbers below a bound

-- the least number that is above each of the numbers
abbrev pub bound_of : List (String Global × TyNo) → ℕ
bound_of [] = 0
bound_of (f ∷ fs) = max (f.1.index + 1) (bound_of fs)

pub bound_below : (n : ℕ) (fs : List (String Global × TyNo)) → AreEarlier n fs → bound_of fs ≤ n
bound_below n [] below = omega arith
bound_below n (f ∷ fs) below = let rest = bound_below n fs below.1 in let here = below.0 in omega arith

pub bound_read : (fs : List (String Global × TyNo)) (i : ℕ) (f : String Global × TyNo) → i < length fs → f ≡ get_or fs i f → f.1.index < bound_of fs
bound_read [] i f lt is = let no_way : ⊥ = omega arith in absurd no_way
bound_read (g ∷ fs) zero f lt is = let e = ap (λ x. x.1.index) is in omega arith
bound_read (g ∷ fs) (suc i) f lt is = let rest = bound_read fs i f (omega arith) is in omega arith

-- fields that are added from their front

pub below-push : (n : ℕ) (fs : List (String Global × TyNo)) (f : String Global × TyNo) → AreEarlier n fs → f.1.index < n → AreEarlier n (fs ++ f ∷ [])
below-push n [] f below lt = (lt, tt)
below-push n (g ∷ fs) f below lt = (below.0, below-push n fs f below.1 lt)

pub fields_over-push : (ts : List Typ) (fs : List (String Global × TyNo)) (f : String Global × TyNo) (gs : Fields)
    → joined (fields_over ts (fs ++ f ∷ [])) gs ≡ joined (fields_over ts fs) (field (string_bytes f.0) (type_of ts f.1) gs)
fields_over-push ts [] f gs = refl
fields_over-push ts (g ∷ fs) f gs = ap (λ r. field (string_bytes g.0) (type_of ts g.1) r) (fields_over-push ts fs f gs)

pub nodes_read : (fs : List (String Global × Ty)) (i : ℕ) (f : String Global × Ty) → i < length fs → f ≡ get_or fs i f → nodes (typ_of f.1) ≤ nodes_in (fields_of fs)
nodes_read [] i f lt is = let no_way : ⊥ = omega arith in absurd no_way
nodes_read (g ∷ fs) zero f lt is = let e = ap (λ x. nodes (typ_of x.1)) is in omega arith
nodes_read (g ∷ fs) (suc i) f lt is = let rest = nodes_read fs i f (omega arith) is in omega arith

pub wf_read : (fs : List (String Global × Ty)) (i : ℕ) (f : String Global × Ty) → AreWellFormed (fields_of fs) → i < length fs → f ≡ get_or fs i f → IsWellFormed (typ_of f.1)
wf_read [] i f wf lt is = let no_way : ⊥ = omega arith in absurd no_way
wf_read (g ∷ fs) zero f wf lt is = subst (λ x. IsWellFormed (typ_of x.1)) (sym is) wf.0
wf_read (g ∷ fs) (suc i) f wf lt is = wf_read fs i f wf.2 (omega arith) is

-- what an addition leaves, field by field
pub record AreAdded (old now : List Typ) (items : List (String Global × TyNo)) (rest all : Fields) : Type 0 where
  pub keeps : Keeps old now
  pub below : AreEarlier (length now) items
  pub fields : joined (fields_over now items) rest ≡ all

pub added_more : (old before now : List Typ) (items more : List (String Global × TyNo)) (fs : List (String Global × Ty)) (i : ℕ) (f : String Global × Ty) (label : String Global) (number : TyNo) (all : Fields)
    → AreAdded old before items (fields_of (drop i fs)) all
    → i < length fs → f ≡ get_or fs i f → Keeps before now → IsNumberOf now number (typ_of f.1)
    → string_bytes label ≡ string_bytes f.0 → more ≡ items ++ (label, number) ∷ []
    → AreAdded old now more (fields_of (drop (i + 1) fs)) all
added_more old before now items more fs i f label number all so_far lt is keeps here same_label pushed =
    let longer = keeps_length before now keeps in
    record {
      keeps = keeps_trans old before now so_far.keeps keeps;
      below = rw pushed (below-push (length now) items (label, number) (below_more (length before) (length now) items so_far.below longer) here.stands);
      fields =
          ap (λ x. joined (fields_over now x) (fields_of (drop (i + 1) fs))) pushed
          ∙ fields_over-push now items (label, number) (fields_of (drop (i + 1) fs))
          ∙ ap (λ x. joined x (field (string_bytes label) (type_of now number) (fields_of (drop (i + 1) fs)))) (kept_fields before now items keeps so_far.below)
          ∙ ap (λ x. joined (fields_over before items) (field x (type_of now number) (fields_of (drop (i + 1) fs)))) same_label
          ∙ ap (λ x. joined (fields_over before items) (field (string_bytes f.0) x (fields_of (drop (i + 1) fs)))) here.type
          ∙ ap (joined (fields_over before items)) (sym (fields_of-drop fs i f lt is))
          ∙ so_far.fields;
    }

pub added_all : (old now : List Typ) (items : List (String Global × TyNo)) (fs : List (String Global × Ty)) (i : ℕ)
    → AreAdded old now items (fields_of (drop i fs)) (fields_of fs) → length fs ≤ i → fields_over now items ≡ fields_of fs
added_all old now items fs i so_far le = sym (joined-none (fields_over now items)) ∙ (rw (drop_all i fs le) at so_far.fields)

-- what the types made from numbers leave, field by field

pub made_more : (ts : List Typ) (items more : List (String Global × Ty)) (fs : List (String Global × TyNo)) (i : ℕ) (f : String Global × TyNo) (label : String Global) (t : Ty) (all : Fields)
    → i < length fs → f ≡ get_or fs i f → more ≡ items ++ (label, t) ∷ [] → string_bytes label ≡ string_bytes f.0 → typ_of t ≡ type_of ts f.1
    → joined (fields_of items) (fields_over ts (drop i fs)) ≡ all
    → joined (fields_of more) (fields_over ts (drop (i + 1) fs)) ≡ all
made_more ts items more fs i f label t all lt is pushed same_label same_type so_far =
    rw (pushed, joined-push items (label, t) (fields_over ts (drop (i + 1) fs)), same_label, same_type) (rw (fields_over-drop ts fs i f lt is) at so_far)

pub made_all : (ts : List Typ) (items : List (String Global × Ty)) (fs : List (String Global × TyNo)) (i : ℕ) → length fs ≤ i
    → joined (fields_of items) (fields_over ts (drop i fs)) ≡ fields_over ts fs → fields_of items ≡ fields_over ts fs
made_all ts items fs i le so_far = sym (joined-none (fields_of items)) ∙ (rw (drop_all i fs le) at so_far)

-- what is to be sorted: each number is that of a sorted form, and each label is where it was

pub inside_more : (ts : List Typ) (made more fs : List (String Global × TyNo)) (i : ℕ) (f : String Global × TyNo) (label : String Global) (number : TyNo)
    → i < length fs → f ≡ get_or fs i f → more ≡ made ++ (label, number) ∷ [] → string_bytes label ≡ string_bytes f.0
    → number.index ≤ f.1.index → type_of ts number ≡ sorted (type_of ts f.1) → AreEarlier (length ts) fs
    → AreEarlier (length ts) made × (joined (fields_over ts made) (sorted_inside (fields_over ts (drop i fs))) ≡ sorted_inside (fields_over ts fs))
    → AreEarlier (length ts) more × (joined (fields_over ts more) (sorted_inside (fields_over ts (drop (i + 1) fs))) ≡ sorted_inside (fields_over ts fs))
inside_more ts made more fs i f label number lt is pushed same_label le is_sorted below so_far =
    let here = below_read (length ts) fs i f below lt is in (
      subst (AreEarlier (length ts)) (sym pushed) (below-push (length ts) made (label, number) so_far.0 (omega arith)),
      rw (pushed, fields_over-push ts made (label, number) (sorted_inside (fields_over ts (drop (i + 1) fs))), same_label, is_sorted) (rw (fields_over-drop ts fs i f lt is) at so_far.1),
    )

pub inside_all : (ts : List Typ) (made fs : List (String Global × TyNo)) (i : ℕ) → length fs ≤ i
    → joined (fields_over ts made) (sorted_inside (fields_over ts (drop i fs))) ≡ sorted_inside (fields_over ts fs)
    → fields_over ts made ≡ sorted_inside (fields_over ts fs)
inside_all ts made fs i le so_far = sym (joined-none (fields_over ts made)) ∙ (rw (drop_all i fs le) at so_far)

-- what is sorted

pub sorted_numbers : (ts : List Typ) (made more fs : List (String Global × TyNo))
    → ((typ : TyNo → Typ) → IsSorting (fields_by typ made) (fields_by typ more))
    → fields_over ts made ≡ sorted_inside (fields_over ts fs) → fields_over ts more ≡ sorted_fields (fields_over ts fs)
sorted_numbers ts made more fs sorting inside =
    one_sorting (fields_over ts fs) (fields_over ts more)
    (subst (λ x. IsSorting x (fields_over ts more)) (fields_by-over ts made ∙ inside) (subst (IsSorting (fields_by (type_of ts) made)) (fields_by-over ts more) (sorting (type_of ts))))
  where
    fields_by-over : (ts : List Typ) (gs : List (String Global × TyNo)) → fields_by (type_of ts) gs ≡ fields_over ts gs
    fields_by-over ts [] = refl
    fields_by-over ts (g ∷ gs) = ap (λ r. field (string_bytes g.0) (type_of ts g.1) r) (fields_by-over ts gs)

below_each : (n : ℕ) (fs : List (String Global × TyNo)) → AreEarlier n fs → AllByRecursion (λ f. f.1.index < n) fs
below_each n [] below = tt
below_each n (f ∷ fs) below = (below.0, below_each n fs below.1)

each_below : (n : ℕ) (fs : List (String Global × TyNo)) → All (λ f. f.1.index < n) fs → AreEarlier n fs
each_below n [] each = tt
each_below n (f ∷ fs) each = (All-head (λ f. f.1.index < n) f fs each, each_below n fs (All-tail (λ f. f.1.index < n) f fs each))

pub below_permutation : (n : ℕ) (fs gs : List (String Global × TyNo)) → IsPermutation fs gs → AreEarlier n fs → AreEarlier n gs
below_permutation n fs gs moved below =
    each_below n gs (All-permutation (λ f. f.1.index < n) fs gs moved (All-from_recursion (λ f. f.1.index < n) fs (below_each n fs below)))

-- labels that are distinct in a type are distinct in its shape
not_among_of : (ts : List Typ) (l : Label) (fs : List (String Global × TyNo)) → IsAbsent l (fields_over ts fs) → IsNotAmong l fs
not_among_of ts l [] absent = tt
not_among_of ts l (f ∷ fs) absent = (absent.0, not_among_of ts l fs absent.1)

pub distinct_of : (ts : List Typ) (fs : List (String Global × TyNo)) → AreWellFormed (fields_over ts fs) → HaveDistinctLabels fs
distinct_of ts [] wf = tt
distinct_of ts (f ∷ fs) wf = (not_among_of ts (string_bytes f.0) fs wf.1, distinct_of ts fs wf.2)

pub distinct_fields : (ts : List Typ) (fs : List (String Global × TyNo)) (gs : Fields) → fields_over ts fs ≡ gs → AreWellFormed gs → HaveDistinctLabels fs
distinct_fields ts fs gs e wf = distinct_of ts fs (subst AreWellFormed (sym e) wf)
