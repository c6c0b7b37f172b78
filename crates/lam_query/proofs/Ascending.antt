-- Lists that ascend by the bytes of their labels: two of them with the same labels are one list, and a label can be put in its place.
use Rattle.std.proofs.Common.{◌≡◌, ◌⊎◌, zero, suc, List, [], ◌∷◌, map, All, Contains, refl, sym, subst, ◌∙◌, inl, inr, arith, nat_cmp, Ordering, Less, Equal, Greater}
use Rattle.std.specs.List.{AllByRecursion}
use Rattle.std.specs.List.Sorted.{IsStrictlySortedBy}
use Rattle.std.specs.Cmp.Lexicographic.{slice_cmp, nat_list_cmp_total}
use Rattle.std.proofs.lemmas.List.Elements.{All-contains, All-from_recursion, All-head, All-map, All-tail, All-weaker}
use Rattle.std.proofs.lemmas.Map.Keys.{sorted_head, sorted_tail}
use Rattle.lam_rules.specs.Types.{Label}
use Rattle.lam_rules.proofs.SharedTexts.{Before, before_not_itself, before_turned, tied_same}
use Rattle.lam_query.specs.Completions.{Item, AreAscending}

abbrev pub Ascend : List Label → Type 0
Ascend ks = IsStrictlySortedBy (slice_cmp nat_cmp) ks

-- members of a list

first : (k x : Label) (ks : List Label) → k ≡ x → Contains (k ∷ ks) x
first k x ks is = (0, omega arith, is)

further : (k x : Label) (ks : List Label) → Contains ks x → Contains (k ∷ ks) x
further k x ks (n, inside, is) = (suc n, omega arith, is)

first_or_further : (k x : Label) (ks : List Label) → Contains (k ∷ ks) x → (k ≡ x) ⊎ Contains ks x
first_or_further k x ks (zero, inside, is) = inl is
first_or_further k x ks (suc n, inside, is) = inr (n, omega arith, is)

none_there : (x : Label) → Contains [] x → ⊥
none_there x (n, inside, is) = omega arith

pub weaker : (P Q : Label → Type 0) → ((x : Label) → P x → Q x) → (ks : List Label) → AllByRecursion P ks → AllByRecursion Q ks
weaker P Q so [] each = tt
weaker P Q so (k ∷ ks) each = (so k each.0, weaker P Q so ks each.1)

-- what ascends from a label stands behind it
behind_first : (k x : Label) (ks : List Label) → Ascend (k ∷ ks) → Contains ks x → Before k x
behind_first k x ks up there = All-contains (λ y. Before k y) ks x (All-from_recursion (λ y. Before k y) ks (sorted_head (slice_cmp nat_cmp) k ks up)) there

-- two lists of labels that ascend, with the same members, are one

one_first : (k l : Label) (ks ls : List Label) → Ascend (k ∷ ks) → Ascend (l ∷ ls) → Contains (l ∷ ls) k → Contains (k ∷ ks) l → k ≡ l
one_first k l ks ls up higher there back = by (first_or_further l k ls there) (first_or_further k l ks back)
  where
    by : (l ≡ k) ⊎ Contains ls k → (k ≡ l) ⊎ Contains ks l → k ≡ l
    by (inl same) back = sym same
    by (inr later) (inl same) = same
    by (inr later) (inr behind) = absurd (before_not_itself k (nat_list_cmp_total.trans k l k (behind_first k l ks up behind) (behind_first l k ls higher later)))

rest_there : (k l : Label) (ks ls : List Label) → Ascend (k ∷ ks) → k ≡ l → ((x : Label) → Contains (k ∷ ks) x → Contains (l ∷ ls) x) → (x : Label) → Contains ks x → Contains ls x
rest_there k l ks ls up same there x at = by (first_or_further l x ls (there x (further k x ks at)))
  where
    by : (l ≡ x) ⊎ Contains ls x → Contains ls x
    by (inl is) = absurd (before_not_itself x (subst (λ y. Before y x) (same ∙ is) (behind_first k x ks up at)))
    by (inr later) = later

one_list_of_keys : (ks ls : List Label) → Ascend ks → Ascend ls → ((x : Label) → Contains ks x → Contains ls x) → ((x : Label) → Contains ls x → Contains ks x) → ks ≡ ls
one_list_of_keys [] [] up higher there back = refl
one_list_of_keys (k ∷ ks) [] up higher there back = absurd (none_there k (there k (first k k ks refl)))
one_list_of_keys [] (l ∷ ls) up higher there back = absurd (none_there l (back l (first l l ls refl)))
one_list_of_keys (k ∷ ks) (l ∷ ls) up higher there back =
    let same = one_first k l ks ls up higher (there k (first k k ks refl)) (back l (first l l ls refl)) in
    let up_behind = sorted_tail (slice_cmp nat_cmp) k ks up in
    let higher_behind = sorted_tail (slice_cmp nat_cmp) l ls higher in
    let rest = one_list_of_keys ks ls up_behind higher_behind (rest_there k l ks ls up same there) (rest_there l k ls ks higher (sym same) back) in
    λ i. same i ∷ rest i

-- so are two lists of items, where an item is told by its label

one_by_labels : (P : Item → Type 0) → ((i j : Item) → P i → P j → i.label ≡ j.label → i ≡ j) → (items others : List Item)
    → map (λ (i : Item). i.label) items ≡ map (λ (i : Item). i.label) others → All P items → All P others → items ≡ others
one_by_labels P told [] [] same each other = refl
one_by_labels P told (i ∷ items) [] same each other = absurd cc
one_by_labels P told [] (j ∷ others) same each other = absurd cc
one_by_labels P told (i ∷ items) (j ∷ others) same each other =
    let label : i.label ≡ j.label = cc in
    let labels : map (λ (i : Item). i.label) items ≡ map (λ (i : Item). i.label) others = cc in
    let one = told i j (All-head P i items each) (All-head P j others other) label in
    let rest = one_by_labels P told items others labels (All-tail P i items each) (All-tail P j others other) in
    λ k. one k ∷ rest k

-- what holds of the label of each item holds of each label
of_label : (P : Item → Type 0) (Q : Label → Type 0) → ((i : Item) → P i → Q i.label) → (items : List Item) → All P items
    → (x : Label) → Contains (map (λ (i : Item). i.label) items) x → Q x
of_label P Q so items each x there =
    let labels = All-map Q (λ (i : Item). i.label) items (All-weaker P (λ i. Q i.label) so items each) in
    All-contains Q (map (λ (i : Item). i.label) items) x labels there

-- two lists of items that ascend are one, if P holds of each item, and each label of which Q holds is that of an item
pub one_ascending : (P : Item → Type 0) (Q : Label → Type 0) → ((i : Item) → P i → Q i.label) → ((i j : Item) → P i → P j → i.label ≡ j.label → i ≡ j)
    → (items others : List Item) → AreAscending items → AreAscending others → All P items → All P others
    → ((x : Label) → Q x → Contains (map (λ (i : Item). i.label) items) x) → ((x : Label) → Q x → Contains (map (λ (i : Item). i.label) others) x) → items ≡ others
one_ascending P Q so told items others up higher each other there here =
    let same = one_list_of_keys (map (λ (i : Item). i.label) items) (map (λ (i : Item). i.label) others) up higher
    (λ x at. here x (of_label P Q so items each x at))
    (λ x at. there x (of_label P Q so others other x at)) in
    one_by_labels P told items others same each other

-- a label put in its place, where a list that has it stays as it is

abbrev put_by : Ordering → (x k : Label) → (ks behind : List Label) → List Label
put_by Less x k ks behind = x ∷ k ∷ ks
put_by Equal x k ks behind = k ∷ ks
put_by Greater x k ks behind = k ∷ behind

abbrev pub put : Label → List Label → List Label
put x [] = x ∷ []
put x (k ∷ ks) = put_by (slice_cmp nat_cmp x k) x k ks (put x ks)

pub each_put : (P : Label → Type 0) (x : Label) (ks : List Label) → P x → AllByRecursion P ks → AllByRecursion P (put x ks)
each_put P x [] here each = (here, tt)
each_put P x (k ∷ ks) here each = by (slice_cmp nat_cmp x k) (each_put P x ks here each.1)
  where
    by : (o : Ordering) → AllByRecursion P (put x ks) → AllByRecursion P (put_by o x k ks (put x ks))
    by Less behind = (here, each)
    by Equal behind = each
    by Greater behind = (each.0, behind)

pub put_there : (x : Label) (ks : List Label) → Contains (put x ks) x
put_there x [] = first x x [] refl
put_there x (k ∷ ks) = by (slice_cmp nat_cmp x k) refl (put_there x ks)
  where
    by : (o : Ordering) → slice_cmp nat_cmp x k ≡ o → Contains (put x ks) x → Contains (put_by o x k ks (put x ks)) x
    by Less is behind = first x x (k ∷ ks) refl
    by Equal is behind = first k x ks (sym (tied_same x k is))
    by Greater is behind = further k x (put x ks) behind

pub put_keeps : (x y : Label) (ks : List Label) → Contains ks y → Contains (put x ks) y
put_keeps x y [] there = further x y [] there
put_keeps x y (k ∷ ks) there = by (slice_cmp nat_cmp x k) (put_keeps x y ks)
  where
    by : (o : Ordering) → (Contains ks y → Contains (put x ks) y) → Contains (put_by o x k ks (put x ks)) y
    by Less behind = further x y (k ∷ ks) there
    by Equal behind = there
    by Greater behind = at (first_or_further k y ks there)
      where
        at : (k ≡ y) ⊎ Contains ks y → Contains (k ∷ put x ks) y
        at (inl is) = first k y (put x ks) is
        at (inr later) = further k y (put x ks) (behind later)

pub none_ascend : Ascend []
unfolding IsStrictlySortedBy
none_ascend = tt

pub put_ascends : (x : Label) (ks : List Label) → Ascend ks → Ascend (put x ks)
unfolding IsStrictlySortedBy
put_ascends x [] up = (tt, tt)
put_ascends x (k ∷ ks) up = by (slice_cmp nat_cmp x k) refl (put_ascends x ks up.1)
  where
    by : (o : Ordering) → slice_cmp nat_cmp x k ≡ o → Ascend (put x ks) → Ascend (put_by o x k ks (put x ks))
    by Less is behind = ((is, weaker (λ y. Before k y) (λ y. Before x y) (λ y. nat_list_cmp_total.trans x k y is) ks up.0), up)
    by Equal is behind = up
    by Greater is behind = (each_put (λ y. Before k y) x ks (before_turned x k is) up.0, behind)
