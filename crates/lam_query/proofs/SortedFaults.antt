-- Faults have one order: each list of them can be put in it, and in one way alone.
use Rattle.std.proofs.Common.{◌≡◌, ℕ, zero, suc, ◌+◌, ◌<◌, ◌≤◌, Bool, true, false, true≢false, List, [], ◌∷◌, length, get_or, nat_cmp, is_lt, is_gt, sum_by, sym, refl, ap, subst, ◌∙◌, arith}
use Rattle.std.specs.List.{AllByRecursion}
use Rattle.std.specs.List.Sorted.{IsPermutation, IsSortedBy}
use Rattle.std.specs.declared.cmp.Ordering.{Ordering}
use Rattle.std.specs.declared.cmp.Ordering.TheVariants.{Less, Equal, Greater}
use Rattle.std.specs.Ordering.{ordering_then, ordering_reverse}
use Rattle.std.specs.Cmp.{IsTotalOrder, IsStrictWeakOrder}
use Rattle.std.specs.Cmp.Lexicographic.{slice_cmp, nat_list_cmp_total}
use Rattle.std.proofs.lemmas.Cmp.{nat_cmp_total, on_total, then_total}
use Rattle.std.proofs.lemmas.Map.Lookups.{exact_unsigned}
use Rattle.std.proofs.lemmas.List.Sums.{sum_by-cons}
use Rattle.std.proofs.lemmas.List.Elements.{All-from_recursion, recursion_from_All}
use Rattle.std.proofs.lemmas.List.Sorted.{ranks_by, sorted_far, All-permutation, sum_by-IsPermutation, IsPermutation-refl, IsPermutation-trans, IsPermutation-cons, IsPermutation-middle}
use Rattle.lam_query.specs.Faults.{Fault, is_before, AreInOrder}

-- ---- lists in order

module _ {X : Type 0} (lt : X → X → Bool) (o : IsStrictWeakOrder lt) where
  -- none of the list is before x
  abbrev Above : X → List X → Type 0
  Above x = AllByRecursion (λ y. lt y x ≡ false)

  abbrev Up : List X → Type 0
  Up [] = Unit {0}
  Up (x ∷ xs) = Above x xs × Up xs

  above_of : (x : X) (xs : List X) → ((k : ℕ) → k < length xs → lt (get_or xs k x) x ≡ false) → Above x xs
  above_of x [] h = tt
  above_of x (y ∷ ys) h = (h 0 (omega arith), above_of x ys (λ k p. h (suc k) (omega arith)))

  up_of : (xs : List X) → ((i j : ℕ) (d : X) → i ≤ j → j < length xs → lt (get_or xs j d) (get_or xs i d) ≡ false) → Up xs
  up_of [] h = tt
  up_of (x ∷ xs) h = (above_of x xs (λ k p. h 0 (suc k) x (omega arith) (omega arith)), up_of xs (λ i j d p q. h (suc i) (suc j) d (omega arith) (omega arith)))

  up_from_sorted : (xs : List X) → IsSortedBy lt xs → Up xs
  up_from_sorted xs h = up_of xs (sorted_far lt o xs h)

  next_up : (xs : List X) (k : ℕ) (d : X) → suc k < length xs → Up xs → lt (get_or xs (suc k) d) (get_or xs k d) ≡ false
  next_up [] k d p h = absurd (omega arith)
  next_up (x ∷ []) k d p h = absurd (omega arith)
  next_up (x ∷ y ∷ r) zero d p h = h.0.0
  next_up (x ∷ y ∷ r) (suc k) d p h = next_up (y ∷ r) k d (omega arith) h.1

  sorted_from_up : (xs : List X) → Up xs → IsSortedBy lt xs
  sorted_from_up xs h k d a b =
      let next : suc k ≡ k + 1 = omega arith in
      subst (λ n. lt (get_or xs n d) (get_or xs k d) ≡ false) next (next_up xs k d (omega arith) h)

  so_false : (b : Bool) → (b ≡ true → b ≡ false) → b ≡ false
  so_false true h = h refl
  so_false false h = refl

  not_itself : (x : X) → lt x x ≡ false
  not_itself x = so_false (lt x x) (o.one_way x x)

  above_more : (x y : X) (ys : List X) → lt y x ≡ false → Above y ys → Above x ys
  above_more x y [] e h = tt
  above_more x y (z ∷ zs) e h = (o.chain z y x h.0 e, above_more x y zs e h.1)

  -- x goes into a list in order
  placed_by : (x y : X) (ys : List X) (b : Bool) → lt y x ≡ b → Up (y ∷ ys) → (rest : List X) → IsPermutation (x ∷ ys) rest → Up rest → (r : List X) × IsPermutation (x ∷ y ∷ ys) r × Up r
  placed_by x y ys true e h rest moved up =
      let here : Above y (x ∷ ys) = (o.one_way y x e, h.0) in
      let above = recursion_from_All (λ z. lt z y ≡ false) rest (All-permutation (λ z. lt z y ≡ false) (x ∷ ys) rest moved (All-from_recursion (λ z. lt z y ≡ false) (x ∷ ys) here)) in
      (y ∷ rest, IsPermutation-trans _ _ _ (IsPermutation-middle (x ∷ []) y ys) (IsPermutation-cons y (x ∷ ys) rest moved), (above, up))
  placed_by x y ys false e h rest moved up = (x ∷ y ∷ ys, IsPermutation-refl (x ∷ y ∷ ys), ((e, above_more x y ys e h.0), h))

  placed : (x : X) (xs : List X) → Up xs → (r : List X) × IsPermutation (x ∷ xs) r × Up r
  placed x [] h = (x ∷ [], IsPermutation-refl (x ∷ []), (tt, tt))
  placed x (y ∷ ys) h = let rest = placed x ys h.1 in placed_by x y ys (lt y x) refl h rest.0 rest.1 rest.2

  put_up : (xs : List X) → (r : List X) × IsPermutation xs r × Up r
  put_up [] = ([], IsPermutation-refl [], tt)
  put_up (x ∷ xs) =
      let rest = put_up xs in
      let all = placed x rest.0 rest.2 in
      (all.0, IsPermutation-trans _ _ _ (IsPermutation-cons x xs rest.0 rest.1) all.1, all.2)

  pub some_sorted : (xs : List X) → (r : List X) × IsPermutation xs r × IsSortedBy lt r
  some_sorted xs = let all = put_up xs in (all.0, all.1, sorted_from_up all.0 all.2)

  -- ---- one order alone: all sums over the two lists agree

  abbrev count : Bool → ℕ
  count true = 1
  count false = 0

  abbrev counts : X → X → ℕ
  counts x z = count (lt z x)

  abbrev Agree : List X → List X → Type 0
  Agree xs ys = (f : X → ℕ) → sum_by f ys ≡ sum_by f xs

  none_before : (x : X) (xs : List X) → Above x xs → sum_by (counts x) xs ≡ 0
  none_before x [] h = refl
  none_before x (y ∷ ys) h =
      let first : counts x y ≡ 0 = ap count h.0 in
      omega (arith, sum_by-cons (counts x) y ys, first, none_before x ys h.1)

  no_count : (b : Bool) → count b ≡ 0 → b ≡ false
  no_count true e = absurd (omega arith)
  no_count false e = refl

  head_least : (x y : X) (xs ys : List X) → Above x xs → Agree (x ∷ xs) (y ∷ ys) → lt y x ≡ false
  head_least x y xs ys h s =
      let none = none_before x (x ∷ xs) (not_itself x, h) in
      let zero_here : counts x y ≡ 0 = omega (arith, sum_by-cons (counts x) y ys, s (counts x), none) in
      no_count (lt y x) zero_here

  module _ (exact : (x y : X) → lt x y ≡ false → lt y x ≡ false → x ≡ y) where
    one_up : (xs ys : List X) → Agree xs ys → Up xs → Up ys → xs ≡ ys
    one_up [] [] s h k = refl
    one_up [] (y ∷ ys) s h k = absurd (omega (arith, s (λ _. 1), sum_by-cons (λ _. 1) y ys))
    one_up (x ∷ xs) [] s h k = absurd (omega (arith, s (λ _. 1), sum_by-cons (λ _. 1) x xs))
    one_up (x ∷ xs) (y ∷ ys) s h k =
        let heads : x ≡ y = exact x y (head_least y x ys xs k.0 (λ f. sym (s f))) (head_least x y xs ys h.0 s) in
        let tails : xs ≡ ys = one_up xs ys (λ f. omega (arith, s f, sum_by-cons f x xs, sum_by-cons f y ys, ap f heads)) h.1 k.1 in
        λ i. heads i ∷ tails i

    pub one_sorted : (xs ys zs : List X) → IsPermutation xs ys → IsPermutation xs zs → IsSortedBy lt ys → IsSortedBy lt zs → ys ≡ zs
    one_sorted xs ys zs p q h k =
        one_up ys zs (λ f. sum_by-IsPermutation f xs zs q ∙ sym (sum_by-IsPermutation f xs ys p)) (up_from_sorted ys h) (up_from_sorted zs k)

-- ---- the order of faults

abbrev by_place : Fault → Fault → Ordering
by_place f g = ordering_then (ordering_then (nat_cmp f.span.start g.span.start) (nat_cmp f.span.end g.span.end)) (slice_cmp nat_cmp f.code g.code)

by_place_total : IsTotalOrder by_place
by_place_total =
    then_total
    (then_total (on_total (λ (f : Fault). f.span.start) nat_cmp_total) (on_total (λ (f : Fault). f.span.end) nat_cmp_total))
    (on_total (λ (f : Fault). f.code) nat_list_cmp_total)

before_order : IsStrictWeakOrder is_before
before_order = ranks_by by_place_total (λ f. f)

both_equal : (a b : Ordering) → ordering_then a b ≡ Equal → (a ≡ Equal) × (b ≡ Equal)
both_equal Less b e = absurd (true≢false (ap is_lt e))
both_equal Equal b e = (refl, e)
both_equal Greater b e = absurd (true≢false (ap is_gt e))

neither_less : (a b : Ordering) → a ≡ ordering_reverse b → is_lt a ≡ false → is_lt b ≡ false → a ≡ Equal
neither_less Less b e h k = absurd (true≢false h)
neither_less Equal b e h k = refl
neither_less Greater Less e h k = absurd (true≢false k)
neither_less Greater Equal e h k = e
neither_less Greater Greater e h k = absurd (true≢false (ap is_gt e))

-- texts that compare as equal are the same
same_texts : (a b : List ℕ) → slice_cmp nat_cmp a b ≡ Equal → a ≡ b
same_texts [] [] e = refl
same_texts [] (y ∷ ys) e = absurd (true≢false (ap is_lt e))
same_texts (x ∷ xs) [] e = absurd (true≢false (ap is_gt e))
same_texts (x ∷ xs) (y ∷ ys) e =
    let both = both_equal (nat_cmp x y) (slice_cmp nat_cmp xs ys) e in
    let first = exact_unsigned x y both.0 in
    let rest = same_texts xs ys both.1 in
    λ i. first i ∷ rest i

faults_same : (f g : Fault) → by_place f g ≡ Equal → f ≡ g
faults_same f g e =
    let all = both_equal (ordering_then (nat_cmp f.span.start g.span.start) (nat_cmp f.span.end g.span.end)) (slice_cmp nat_cmp f.code g.code) e in
    let places = both_equal (nat_cmp f.span.start g.span.start) (nat_cmp f.span.end g.span.end) all.0 in
    let starts = exact_unsigned f.span.start g.span.start places.0 in
    let ends = exact_unsigned f.span.end g.span.end places.1 in
    let same_code = same_texts f.code g.code all.1 in
    λ i. record { code = same_code i; span = record { start = starts i; end = ends i } }

before_exact : (f g : Fault) → is_before f g ≡ false → is_before g f ≡ false → f ≡ g
before_exact f g h k = faults_same f g (neither_less (by_place f g) (by_place g f) (by_place_total.antisymm f g) h k)

-- each list of faults can be put in order
pub some_order : (fs : List Fault) → (ordered : List Fault) × AreInOrder fs ordered
some_order fs = let all = some_sorted is_before before_order fs in (all.0, record { same = all.1; sorted = all.2 })

-- and in one way
pub one_order : (fs gs hs : List Fault) → AreInOrder fs gs → AreInOrder fs hs → gs ≡ hs
one_order fs gs hs a b = one_sorted is_before before_order before_exact fs gs hs a.same b.same a.sorted b.sorted
