-- Lists that stand one behind the other in one.
use Rattle.std.proofs.Common.{◌≡◌, ℕ, ◌-◌, ◌<◌, ◌≤◌, List, [], ◌∷◌, ◌++◌, length, length-append, take, drop, get_or, zero, suc, refl, ap, sym, ◌∙◌, arith}
use Rattle.std.proofs.lemmas.List.{drop_all, drop-append-le, take-append-le, length-drop}
use Rattle.std.proofs.Math.Seq.{drop-append_seam, take-length}
use Rattle.std.proofs.Math.ListN.{get_or-eq_default}
use Rattle.std.specs.List.{slice_range}
use Rattle.lam_scope.specs.Slices.{first_start, sliced, AreInOrder}

-- where a list ends

first_start-pushed : {R : Type 0} (start : R → ℕ) (n m : ℕ) (rs : List R) (r : R) → start r ≡ n → first_start start (rs ++ r ∷ []) m ≡ first_start start rs n
first_start-pushed start n m [] r is = is
first_start-pushed start n m (q ∷ rs) r is = refl

pub first_start-at : {R : Type 0} (start : R → ℕ) (end : ℕ) (rs : List R) (n : ℕ) (r : R) → n < length rs → r ≡ get_or rs n r → first_start start (drop n rs) end ≡ start r
first_start-at start end [] n r lt is = absurd (omega arith)
first_start-at start end (q ∷ rs) zero r lt is = ap start (sym is)
first_start-at start end (q ∷ rs) (suc n) r lt is = first_start-at start end rs n r (omega arith) is

pub first_start-past : {R : Type 0} (start : R → ℕ) (end : ℕ) (rs : List R) (n : ℕ) → length rs ≤ n → first_start start (drop n rs) end ≡ end
first_start-past start end rs n le = ap (λ qs. first_start start qs end) (drop_all n rs le)

-- what is in order

first_start-within : {R : Type 0} (start : R → ℕ) (end : ℕ) (rs : List R) → AreInOrder start end rs → first_start start rs end ≤ end
first_start-within start end [] order = omega arith
first_start-within start end (r ∷ rs) order = let rest = first_start-within start end rs order.1 in let here = order.0 in omega arith

pub in_order-longer : {R : Type 0} (start : R → ℕ) (n m : ℕ) (rs : List R) → n ≤ m → AreInOrder start n rs → AreInOrder start m rs
in_order-longer start n m [] le order = order
in_order-longer start n m (r ∷ []) le order = let here = order.0 in (omega arith, order.1)
in_order-longer start n m (r ∷ s ∷ rs) le order = (order.0, in_order-longer start n m (s ∷ rs) le order.1)

pub in_order-pushed : {R : Type 0} (start : R → ℕ) (n : ℕ) (rs : List R) (r : R) → start r ≡ n → AreInOrder start n rs → AreInOrder start n (rs ++ r ∷ [])
in_order-pushed start n [] r is order = (omega arith, order)
in_order-pushed start n (q ∷ []) r is order = let here = order.0 in (omega arith, in_order-pushed start n [] r is order.1)
in_order-pushed start n (q ∷ s ∷ rs) r is order = (order.0, in_order-pushed start n (s ∷ rs) r is order.1)

pub in_order-at : {R : Type 0} (start : R → ℕ) (end : ℕ) (rs : List R) (n : ℕ) (r : R) → AreInOrder start end rs → n < length rs → r ≡ get_or rs n r
    → start r ≤ first_start start (drop (suc n) rs) end
in_order-at start end [] n r order lt is = absurd (omega arith)
in_order-at start end (q ∷ rs) zero r order lt is = let here = order.0 in let same = ap start is in omega arith
in_order-at start end (q ∷ rs) (suc n) r order lt is = in_order-at start end rs n r order.1 (omega arith) is

pub in_order-within : {R : Type 0} (start : R → ℕ) (end : ℕ) (rs : List R) (n : ℕ) → AreInOrder start end rs → first_start start (drop n rs) end ≤ end
in_order-within start end rs zero order = first_start-within start end rs order
in_order-within start end [] (suc n) order = omega arith
in_order-within start end (r ∷ rs) (suc n) order = in_order-within start end rs n order.1

-- one list more

range_kept : {T : Type 0} (ts new : List T) (a b : ℕ) → a ≤ b → b ≤ length ts → slice_range (ts ++ new) a b ≡ slice_range ts a b
range_kept ts new a b le within =
    let rest = length-drop a ts in
    ap (take (b - a)) (drop-append-le a ts new (omega arith)) ∙ take-append-le (b - a) (drop a ts) new (omega arith)

range_new : {T : Type 0} (ts new : List T) (a : ℕ) → a ≡ length ts → slice_range (ts ++ new) a (length (ts ++ new)) ≡ new
range_new ts new a start =
    let all = length-append ts new in
    let count : length (ts ++ new) - a ≡ length new = omega arith in
    (λ i. take (count i) (drop (start i) (ts ++ new))) ∙ ap (take (length new)) (drop-append_seam ts new) ∙ take-length new

pub sliced-pushed : {R T U : Type 0} (start : R → ℕ) (row : R → List T → U) (ts new : List T) (rs : List R) (r : R) → AreInOrder start (length ts) rs → start r ≡ length ts
    → sliced start row (ts ++ new) (rs ++ r ∷ []) ≡ sliced start row ts rs ++ row r new ∷ []
sliced-pushed start row ts new [] r order is = ap (λ l. row r l ∷ []) (range_new ts new (start r) is)
sliced-pushed start row ts new (q ∷ rs) r order is = λ i.
    row q ((ap (slice_range (ts ++ new) (start q)) (first_start-pushed start (length ts) (length (ts ++ new)) rs r is)
    ∙ range_kept ts new (start q) (first_start start rs (length ts)) order.0 (first_start-within start (length ts) rs order.1)) i)
    ∷ sliced-pushed start row ts new rs r order.1 is i

-- the list of a number, or none

pub sliced-length : {R T U : Type 0} (start : R → ℕ) (row : R → List T → U) (ts : List T) (rs : List R) → length (sliced start row ts rs) ≡ length rs
sliced-length start row ts [] = refl
sliced-length start row ts (r ∷ rs) = ap suc (sliced-length start row ts rs)

pub sliced-at : {R T U : Type 0} (start : R → ℕ) (row : R → List T → U) (ts : List T) (rs : List R) (n : ℕ) (r : R) (d : U) → n < length rs → r ≡ get_or rs n r
    → get_or (sliced start row ts rs) n d ≡ row r (slice_range ts (start r) (first_start start (drop (suc n) rs) (length ts)))
sliced-at start row ts [] n r d lt is = absurd (omega arith)
sliced-at start row ts (q ∷ rs) zero r d lt is = ap (λ s. row s (slice_range ts (start s) (first_start start rs (length ts)))) (sym is)
sliced-at start row ts (q ∷ rs) (suc n) r d lt is = sliced-at start row ts rs n r d (omega arith) is

pub sliced-past : {R T U : Type 0} (start : R → ℕ) (row : R → List T → U) (ts : List T) (rs : List R) (n : ℕ) (d : U) → length rs ≤ n → get_or (sliced start row ts rs) n d ≡ d
sliced-past start row ts rs n d le = get_or-eq_default (sliced start row ts rs) d (rw (sliced-length start row ts rs) le)
