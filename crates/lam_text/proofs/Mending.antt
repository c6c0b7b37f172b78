-- How the index of a text is found again after a splice: what is kept before it, and what is moved behind it.
use Rattle.std.proofs.Common.{◌≡◌, ℕ, suc, ◌+◌, ◌<◌, ◌≤◌, Bool, true, ltb, List, [], ◌∷◌, ◌++◌, length, drop, refl, sym, inl, inr, arith}
use Rattle.std.proofs.lemmas.Bool.{cases_Bool, le-leb, lt-leb, cond_both}
use Rattle.std.proofs.lemmas.List.{length-append, append_assoc, drop-append-le, append-nil, drop_all}
use Rattle.std.proofs.lemmas.List.Folds.{list_all-append}
use Rattle.std.proofs.lemmas.List.Elements.{All-cons, All-nil}
use Rattle.std.proofs.lemmas.List.Sorted.{IsNonDecreasingBy-insert}
use Rattle.std.specs.List.{prefix_len, All}
use Rattle.std.specs.List.Sorted.{IsNonDecreasingBy}
use Rattle.lam_text.specs.declared.index.Mark.{Mark}
use Rattle.lam_text.specs.Lines.{begins_with_lf}
use Rattle.lam_text.specs.inner.Index.{all_ascii}
use Rattle.lam_text.specs.inner.Search.{fresh, grown, ends, lf_after, marks_from, open_after, starts_by}
use Rattle.lam_text.proofs.Marks.{ended_in}
use Rattle.lam_text.proofs.Scan.{and-true}

-- ---- where lines start

rises-cons : (mark : Mark) (marks : List Mark) → All (λ later. mark.start ≤ later.start) marks → IsNonDecreasingBy (λ m. m.start) marks → IsNonDecreasingBy (λ m. m.start) (mark ∷ marks)
rises-cons mark marks all rises = IsNonDecreasingBy-insert (λ m. m.start) marks 0 mark rises (omega arith) (λ k d h. absurd (omega arith)) (λ k d l h. all k d h)

pub prefix_len-ended_in : (k : ℕ) (open_line : Mark) (at : ℕ) (xs : List ℕ) (lf : Bool) (ys : List Mark) →
    open_line.start ≤ k → at + length xs ≤ k →
    prefix_len (starts_by k) (ended_in open_line at xs lf ++ ys) ≡ length (ended_in open_line at xs lf) + prefix_len (starts_by k) ys
prefix_len-ended_in k open_line at [] lf ys low high = omega arith
prefix_len-ended_in k open_line at (b ∷ xs) lf ys low high =
    elim (cases_Bool (ends b (lf_after xs lf))) [
      | inl ended ↦ rw ended (rw (le-leb open_line.start k low, prefix_len-ended_in k (fresh (at + 1)) (at + 1) xs lf ys (omega arith) (omega arith)) (omega arith))
      | inr open_still ↦ rw open_still (prefix_len-ended_in k (grown open_line b) (at + 1) xs lf ys low (omega arith))
    ]

-- no line starts at `k` or before if the open one starts after it
prefix_len-marks_from_none : (k : ℕ) (open_line : Mark) (at : ℕ) (xs : List ℕ) → k < open_line.start → prefix_len (starts_by k) (marks_from open_line at xs) ≡ 0
prefix_len-marks_from_none k open_line at [] high = rw (lt-leb open_line.start k high) refl
prefix_len-marks_from_none k open_line at (b ∷ xs) high =
    elim (cases_Bool (ends b (begins_with_lf xs))) [
      | inl ended ↦ rw ended (rw (lt-leb open_line.start k high) refl)
      | inr open_still ↦ rw open_still (prefix_len-marks_from_none k (grown open_line b) (at + 1) xs high)
    ]

pub prefix_len-marks_from : (k : ℕ) (open_line : Mark) (at : ℕ) (xs : List ℕ) → open_line.start ≤ k → k ≤ at → prefix_len (starts_by k) (marks_from open_line at xs) ≡ 1
prefix_len-marks_from k open_line at [] low high = rw (le-leb open_line.start k low) refl
prefix_len-marks_from k open_line at (b ∷ xs) low high =
    elim (cases_Bool (ends b (begins_with_lf xs))) [
      | inl ended ↦ rw ended (rw (le-leb open_line.start k low, prefix_len-marks_from_none k (fresh (at + 1)) (at + 1) xs (omega arith)) refl)
      | inr open_still ↦ rw open_still (prefix_len-marks_from k (grown open_line b) (at + 1) xs low (omega arith))
    ]

-- each line that is found starts at `low` or later if the open one does, and if the byte after the first is not before `low`
pub starts_from : (low : ℕ) (open_line : Mark) (at : ℕ) (xs : List ℕ) → low ≤ open_line.start → low ≤ at + 1 → All (λ mark. low ≤ mark.start) (marks_from open_line at xs)
starts_from low open_line at [] h l = All-cons (λ (mark : Mark). low ≤ mark.start) open_line [] h (All-nil (λ (mark : Mark). low ≤ mark.start))
starts_from low open_line at (b ∷ xs) h l =
    let rest = starts_from low (fresh (at + 1)) (at + 1) xs (omega arith) (omega arith) in
    let same = starts_from low (grown open_line b) (at + 1) xs h (omega arith) in
    cond_both (ends b (begins_with_lf xs)) _ _ (All (λ mark. low ≤ mark.start)) (λ _. All-cons (λ (mark : Mark). low ≤ mark.start) open_line _ h rest) (λ _. same)

pub starts_to : (high : ℕ) (open_line : Mark) (at : ℕ) (xs : List ℕ) → open_line.start ≤ high → at + length xs ≤ high → All (λ mark. mark.start ≤ high) (marks_from open_line at xs)
starts_to high open_line at [] h l = All-cons (λ (mark : Mark). mark.start ≤ high) open_line [] h (All-nil (λ (mark : Mark). mark.start ≤ high))
starts_to high open_line at (b ∷ xs) h l =
    let rest = starts_to high (fresh (at + 1)) (at + 1) xs (omega arith) (omega arith) in
    let same = starts_to high (grown open_line b) (at + 1) xs h (omega arith) in
    cond_both (ends b (begins_with_lf xs)) _ _ (All (λ mark. mark.start ≤ high)) (λ _. All-cons (λ (mark : Mark). mark.start ≤ high) open_line _ h rest) (λ _. same)

-- the lines after the open one start behind the byte `at`
pub later_starts_from : (low : ℕ) (open_line : Mark) (at : ℕ) (xs : List ℕ) → low ≤ at + 1 → All (λ mark. low ≤ mark.start) (drop 1 (marks_from open_line at xs))
later_starts_from low open_line at [] l = All-nil (λ (mark : Mark). low ≤ mark.start)
later_starts_from low open_line at (b ∷ xs) l =
    let rest = starts_from low (fresh (at + 1)) (at + 1) xs l (omega arith) in
    let same = later_starts_from low (grown open_line b) (at + 1) xs (omega arith) in
    cond_both (ends b (begins_with_lf xs)) _ _ (λ marks. All (λ mark. low ≤ mark.start) (drop 1 marks)) (λ _. rest) (λ _. same)

pub starts_rise : (open_line : Mark) (at : ℕ) (xs : List ℕ) → open_line.start ≤ at → IsNonDecreasingBy (λ mark. mark.start) (marks_from open_line at xs)
starts_rise open_line at [] h = rises-cons open_line [] (All-nil (λ (mark : Mark). open_line.start ≤ mark.start)) (λ i j d l m. absurd (omega arith))
starts_rise open_line at (b ∷ xs) h =
    let rest = starts_rise (fresh (at + 1)) (at + 1) xs (omega arith) in
    let later = starts_from open_line.start (fresh (at + 1)) (at + 1) xs (omega arith) (omega arith) in
    let same = starts_rise (grown open_line b) (at + 1) xs (omega arith) in
    cond_both (ends b (begins_with_lf xs)) _ _ (IsNonDecreasingBy (λ mark. mark.start)) (λ _. rises-cons open_line _ later rest) (λ _. same)

-- ---- the line that is open at a byte

pub open_after-start : (open_line : Mark) (at : ℕ) (xs : List ℕ) (lf : Bool) → open_line.start ≤ at → (open_after open_line at xs lf).start ≤ at + length xs
open_after-start open_line at [] lf h = omega arith
open_after-start open_line at (b ∷ xs) lf h =
    let fresh_one = open_after-start (fresh (at + 1)) (at + 1) xs lf (omega arith) in
    let same_one = open_after-start (grown open_line b) (at + 1) xs lf (omega arith) in
    cond_both (ends b (lf_after xs lf)) _ _ (λ (mark : Mark). mark.start ≤ at + suc (length xs)) (λ _. omega arith) (λ _. omega arith)

ascii-none : (n : ℕ) (bytes : List ℕ) → length bytes ≤ n → true ≡ all_ascii (drop n bytes)
ascii-none n bytes h = rw (drop_all n bytes h) refl

ascii-more : (before : List ℕ) (open_line : Mark) (b : ℕ) → open_line.start ≤ length before → open_line.ascii ≡ all_ascii (drop open_line.start before) →
    (grown open_line b).ascii ≡ all_ascii (drop open_line.start (before ++ b ∷ []))
ascii-more before open_line b h a =
    rw (drop-append-le open_line.start before (b ∷ []) h, list_all-append (λ x. ltb x 128) (drop open_line.start before) (b ∷ []), ← a) (sym (rw (and-true (ltb b 128)) refl))

-- that line is marked as ASCII exactly if its bytes so far are ASCII: `before` are the bytes before these
pub open_after-ascii : (before : List ℕ) (open_line : Mark) (at : ℕ) (xs : List ℕ) (lf : Bool) → at ≡ length before → open_line.start ≤ at →
    open_line.ascii ≡ all_ascii (drop open_line.start before) →
    (open_after open_line at xs lf).ascii ≡ all_ascii (drop (open_after open_line at xs lf).start (before ++ xs))
open_after-ascii before open_line at [] lf e h a = rw (append-nil before) a
open_after-ascii before open_line at (b ∷ xs) lf e h a =
    let longer = before ++ b ∷ [] in
    let far : at + 1 ≡ length longer = omega (arith, length-append before (b ∷ [])) in
    let fresh_one = open_after-ascii longer (fresh (at + 1)) (at + 1) xs lf far (omega arith) (ascii-none (at + 1) longer (omega arith)) in
    let same_one = open_after-ascii longer (grown open_line b) (at + 1) xs lf far (omega arith) (ascii-more before open_line b (omega arith) a) in
    let same : longer ++ xs ≡ before ++ b ∷ xs = append_assoc before (b ∷ []) xs in
    cond_both (ends b (lf_after xs lf)) _ _ (λ (mark : Mark). mark.ascii ≡ all_ascii (drop mark.start (before ++ b ∷ xs))) (λ _. rw same at fresh_one) (λ _. rw same at same_one)
