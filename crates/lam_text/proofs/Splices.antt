-- The index of a text around one of its bytes, and around a splice.
use Rattle.std.proofs.Common.{◌≡◌, ℕ, zero, suc, add-zero, ◌||◌, ◌+◌, ◌-◌, ◌<◌, ◌≤◌, Bool, true, false, ◌&&◌, ltb, List, [], ◌∷◌, ◌++◌, length, get_or, take, drop, map, refl, ap, sym, ◌∙◌, inl, inr, arith}
use Rattle.std.proofs.lemmas.List.{length-append, append_assoc, take_at, drop_at, length-take-le, take-append-drop, take-take, drop-drop, drop-take, get_or-drop, get_or-take, length-drop, take_all, take_rest, drop_more, take-append-le}
use Rattle.std.proofs.lemmas.List.Folds.{list_all-append}
use Rattle.std.proofs.lemmas.Bool.{and_parts, and_from, ltb-true, lt-ltb, le-leb, leb-true, cases_Bool, false_from_ne_true}
use Rattle.std.proofs.lemmas.List.Elements.{All-drop}
use Rattle.std.proofs.lemmas.List.Sums.{prefix_len_is, prefix_len-le-length}
use Rattle.std.specs.List.Sorted.{IsNonDecreasingBy, IsPartitionPoint}
use Rattle.std.specs.Bool.{MatchBool}
use Rattle.std.specs.Str.{IsAscii, IsNotAscii}
use Rattle.std.specs.List.{prefix_len, All}
use Rattle.lam_text.specs.declared.index.Mark.{Mark}
use Rattle.lam_text.specs.declared.splice.Seam.{Seam}
use Rattle.lam_text.specs.declared.splice.Splice.{Splice}
use Rattle.lam_text.specs.Lines.{Line, Ended, LineEnd, CrLf, Lf, Cr, Lines, Cut, line_bytes, end_bytes, IsCutOf, begins_with_lf, lines_of}
use Rattle.lam_text.specs.inner.Index.{all_ascii, marks_in, marks_on, index_of}
use Rattle.lam_text.proofs.Cuts.{IsCutOf-lines_of}
use Rattle.lam_text.specs.inner.Search.{IsIndex, fresh, marks_from, starts_by, open_at}
use Rattle.lam_text.specs.inner.Splice.{first_ascii_on, first_start, moved, IsSplice, IsIndexBefore}
use Rattle.lam_text.proofs.Marks.{ended_by, later_on}
use Rattle.lam_text.proofs.Scan.{and-true, reopened, marks_from-lines_of, marks_from-append, index_of-marks_from}
use Rattle.lam_text.proofs.Mending.{starts_rise, prefix_len-ended_in, prefix_len-marks_from, open_after-start, open_after-ascii, starts_to, later_starts_from}

pub index_of-cut : (text : List ℕ) (at : ℕ) → at ≤ length text → index_of text ≡ ended_by text at ++ marks_from (open_at text at) at (drop at text)
index_of-cut text at h =
    let whole = marks_from-append (fresh 0) 0 (take at text) (drop at text) in
    let far : 0 + length (take at text) ≡ at = omega (arith, length-take-le at text h) in
    index_of-marks_from text ∙ rw (take-append-drop at text, far) at whole

pub prefix_len-index_of : (text : List ℕ) (at : ℕ) → at ≤ length text → prefix_len (starts_by at) (index_of text) ≡ length (ended_by text at) + 1
prefix_len-index_of text at h =
    let far : 0 + length (take at text) ≡ at = omega (arith, length-take-le at text h) in
    let low : (open_at text at).start ≤ at = omega (arith, open_after-start (fresh 0) 0 (take at text) (begins_with_lf (drop at text)) (omega arith)) in
    rw (
      index_of-cut text at h,
      prefix_len-ended_in at (fresh 0) 0 (take at text) (begins_with_lf (drop at text)) (marks_from (open_at text at) at (drop at text)) (omega arith) (omega arith),
      prefix_len-marks_from at (open_at text at) at (drop at text) low (omega arith),
    ) refl

pub marks_from-parts : (open_line : Mark) (at : ℕ) (bytes : List ℕ) →
    marks_from open_line at bytes ≡ record { start = open_line.start; ascii = open_line.ascii && first_ascii_on (lines_of bytes) } ∷ later_on at (lines_of bytes)
marks_from-parts open_line at bytes = marks_from-lines_of open_line at bytes ∙ reopened-parts (lines_of bytes) where
  reopened-parts : (lines : Lines) → reopened open_line (marks_on at lines) ≡ record { start = open_line.start; ascii = open_line.ascii && first_ascii_on lines } ∷ later_on at lines
  reopened-parts (Cut [] last) = refl
  reopened-parts (Cut (line ∷ lines) last) = refl

marks_in-moved : (from to k : ℕ) (lines : List Line) (last : List ℕ) → marks_in (to + k) lines last ≡ map (moved from to) (marks_in (from + k) lines last)
marks_in-moved from to k [] last = let e : from + k - from + to ≡ to + k = omega arith in rw e refl
marks_in-moved from to k (line ∷ lines) last =
    let e : from + k - from + to ≡ to + k = omega arith in
    let n = length (line_bytes line) in
    let e1 : to + k + n ≡ to + (k + n) = omega arith in
    let e2 : from + k + n ≡ from + (k + n) = omega arith in
    rw (e, e1, e2, marks_in-moved from to (k + n) lines last) refl

pub later_on-moved : (from to : ℕ) (lines : Lines) → later_on to lines ≡ map (moved from to) (later_on from lines)
later_on-moved from to (Cut [] last) = refl
later_on-moved from to (Cut (line ∷ lines) last) = marks_in-moved from to (length (line_bytes line)) lines last

-- ---- what the marks around the byte `at` are

module _ (text : List ℕ) (at number : ℕ) (h : at ≤ length text) (is : number + 1 ≡ prefix_len (starts_by at) (index_of text)) where
  number-is : number ≡ length (ended_by text at)
  number-is = omega (arith, prefix_len-index_of text at h)

  pub take-index_of : take number (index_of text) ≡ ended_by text at
  take-index_of = rw (index_of-cut text at h) (take_at (ended_by text at) _ number (sym number-is))

  pub drop-index_of : drop number (index_of text) ≡ marks_from (open_at text at) at (drop at text)
  drop-index_of = rw (index_of-cut text at h) (drop_at (ended_by text at) _ number (sym number-is))

  pub drop_next-index_of : drop (number + 1) (index_of text) ≡ later_on at (lines_of (drop at text))
  drop_next-index_of =
      sym (drop-drop 1 number (index_of text)) ∙ ap (drop 1) (drop-index_of ∙ marks_from-parts (open_at text at) at (drop at text))

  pub get_or-index_of : (d : Mark) → get_or (index_of text) number d
      ≡ record { start = (open_at text at).start; ascii = (open_at text at).ascii && first_ascii_on (lines_of (drop at text)) }
  get_or-index_of d =
      let here : get_or (drop number (index_of text)) 0 d ≡ get_or (index_of text) number d = rw (get_or-drop number (index_of text) 0 d, add-zero number) refl in
      sym here ∙ ap (λ marks. get_or marks 0 d) (drop-index_of ∙ marks_from-parts (open_at text at) at (drop at text))

-- ---- the test of single bytes

pub IsAscii-from_all_ascii : (bytes : List ℕ) → all_ascii bytes ≡ true → IsAscii bytes
IsAscii-from_all_ascii [] e i = omega arith
IsAscii-from_all_ascii (b ∷ bytes) e zero = ltb-true b 128 (and_parts (ltb b 128) (all_ascii bytes) e).0
IsAscii-from_all_ascii (b ∷ bytes) e (suc i) = IsAscii-from_all_ascii bytes (and_parts (ltb b 128) (all_ascii bytes) e).1 i

all_ascii-from_IsAscii : (bytes : List ℕ) → IsAscii bytes → all_ascii bytes ≡ true
all_ascii-from_IsAscii [] h = refl
all_ascii-from_IsAscii (b ∷ bytes) h = and_from (ltb b 128) (all_ascii bytes) (lt-ltb b 128 (h 0)) (all_ascii-from_IsAscii bytes (λ i. h (suc i)))

-- ---- whether the bytes of a line are ASCII, before and after the byte `at`

pub open_at-start : (text : List ℕ) (at : ℕ) → at ≤ length text → (open_at text at).start ≤ at
open_at-start text at h = omega (arith, length-take-le at text h, open_after-start (fresh 0) 0 (take at text) (begins_with_lf (drop at text)) (omega arith))

pub open_at-ascii : (text : List ℕ) (at : ℕ) → at ≤ length text →
    (open_at text at).ascii ≡ all_ascii (take (at - (open_at text at).start) (drop (open_at text at).start text))
open_at-ascii text at h =
    let start = (open_at text at).start in
    let known = open_after-ascii [] (fresh 0) 0 (take at text) (begins_with_lf (drop at text)) refl (omega arith) refl in
    let far : start + (at - start) ≡ at = omega (arith, open_at-start text at h) in
    let cut : drop start (take at text) ≡ take (at - start) (drop start text) = rw far at (drop-take start (at - start) text) in
    known ∙ ap all_ascii cut

all_ascii-line : (bytes : List ℕ) (ending : LineEnd) → all_ascii (bytes ++ end_bytes ending) ≡ all_ascii bytes
all_ascii-line bytes ending = list_all-append (λ b. ltb b 128) bytes (end_bytes ending) ∙ go ending where
  go : (ending : LineEnd) → (all_ascii bytes && all_ascii (end_bytes ending)) ≡ all_ascii bytes
  go CrLf = and-true (all_ascii bytes)
  go Lf = and-true (all_ascii bytes)
  go Cr = and-true (all_ascii bytes)

first_start-marks_in : (start : ℕ) (lines : List Line) (last : List ℕ) (end : ℕ) → first_start (marks_in start lines last) end ≡ start
first_start-marks_in start [] last end = refl
first_start-marks_in start (line ∷ lines) last end = refl

first_ascii_on-stop : (at : ℕ) (bytes : List ℕ) (lines : Lines) → IsCutOf bytes lines →
    first_ascii_on lines ≡ all_ascii (take (first_start (later_on at lines) (at + length bytes) - at) bytes)
first_ascii_on-stop at bytes (Cut [] last) cut =
    let e : at + length bytes - at ≡ length bytes = omega arith in
    rw (e, take_all (length bytes) bytes (omega arith)) (ap all_ascii (sym cut.0))
first_ascii_on-stop at bytes (Cut (Ended front ending ∷ lines) last) cut =
    let line = front ++ end_bytes ending in
    let split : bytes ≡ line ++ cut.0 = cut.1 ∙ sym (append_assoc front (end_bytes ending) cut.0) in
    let e : at + length line - at ≡ length line = omega arith in
    rw (first_start-marks_in (at + length line) lines last (at + length bytes), e, split, take_at line cut.0 (length line) refl) (sym (all_ascii-line front ending))

pub first_ascii-stop : (text : List ℕ) (at : ℕ) → at ≤ length text →
    first_ascii_on (lines_of (drop at text)) ≡ all_ascii (take (first_start (later_on at (lines_of (drop at text))) (length text) - at) (drop at text))
first_ascii-stop text at h =
    let far : at + length (drop at text) ≡ length text = omega (arith, length-drop at text) in
    rw far at (first_ascii_on-stop at (drop at text) (lines_of (drop at text)) (IsCutOf-lines_of (drop at text)))

first_start-bounds_on : (at : ℕ) (bytes : List ℕ) (lines : Lines) → IsCutOf bytes lines →
    (at ≤ first_start (later_on at lines) (at + length bytes)) × (first_start (later_on at lines) (at + length bytes) ≤ at + length bytes)
first_start-bounds_on at bytes (Cut [] last) cut = (omega arith, omega arith)
first_start-bounds_on at bytes (Cut (Ended front ending ∷ lines) last) cut =
    let line = front ++ end_bytes ending in
    let split : bytes ≡ line ++ cut.0 = cut.1 ∙ sym (append_assoc front (end_bytes ending) cut.0) in
    let long : length bytes ≡ length line + length cut.0 = ap length split ∙ length-append line cut.0 in
    rw (first_start-marks_in (at + length line) lines last (at + length bytes)) (omega arith, omega arith)

-- the first line that starts after `at`, or else the end of the text, is not before `at` and within the text
pub first_start-bounds : (text : List ℕ) (at : ℕ) → at ≤ length text →
    (at ≤ first_start (later_on at (lines_of (drop at text))) (length text)) × (first_start (later_on at (lines_of (drop at text))) (length text) ≤ length text)
first_start-bounds text at h =
    let far : at + length (drop at text) ≡ length text = omega (arith, length-drop at text) in
    rw far at (first_start-bounds_on at (drop at text) (lines_of (drop at text)) (IsCutOf-lines_of (drop at text)))

-- ---- a splice

begins_with_lf-drop : (xs ys : List ℕ) (n : ℕ) → n < length xs → n < length ys → take (suc n) xs ≡ take (suc n) ys → begins_with_lf (drop n xs) ≡ begins_with_lf (drop n ys)
begins_with_lf-drop xs ys n h l e =
    let same : get_or xs n 0 ≡ get_or ys n 0 = sym (get_or-take (suc n) xs n 0 (omega arith)) ∙ (ap (λ zs. get_or zs n 0) e ∙ get_or-take (suc n) ys n 0 (omega arith)) in
    rw (drop_more xs n 0 h, drop_more ys n 0 l, same) refl

-- the lines that end before the byte before a splice stay, and so does the line that is open there
pub kept_before : (old new : List ℕ) (start end inserted : ℕ) → IsSplice old new start end inserted →
    (ended_by new (start - 1) ≡ ended_by old (start - 1)) × (open_at new (start - 1) ≡ open_at old (start - 1))
kept_before old new zero end inserted splice = (refl, refl)
kept_before old new (suc n) end inserted splice =
    let e : suc n - 1 ≡ n = omega arith in
    let lf = begins_with_lf-drop new old n (omega arith) (omega arith) splice.before in
    let front : take n new ≡ take n old = sym (take-take n (suc n) new (omega arith)) ∙ (ap (take n) splice.before ∙ take-take n (suc n) old (omega arith)) in
    rw (e, lf, front) (refl, refl)

-- the index after a splice: what was found up to its end, the line that holds its end, and what is behind
pub mended-index_of : (old new : List ℕ) (start end inserted last : ℕ) (found : List Mark) (open_line : Mark) → IsSplice old new start end inserted →
    last + 1 ≡ prefix_len (starts_by end) (index_of old) →
    found ++ marks_from open_line (start + inserted) (drop (start + inserted) new) ≡ ended_by old (start - 1) ++ marks_from (open_at old (start - 1)) (start - 1) (drop (start - 1) new) →
    found ++ (record { start = open_line.start; ascii = open_line.ascii && first_ascii_on (lines_of (drop end old)) } ∷ map (moved end (start + inserted)) (drop (last + 1) (index_of old)))
    ≡ index_of new
mended-index_of old new start end inserted last found open_line splice is search_found =
    let kept = kept_before old new start end inserted splice in
    let whole = index_of-cut new (start - 1) (omega arith) in
    let behind = drop_next-index_of old end last splice.within_old is in
    let parts = marks_from-parts open_line (start + inserted) (drop end old) in
    rw (behind, ← later_on-moved end (start + inserted) (lines_of (drop end old)), ← parts, ← splice.after)
    (search_found ∙ sym (rw (kept.0, kept.1) at whole))

-- ---- tests

-- what the standard library says of an ASCII test, as our test
pub all_ascii-from_cases : (r : Bool) (bytes : List ℕ) → MatchBool r (IsAscii bytes) (IsNotAscii bytes) → r ≡ all_ascii bytes
all_ascii-from_cases true bytes h = sym (all_ascii-from_IsAscii bytes h)
all_ascii-from_cases false bytes h = sym (false_from_ne_true (all_ascii bytes) (λ e. absurd (omega (arith, IsAscii-from_all_ascii bytes e h.0, h.1))))

-- ---- an index that is searched

pub starts_rise-index : (marks : List Mark) → IsIndex marks → IsNonDecreasingBy (λ mark. mark.start) marks
starts_rise-index marks index = rw (index.1, index_of-marks_from index.0) (starts_rise (fresh 0) 0 index.0 (omega arith))

pub some_starts_by : (offset : ℕ) (marks : List Mark) → IsIndex marks → 1 ≤ prefix_len (starts_by offset) marks
some_starts_by offset marks index =
    rw (index.1, index_of-marks_from index.0, marks_from-parts (fresh 0) 0 index.0, le-leb 0 offset (omega arith)) (omega arith)

pub prefix_len-point : (offset : ℕ) (marks : List Mark) (i : ℕ) → i ≤ length marks →
    IsPartitionPoint (λ mark. starts_by offset mark ≡ true) (λ mark. starts_by offset mark ≡ false) marks i → prefix_len (starts_by offset) marks ≡ i
prefix_len-point offset marks i h point =
    let none : Mark = fresh 0 in
    prefix_len_is (starts_by offset) marks i none h (λ k l. point.0 k none (omega arith) l) (λ l. point.1 i none (omega arith) l)

-- the lines behind a splice start in the text before, and can be moved
pub moved-bounds : (old new : List ℕ) (start end inserted last top : ℕ) → IsSplice old new start end inserted →
    last + 1 ≡ prefix_len (starts_by end) (index_of old) → length new < top →
    All (λ (mark : Mark). (end ≤ mark.start) × (mark.start - end + (start + inserted) < top)) (drop (last + 1) (index_of old))
moved-bounds old new start end inserted last top splice is fits k d h =
    let later = drop_next-index_of old end last splice.within_old is in
    let bytes = drop end old in
    let found = marks_from (fresh end) end bytes in
    let parts : drop 1 found ≡ later_on end (lines_of bytes) = ap (drop 1) (marks_from-parts (fresh end) end bytes) in
    let same : drop (last + 1) (index_of old) ≡ drop 1 found = later ∙ sym parts in
    let low = later_starts_from end (fresh end) end bytes (omega arith) in
    let high = All-drop (λ (mark : Mark). mark.start ≤ length old) 1 found (starts_to (length old) (fresh end) end bytes (splice.within_old) (omega (arith, length-drop end old))) in
    let within : k < length (drop 1 found) = rw same at h in
    let lows : end ≤ (get_or (drop 1 found) k d).start = low k d within in
    let highs : (get_or (drop 1 found) k d).start ≤ length old = high k d within in
    let sizes : length new - (start + inserted) ≡ length old - end = sym (length-drop (start + inserted) new) ∙ (ap length splice.after ∙ length-drop end old) in
    rw same (lows, omega arith)

-- ---- the marks that the code reads

module _ (marks : List Mark) (text : List ℕ) (at number : ℕ) (index : marks ≡ index_of text) (h : at ≤ length text) (is : number + 1 ≡ prefix_len (starts_by at) marks) where
  pub read-mark : (d : Mark) → get_or marks number d
      ≡ record { start = (open_at text at).start; ascii = (open_at text at).ascii && first_ascii_on (lines_of (drop at text)) }
  read-mark d = rw index (get_or-index_of text at number h (rw index at is) d)

  pub read-start : (d : Mark) → (get_or marks number d).start ≤ at
  read-start d = rw (read-mark d) (open_at-start text at h)

  pub open_at-ascii_mark : (d : Mark) → (get_or marks number d).ascii ≡ true → get_or marks number d ≡ open_at text at
  open_at-ascii_mark d ascii =
      let line = open_at text at in
      let rest = first_ascii_on (lines_of (drop at text)) in
      let both : (line.ascii && rest) ≡ true = rw (read-mark d) at ascii in
      let same : (line.ascii && rest) ≡ line.ascii = both ∙ sym (and_parts line.ascii rest both).0 in
      rw (read-mark d, same) refl

  pub open_at-read : (d : Mark) (r : Bool) → r ≡ all_ascii (take (at - (get_or marks number d).start) (drop (get_or marks number d).start text)) →
      (let found : Mark = record { start = (get_or marks number d).start; ascii = r } in found) ≡ open_at text at
  open_at-read d r e =
      let known = rw (read-mark d) at e in
      rw (read-mark d, known, ← open_at-ascii text at h) refl

  pub first_ascii-mark : (d : Mark) → (get_or marks number d).ascii ≡ true → first_ascii_on (lines_of (drop at text)) ≡ true
  first_ascii-mark d ascii = (and_parts (open_at text at).ascii _ (rw (read-mark d) at ascii)).1

  pub later-read : take (length marks - (number + 1)) (drop (number + 1) marks) ≡ later_on at (lines_of (drop at text))
  later-read = take_rest marks (number + 1) ∙ rw index (drop_next-index_of text at number h (rw index at is))

-- ---- the seam of a splice

prefix_len-more : (low high : ℕ) (marks : List Mark) → low ≤ high → prefix_len (starts_by low) marks ≤ prefix_len (starts_by high) marks
prefix_len-more low high [] h = omega arith
prefix_len-more low high (mark ∷ marks) h = elim (cases_Bool (starts_by low mark)) [
  | inl by_low ↦
      let by_high = le-leb mark.start high (omega (arith, leb-true mark.start low by_low)) in
      rw (by_low, by_high) (omega (arith, prefix_len-more low high marks h))
  | inr not_low ↦ rw not_low (omega arith)
]

-- the numbers of a seam are lines of the index
pub index_before-bounds : (marks : List Mark) (new : List ℕ) (splice : Splice) (seam : Seam) → IsIndexBefore marks new splice seam →
    (seam.first ≤ seam.last) × (seam.last + 1 ≤ length marks)
index_before-bounds marks new splice seam before =
    let is_seam = before.is_seam in
    let more = prefix_len-more (splice.start - 1) splice.end (index_of before.old) (omega (arith, before.is_splice.ordered)) in
    let within = prefix_len-le-length (starts_by splice.end) (index_of before.old) in
    rw before.index (omega (arith, more, is_seam.first, is_seam.last), omega (arith, within, is_seam.last))

-- the steps by which an index is mended, put together
pub mended-steps : (marks moved_marks none found ended whole : List Mark) (new : List ℕ) (splice : Splice) (seam : Seam) (open_line closed_line : Mark) →
    IsIndexBefore marks new splice seam → none ≡ [] →
    found ++ marks_from open_line (splice.start + splice.inserted) (drop (splice.start + splice.inserted) new) ≡ none ++ marks_from seam.open seam.from (drop seam.from new) →
    closed_line ≡ record { start = open_line.start; ascii = open_line.ascii && seam.ascii } →
    ended ≡ found ++ closed_line ∷ [] →
    moved_marks ≡ take (seam.last + 1) marks ++ map (moved splice.end (splice.start + splice.inserted)) (drop (seam.last + 1) marks) →
    whole ≡ take seam.first moved_marks ++ (ended ++ drop (seam.last + 1) moved_marks) →
    whole ≡ index_of new
mended-steps marks moved_marks none found ended whole new splice seam open_line closed_line before none_is search_is closed_is ended_is moved_is whole_is =
    let old = before.old in
    let is_seam = before.is_seam in
    let bounds = index_before-bounds marks new splice seam before in
    let kept = take (seam.last + 1) marks in
    let tail = map (moved splice.end (splice.start + splice.inserted)) (drop (seam.last + 1) marks) in
    let kept_len : length kept ≡ seam.last + 1 = length-take-le (seam.last + 1) marks bounds.1 in
    let within : splice.start - 1 ≤ length old = omega (arith, before.is_splice.ordered, before.is_splice.within_old) in
    let first_ones : take seam.first marks ≡ ended_by old (splice.start - 1) = rw before.index (take-index_of old (splice.start - 1) seam.first within is_seam.first) in
    let kept_ones = take-append-le seam.first kept tail (omega (arith, bounds.0, kept_len)) ∙ take-take seam.first (seam.last + 1) marks (omega (arith, bounds.0)) in
    let front : take seam.first moved_marks ≡ ended_by old (splice.start - 1) = rw moved_is (kept_ones ∙ first_ones) in
    let behind : drop (seam.last + 1) moved_marks ≡ tail = rw moved_is (drop_at kept tail (seam.last + 1) kept_len) in
    let front_ones = ended_by old (splice.start - 1) in
    let searched = rw (none_is, is_seam.from, is_seam.open_line) at search_is in
    let search_all = append_assoc front_ones found _ ∙ ap (λ later. front_ones ++ later) searched in
    let all = mended-index_of old new splice.start splice.end splice.inserted seam.last (front_ones ++ found) open_line before.is_splice is_seam.last search_all in
    let parts = append_assoc front_ones found _ in
    whole_is ∙ (rw (front, behind, ended_is, closed_is, is_seam.ascii, before.index, append_assoc found _ _) (sym parts) ∙ all)
