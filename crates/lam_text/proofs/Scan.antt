-- A search for line ends, byte by byte, and that what it finds is the index of the text.
use Rattle.std.proofs.Common.{◌≡◌, ℕ, zero, suc, ◌<◌, get_or, ◌+◌, ◌-◌, ◌≤◌, Bool, true, false, not, ◌&&◌, cond, eqb, ltb, add-zero, List, [], ◌∷◌, ◌++◌, length, take, drop, refl, ap, sym, ◌∙◌, inl, inr, arith}
use Rattle.std.proofs.lemmas.Bool.{cases_Bool, eqb-true, and_parts, and_from, or_cases}
use Rattle.std.proofs.lemmas.List.{append_assoc, take_all, take-take, take_more, drop-drop, drop_more, take-append-drop, get_or-drop, get_or-take, length-drop, length-take-le}
use Rattle.std.proofs.lemmas.List.Folds.{list_all-append}
use Rattle.memchr.specs.Find.{NoneBefore, Nowhere, Passes, is_byte2}
use Rattle.std.specs.List.{list_all}
use Rattle.lam_text.specs.declared.index.Mark.{Mark}
use Rattle.lam_text.specs.Lines.{Ended, LineEnd, Lf, Cr, Lines, Cut, end_bytes, begins_with_lf, IsPlain, is_plain, with_line, with_byte, with_cr, lines_of}
use Rattle.lam_text.specs.inner.Index.{all_ascii, marks_on, index_of}
use Rattle.lam_text.specs.inner.Search.{fresh, grown, lengthened, ends, marks_from, lf_after, open_after}
use Rattle.lam_text.proofs.Marks.{ended_in}
use Rattle.lam_text.proofs.Cuts.{plain_tests, lines_of-lf, lines_of-cr_lf, lines_of-cr, lines_of-plain, lines_of-begins_with_lf}

-- the marks of some lines, where the first of them was opened before
abbrev pub reopened : Mark → List Mark → List Mark
reopened open_line [] = []
reopened open_line (mark ∷ marks) = record { start = open_line.start; ascii = open_line.ascii && mark.ascii } ∷ marks

pub and-true : (b : Bool) → (b && true) ≡ b
and-true true = refl
and-true false = refl

and_assoc : (a b c : Bool) → ((a && b) && c) ≡ (a && (b && c))
and_assoc true b c = refl
and_assoc false b c = refl

-- a line that is opened at its start is found as it is
reopened-fresh : (at : ℕ) (lines : Lines) → reopened (fresh at) (marks_on at lines) ≡ marks_on at lines
reopened-fresh at (Cut [] last) = refl
reopened-fresh at (Cut (line ∷ lines) last) = refl

-- a line end in front
opened_at_line : (open_line : Mark) (at : ℕ) (ending : LineEnd) (lines : Lines) →
    open_line ∷ marks_on (at + length (end_bytes ending)) lines ≡ reopened open_line (marks_on at (with_line (Ended [] ending) lines))
opened_at_line open_line at ending (Cut lines last) = rw (and-true open_line.ascii) refl

-- a plain byte in front
opened_at_byte : (open_line : Mark) (at b : ℕ) (lines : Lines) →
    reopened (grown open_line b) (marks_on (at + 1) lines) ≡ reopened open_line (marks_on at (with_byte b lines))
opened_at_byte open_line at b (Cut [] last) = rw (and_assoc open_line.ascii (ltb b 128) (all_ascii last)) refl
opened_at_byte open_line at b (Cut (Ended bytes ending ∷ lines) last) =
    let e : at + 1 + length (bytes ++ end_bytes ending) ≡ at + suc (length (bytes ++ end_bytes ending)) = omega arith in
    rw (and_assoc open_line.ascii (ltb b 128) (all_ascii bytes), e) refl

-- a CR in front of an LF
opened_at_cr : (open_line : Mark) (at b : ℕ) (lines : Lines) → ltb b 128 ≡ true →
    reopened (grown open_line b) (marks_on (at + 1) (with_line (Ended [] Lf) lines)) ≡ reopened open_line (marks_on at (with_cr (with_line (Ended [] Lf) lines)))
opened_at_cr open_line at b (Cut lines last) ascii =
    let e : at + 1 + 1 ≡ at + 2 = omega arith in
    rw (ascii, e) (simp and-true)

cr_is_ascii : (b : ℕ) → eqb b 13 ≡ true → ltb b 128 ≡ true
cr_is_ascii b cr = rw (eqb-true b 13 cr) refl

-- the search finds the marks of the lines
pub marks_from-lines_of : (open_line : Mark) (at : ℕ) (bytes : List ℕ) → marks_from open_line at bytes ≡ reopened open_line (marks_on at (lines_of bytes))
unfolding lines_of
marks_from-lines_of open_line at [] = rw (and-true open_line.ascii) refl
marks_from-lines_of open_line at (b ∷ bytes) = elim (cases_Bool (eqb b 10)) [
  | inl lf ↦ rw (lines_of-lf b bytes lf, lf, marks_from-lines_of (fresh (at + 1)) (at + 1) bytes, reopened-fresh (at + 1) (lines_of bytes)) (opened_at_line open_line at Lf (lines_of bytes))
  | inr not_lf ↦ elim (cases_Bool (eqb b 13)) [
    | inl cr ↦ elim (cases_Bool (begins_with_lf bytes)) [
      | inl lf ↦ rw (lines_of-cr_lf b bytes not_lf cr lf, not_lf, cr, lf, marks_from-lines_of (grown open_line b) (at + 1) bytes, lines_of-begins_with_lf bytes lf) (opened_at_cr open_line at b (lines_of (drop 1 bytes)) (cr_is_ascii b cr))
      | inr no_lf ↦ rw (lines_of-cr b bytes not_lf cr no_lf, not_lf, cr, no_lf, marks_from-lines_of (fresh (at + 1)) (at + 1) bytes, reopened-fresh (at + 1) (lines_of bytes)) (opened_at_line open_line at Cr (lines_of bytes))
    ]
    | inr not_cr ↦ rw (lines_of-plain b bytes not_lf not_cr, not_lf, not_cr, marks_from-lines_of (grown open_line b) (at + 1) bytes) (opened_at_byte open_line at b (lines_of bytes))
  ]
]

pub index_of-marks_from : (text : List ℕ) → index_of text ≡ marks_from (fresh 0) 0 text
unfolding index_of
index_of-marks_from text = sym (marks_from-lines_of (fresh 0) 0 text ∙ reopened-fresh 0 (lines_of text))

-- ---- a search that is taken up again at byte `at + length xs`

begins_with_lf-append : (xs ys : List ℕ) → begins_with_lf (xs ++ ys) ≡ lf_after xs (begins_with_lf ys)
begins_with_lf-append [] ys = refl
begins_with_lf-append (x ∷ xs) ys = refl

pub marks_from-append : (open_line : Mark) (at : ℕ) (xs ys : List ℕ) →
    marks_from open_line at (xs ++ ys)
    ≡ ended_in open_line at xs (begins_with_lf ys) ++ marks_from (open_after open_line at xs (begins_with_lf ys)) (at + length xs) ys
marks_from-append open_line at [] ys = rw (add-zero at) refl
marks_from-append open_line at (b ∷ xs) ys =
    let lf = begins_with_lf ys in
    let far : at + suc (length xs) ≡ at + 1 + length xs = omega arith in
    rw (begins_with_lf-append xs ys, far)
    (elim (cases_Bool (ends b (lf_after xs lf))) [
      | inl ended ↦ rw ended (rw (marks_from-append (fresh (at + 1)) (at + 1) xs ys) refl)
      | inr open_still ↦ rw open_still (rw (marks_from-append (grown open_line b) (at + 1) xs ys) refl)
    ])

-- ---- a step of the search

pub marks_from-plain : (open_line : Mark) (at : ℕ) (front more : List ℕ) → IsPlain front →
    marks_from open_line at (front ++ more) ≡ marks_from (lengthened open_line front) (at + length front) more
marks_from-plain open_line at [] more plain = rw (and-true open_line.ascii, add-zero at) refl
marks_from-plain open_line at (b ∷ front) more plain =
    let parts = and_parts (is_plain b) (list_all is_plain front) plain in
    let tests = plain_tests b parts.0 in
    let far : at + suc (length front) ≡ at + 1 + length front = omega arith in
    rw (tests.0, tests.1, far, marks_from-plain (grown open_line b) (at + 1) front more parts.1, and_assoc open_line.ascii (ltb b 128) (all_ascii front)) refl

IsPlain-take : (k : ℕ) (bytes : List ℕ) → ((j : ℕ) → j < k → j < length bytes → is_plain (get_or bytes j 0) ≡ true) → IsPlain (take k bytes)
IsPlain-take zero bytes h = refl
IsPlain-take (suc k) [] h = refl
IsPlain-take (suc k) (b ∷ bytes) h =
    and_from (is_plain b) (list_all is_plain (take k bytes)) (h 0 (omega arith) (omega arith)) (IsPlain-take k bytes (λ j l m. h (suc j) (omega arith) (omega arith)))

is_plain-not : (b : ℕ) → ¬ (is_byte2 13 10 b ≡ true) → is_plain b ≡ true
is_plain-not b h = go (is_byte2 13 10 b) h where
  go : (t : Bool) → ¬ (t ≡ true) → not t ≡ true
  go true h = absurd (h refl)
  go false h = refl

-- the bytes before the first CR or LF are plain
pub IsPlain-before : (hay : List ℕ) (k : ℕ) → NoneBefore (Passes (is_byte2 13 10) hay) 0 (length hay) k → IsPlain (take k hay)
IsPlain-before hay k first = IsPlain-take k hay (λ j l m. is_plain-not (get_or hay j 0) (first.before j (omega arith) l))

-- without a CR or an LF, all bytes are plain
pub IsPlain-nowhere : (hay : List ℕ) → Nowhere (Passes (is_byte2 13 10) hay) 0 (length hay) → IsPlain hay
IsPlain-nowhere hay none =
    let all = IsPlain-take (length hay) hay (λ j l m. is_plain-not (get_or hay j 0) (none j (omega arith) l)) in
    rw (take_all (length hay) hay (omega arith)) at all

-- nothing but plain bytes up to `to`
pub search_end : (open_line : Mark) (text : List ℕ) (at to : ℕ) → at ≤ to → to ≤ length text →
    Nowhere (Passes (is_byte2 13 10) (take (to - at) (drop at text))) 0 (length (take (to - at) (drop at text))) →
    marks_from open_line at (drop at text) ≡ marks_from (lengthened open_line (take (to - at) (drop at text))) to (drop to text)
search_end open_line text at to ordered within none =
    let rest = drop at text in
    let front = take (to - at) rest in
    let long : to - at ≤ length rest = omega (arith, length-drop at text) in
    let far : at + length front ≡ to = omega (arith, length-take-le (to - at) rest long) in
    let away : at + (to - at) ≡ to = omega arith in
    let behind : drop (to - at) rest ≡ drop to text = rw away at (drop-drop (to - at) at text) in
    ap (marks_from open_line at) (sym (take-append-drop (to - at) rest)) ∙ (marks_from-plain open_line at front (drop (to - at) rest) (IsPlain-nowhere front none) ∙ rw (far, behind) refl)

-- a CR or an LF is an ASCII byte
line_end-ascii : (b : ℕ) → is_byte2 13 10 b ≡ true → ltb b 128 ≡ true
line_end-ascii b h = elim (or_cases (eqb b 13) (eqb b 10) h) [ inl cr ↦ cr_is_ascii b cr | inr lf ↦ rw (eqb-true b 10 lf) refl ]

all_ascii-push : (bytes : List ℕ) (b : ℕ) → ltb b 128 ≡ true → all_ascii (bytes ++ b ∷ []) ≡ all_ascii bytes
all_ascii-push bytes b ascii = list_all-append (λ x. ltb x 128) bytes (b ∷ []) ∙ rw (ascii, and-true (all_ascii bytes)) refl

-- plain bytes and then a CR or an LF, `k` bytes behind `at`
pub search_step : (open_line : Mark) (text : List ℕ) (at to k : ℕ) → at ≤ to → to ≤ length text →
    NoneBefore (Passes (is_byte2 13 10) (take (to - at) (drop at text))) 0 (length (take (to - at) (drop at text))) k →
    Passes (is_byte2 13 10) (take (to - at) (drop at text)) k →
    marks_from open_line at (drop at text)
    ≡ (let next = at + k + 1 in
    let longer = lengthened open_line (take (next - at) (drop at text)) in
    cond (ends (get_or text (at + k) 0) (begins_with_lf (drop next text))) (longer ∷ marks_from (fresh next) next (drop next text)) (marks_from longer next (drop next text)))
search_step open_line text at to k ordered within first passes =
    let rest = drop at text in
    let near : k < to - at = omega (arith, first.high, length-take-le (to - at) rest (omega (arith, length-drop at text))) in
    let long : k < length rest = omega (arith, length-drop at text) in
    let b = get_or text (at + k) 0 in
    let front = take k rest in
    let here : get_or rest k 0 ≡ b = get_or-drop at text k 0 in
    let seen : get_or (take (to - at) rest) k 0 ≡ b = get_or-take (to - at) rest k 0 near ∙ here in
    let is_end : is_byte2 13 10 b ≡ true = rw seen at passes in
    let plain : IsPlain front = rw (take-take k (to - at) rest (omega arith)) at (IsPlain-before (take (to - at) rest) k first) in
    let after : drop (k + 1) rest ≡ drop (at + k + 1) text = drop-drop (k + 1) at text ∙ ap (λ n. drop n text) (add_assoc-k at k) in
    let split : rest ≡ front ++ b ∷ drop (at + k + 1) text = sym (take-append-drop k rest) ∙ ap (λ more. front ++ more) (drop_more rest k 0 long ∙ rw (here, after) refl) in
    let far : at + length front ≡ at + k = ap (λ n. at + n) (length-take-le k rest (omega arith)) in
    let ascii = line_end-ascii b is_end in
    let size : at + k + 1 - at ≡ k + 1 = omega arith in
    let longer : take (at + k + 1 - at) rest ≡ front ++ b ∷ [] = rw (size, take_more rest k 0 long, here) refl in
    let same : all_ascii (front ++ b ∷ []) ≡ all_ascii front = all_ascii-push front b ascii in
    ap (marks_from open_line at) split ∙ (marks_from-plain open_line at front (b ∷ drop (at + k + 1) text) plain ∙ rw (far, longer, same, ascii, and-true (open_line.ascii && all_ascii front)) refl)
  where
    add_assoc-k : (at k : ℕ) → at + (k + 1) ≡ at + k + 1
    add_assoc-k at k = omega arith

-- a mark that is pushed goes from the lines to be found to those found
pub pushed : (marks longer_marks whole : List Mark) (line : Mark) (later rest : List Mark) → longer_marks ≡ marks ++ line ∷ [] → rest ≡ line ∷ later →
    marks ++ rest ≡ whole → longer_marks ++ later ≡ whole
pushed marks longer_marks whole line later rest e f h = rw (e, append_assoc marks (line ∷ []) later, ← f) h
