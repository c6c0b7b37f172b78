-- The longest front, and the way from an offset to its position and back.
use Rattle.std.proofs.Common.{◌≡◌, ℕ, ◌+◌, ◌-◌, ◌<◌, ◌≤◌, cond, leb, ltb, List, [], ◌∷◌, ◌++◌, length, get_or, take, drop, refl, ap, sym, ◌∙◌, inl, inr, arith, add-one, zero-add}
use Rattle.std.proofs.lemmas.Bool.{cases_Bool, cases_lt, leb-true, le-leb, lt-leb, ltb-true, ltb-false}
use Rattle.std.proofs.lemmas.List.{length-append, append_assoc, take-append-drop, length-take-le, get_or-append_right, get_or-append-add, get_or_append_left}
use Rattle.std.proofs.lemmas.Str.{chars-append, encodes-chars, IsUtf8-take}
use Rattle.std.proofs.lemmas.List.Sums.{sum_by-cons}
use Rattle.std.specs.List.{count_by}
use Rattle.std.specs.Str.{chars, IsUtf8, IsCharBoundary}
use Rattle.lam_text.specs.declared.units.Encoding.{Encoding}
use Rattle.lam_text.specs.Units.{units_of, units, units_in, front_within, bytes_within}
use Rattle.lam_text.specs.Lines.{Line, Ended, LineEnd, CrLf, Lf, Cr, Lines, Cut, line_bytes, end_bytes, Spell, IsCutOf, lines_of}
use Rattle.lam_text.specs.Positions.{offset_in, offset_on, offset_of, position_in, position_on, position_of, IsInsideCrLf}
use Rattle.lam_text.specs.Laws.{IsLongestFront, ends_in, ends_on, line_ends}
use Rattle.lam_text.proofs.Cuts.{IsCutOf-lines_of}
use Rattle.lam_text.proofs.RowLemmas.{IsUtf8-around}
use Rattle.lam_text.proofs.Walks.{units_of-bounds, units-cons}

-- ---- the longest front

module _ (encoding : Encoding) where
  front-is : (room : ℕ) (cs : List ℕ) → (back : List ℕ) × (cs ≡ front_within encoding room cs ++ back)
  front-is room [] = ([], refl)
  front-is room (c ∷ cs) = elim (cases_Bool (leb (units_of encoding c) room)) [
    | inl fits ↦ let rest = front-is (room - units_of encoding c) cs in rw fits (rest.0, ap (λ more. c ∷ more) rest.1)
    | inr small ↦ rw small (c ∷ cs, refl)
  ]

  front-fits : (room : ℕ) (cs : List ℕ) → units encoding (front_within encoding room cs) ≤ room
  front-fits room [] = omega arith
  front-fits room (c ∷ cs) = elim (cases_Bool (leb (units_of encoding c) room)) [
    | inl fits ↦
        let rest = room - units_of encoding c in
        rw (fits, units-cons encoding c (front_within encoding rest cs)) (omega (arith, front-fits rest cs, leb-true (units_of encoding c) room fits))
    | inr small ↦ rw small (omega arith)
  ]

  front-longest : (room : ℕ) (cs other back : List ℕ) → cs ≡ other ++ back → units encoding other ≤ room → length other ≤ length (front_within encoding room cs)
  front-longest room cs [] back e fits = omega arith
  front-longest room [] (d ∷ other) back e fits = absurd (omega (arith, ap length e))
  front-longest room (c ∷ cs) (d ∷ other) back e fits =
      let first : c ≡ d = cc in
      let rest : cs ≡ other ++ back = cc in
      let need = units-cons encoding d other in
      let small : units_of encoding c ≤ room = rw first (omega arith) in
      let left : units encoding other ≤ room - units_of encoding c = rw first (omega arith) in
      rw (le-leb (units_of encoding c) room small) (omega (arith, front-longest (room - units_of encoding c) cs other back rest left))

  pub front_within-longest : (room : ℕ) (cs : List ℕ) → IsLongestFront encoding room cs (front_within encoding room cs)
  front_within-longest room cs = record { is_front = front-is room cs; fits = front-fits room cs; longest = front-longest room cs }

-- ---- back from a position

-- with the units of a front as room, that front is the longest
pub front_within-units : (encoding : Encoding) (xs ys : List ℕ) → front_within encoding (units encoding xs) (xs ++ ys) ≡ xs
front_within-units encoding [] [] = refl
front_within-units encoding [] (y ∷ ys) = rw (lt-leb (units_of encoding y) 0 (omega (arith, (units_of-bounds encoding y).0))) refl
front_within-units encoding (x ∷ xs) ys =
    let all = units-cons encoding x xs in
    let left : units encoding (x ∷ xs) - units_of encoding x ≡ units encoding xs = omega arith in
    rw (le-leb (units_of encoding x) (units encoding (x ∷ xs)) (omega arith), left, front_within-units encoding xs ys) refl

-- within one line
bytes_within-units_in : (encoding : Encoding) (line : List ℕ) (offset : ℕ) → IsUtf8 line → IsCharBoundary line offset →
    bytes_within encoding (units_in encoding (take offset line)) line ≡ offset
bytes_within-units_in encoding line offset utf8 boundary =
    let front = take offset line in
    let front_utf8 = IsUtf8-take line offset utf8 boundary in
    let split : chars line ≡ chars front ++ chars (drop offset line) = ap chars (sym (take-append-drop offset line)) ∙ chars-append front (drop offset line) front_utf8 in
    rw (split, front_within-units encoding (chars front) (chars (drop offset line)), encodes-chars front front_utf8) (length-take-le offset line boundary.0)

-- a byte of what follows a line, counted from the text's start
byte_behind : (line after text : List ℕ) (k : ℕ) → text ≡ line ++ after → length line ≤ k → get_or after (k - length line) 0 ≡ get_or text k 0
byte_behind line after text k e h = sym (rw e (get_or-append_right line after (length line) k 0 refl h))

-- an offset in a line's end lies between its CR and its LF
inside_end : (text bytes : List ℕ) (ending : LineEnd) (after : List ℕ) (offset : ℕ) → text ≡ bytes ++ (end_bytes ending ++ after) →
    length bytes < offset → offset < length (bytes ++ end_bytes ending) → IsInsideCrLf text offset
inside_end text bytes CrLf after offset e low high =
    let at : offset ≡ length bytes + 1 = omega (arith, length-append bytes (13 ∷ 10 ∷ [])) in
    let before : offset - 1 ≡ length bytes + 0 = omega arith in
    record {
      after_start = omega arith;
      cr = rw (before, e) (get_or-append-add bytes (13 ∷ 10 ∷ after) 0 0);
      lf = rw (at, e) (get_or-append-add bytes (13 ∷ 10 ∷ after) 1 0);
    }
inside_end text bytes Lf after offset e low high = absurd (omega (arith, length-append bytes (10 ∷ [])))
inside_end text bytes Cr after offset e low high = absurd (omega (arith, length-append bytes (13 ∷ [])))

comes_back_in : (encoding : Encoding) (lines : List Line) (last text : List ℕ) (offset : ℕ) → Spell lines last text → IsUtf8 text → IsCharBoundary text offset → ¬ (IsInsideCrLf text offset) →
    offset_in encoding lines last (position_in encoding lines last offset).line (position_in encoding lines last offset).character ≡ offset
comes_back_in encoding [] last text offset spell utf8 boundary outside =
    bytes_within-units_in encoding last offset (rw spell.0 at utf8) (rw spell.0 at boundary)
comes_back_in encoding (Ended bytes ending ∷ lines) last text offset spell utf8 boundary outside =
    let line = bytes ++ end_bytes ending in
    let size = length line in
    let parts = IsUtf8-around bytes ending spell.0 (rw spell.1 at utf8) in
    elim (cases_Bool (ltb offset size)) [
      | inl here ↦
          let low : offset ≤ length bytes = elim (cases_lt (length bytes) offset) [
            | inl past ↦ absurd (outside (inside_end text bytes ending spell.0 offset spell.1 past (ltb-true offset size here)))
            | inr within ↦ within
          ] in
          let inner : offset < length bytes → get_or bytes offset 0 ≡ get_or text offset 0 =
          λ l. sym (rw spell.1 (get_or_append_left bytes (end_bytes ending ++ spell.0) 0 offset l)) in
          let cut : IsCharBoundary bytes offset = (low, λ l. rw (inner l) (boundary.1 (omega (arith, ap length spell.1, length-append bytes (end_bytes ending ++ spell.0))))) in
          rw here (bytes_within-units_in encoding bytes offset parts.0 cut)
      | inr below ↦
          let long : size ≤ offset = ltb-false offset size below in
          let split : text ≡ line ++ spell.0 = spell.1 ∙ sym (append_assoc bytes (end_bytes ending) spell.0) in
          let sizes : length text ≡ size + length spell.0 = ap length split ∙ length-append line spell.0 in
          let at : get_or spell.0 (offset - size) 0 ≡ get_or text offset 0 = byte_behind line spell.0 text offset split long in
          let cut : IsCharBoundary spell.0 (offset - size) = (omega (arith, boundary.0), λ l. rw at (boundary.1 (omega arith))) in
          let not_inside : ¬ (IsInsideCrLf spell.0 (offset - size)) = λ inside. outside (moved_inside line spell.0 text offset split long inside) in
          let rest = comes_back_in encoding lines last spell.0 (offset - size) spell.4 parts.1.1 cut not_inside in
          rw (below, add-one (position_in encoding lines last (offset - size)).line) (omega (arith, rest))
    ]
  where
    moved_inside : (line after text : List ℕ) (offset : ℕ) → text ≡ line ++ after → length line ≤ offset → IsInsideCrLf after (offset - length line) → IsInsideCrLf text offset
    moved_inside line after text offset e h inside =
        let before : offset - length line - 1 ≡ offset - 1 - length line = omega arith in
        record {
          after_start = omega (arith, inside.after_start);
          cr = sym (byte_behind line after text (offset - 1) e (omega (arith, inside.after_start))) ∙ rw before at inside.cr;
          lf = sym (byte_behind line after text offset e h) ∙ inside.lf;
        }

pub comes_back : (encoding : Encoding) (text : List ℕ) (offset : ℕ) → IsUtf8 text → IsCharBoundary text offset → ¬ (IsInsideCrLf text offset) →
    offset_of encoding text (position_of encoding text offset) ≡ offset
unfolding offset_of position_of
comes_back encoding text offset utf8 boundary outside = go (lines_of text) (IsCutOf-lines_of text) where
  go : (lines : Lines) → IsCutOf text lines → offset_on encoding lines (position_on encoding lines offset) ≡ offset
  go (Cut lines last) cut = comes_back_in encoding lines last text offset cut utf8 boundary outside

-- ---- the line of a position

-- ends behind the offset do not count
count_late : (k start : ℕ) (lines : List Line) → k < start → count_by (λ end. leb end k) (ends_in start lines) ≡ 0
count_late k start [] h = refl
count_late k start (line ∷ lines) h =
    let end = start + length (line_bytes line) in
    let late = lt-leb end k (omega arith) in
    sum_by-cons (λ e. cond (leb e k) 1 0) end (ends_in end lines) ∙ rw (late, count_late k end lines (omega arith)) refl

line_in : (encoding : Encoding) (start : ℕ) (lines : List Line) (last : List ℕ) (offset : ℕ) →
    (position_in encoding lines last offset).line ≡ count_by (λ end. leb end (start + offset)) (ends_in start lines)
line_in encoding start [] last offset = refl
line_in encoding start (line ∷ lines) last offset =
    let size = length (line_bytes line) in
    let k = start + offset in
    let split = sum_by-cons (λ e. cond (leb e k) 1 0) (start + size) (ends_in (start + size) lines) in
    elim (cases_Bool (ltb offset size)) [
      | inl here ↦
          let short = ltb-true offset size here in
          let late = lt-leb (start + size) k (omega arith) in
          let rest = count_late k (start + size) lines (omega arith) in
          rw here (sym (split ∙ rw (late, rest) refl))
      | inr below ↦
          let long = ltb-false offset size below in
          let far : start + size + (offset - size) ≡ k = omega arith in
          let early = le-leb (start + size) k (omega arith) in
          let rest = rw far at (line_in encoding (start + size) lines last (offset - size)) in
          rw below (sym (split ∙ rw (early, ← rest) (omega arith)))
    ]

pub line_of-count : (encoding : Encoding) (text : List ℕ) (offset : ℕ) → (position_of encoding text offset).line ≡ count_by (λ end. leb end offset) (line_ends text)
unfolding position_of
line_of-count encoding text offset = go (lines_of text) where
  go : (lines : Lines) → (position_on encoding lines offset).line ≡ count_by (λ end. leb end offset) (ends_on lines)
  go (Cut lines last) = rw zero-add at (line_in encoding 0 lines last offset)
