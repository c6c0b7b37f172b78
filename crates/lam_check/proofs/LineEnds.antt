-- Where a line stands in a document, that no position is between a CR and its LF, and how far lines and columns go.
use Rattle.std.proofs.Common.{◌≡◌, ℕ, zero, suc, ◌+◌, ◌-◌, ◌*◌, ◌<◌, ◌≤◌, List, [], ◌∷◌, ◌++◌, length, take, drop, get_or, refl, sym, ap, ◌∙◌, inl, inr, arith, append_assoc, true≢false}
use Rattle.std.proofs.lemmas.Bool.{cases_lt, le-leb, and_parts, eq-eqb}
use Rattle.std.proofs.lemmas.List.{length-append, take_at, length-take, get_or_append_left, get_or-append-add}
use Rattle.std.specs.List.{list_all}
use Rattle.std.proofs.lemmas.Str.{encodes-chars}
use Rattle.std.specs.Str.{chars, chars_after, continuation_len, lead_bits, IsUtf8}
use Rattle.lam_text.specs.declared.units.Encoding.{Encoding}
use Rattle.lam_text.specs.declared.units.Encoding.TheVariants.{Utf32}
use Rattle.lam_text.specs.Units.{units_of, units, front_within, bytes_within}
use Rattle.lam_text.specs.Lines.{Line, Ended, LineEnd, CrLf, Lf, Cr, Lines, Cut, end_bytes, is_plain, IsPlain, EndStands, Spell, IsCutOf, lines_of}
use Rattle.lam_text.specs.declared.places.Position.{Position}
use Rattle.lam_text.specs.Positions.{offset_in, offset_on, offset_of, position_in, position_on, position_of, IsInsideCrLf}
use Rattle.lam_text.specs.inner.Rows.{start_in, content_in}
use Rattle.lam_text.proofs.Cuts.{IsCutOf-lines_of, plain_tests}
use Rattle.lam_text.proofs.Walks.{units-cons, units-le-length, bytes_within-le}
use Rattle.lam_text.proofs.Lookups.{some_end}
use Rattle.lam_text.proofs.LawLemmas.{front_within-units}
use Rattle.lam_text.proofs.RowLemmas.{row_of, IsUtf8-around, offset_in-row, offset_in-past, position_in-bounds, position_in-character, length-line_bytes}
use Rattle.lam_check.specs.Lines.{line_in, line_on, line_of}

-- ---- what a line holds

content_line : (lines : List Line) (last : List ℕ) (n : ℕ) → n ≤ length lines → line_in lines last n ≡ content_in lines last n
content_line [] last zero h = refl
content_line [] last (suc n) h = absurd (omega arith)
content_line (line ∷ lines) last zero h = refl
content_line (line ∷ lines) last (suc n) h = content_line lines last n (omega arith)

no_line : (lines : List Line) (last : List ℕ) (n : ℕ) → length lines < n → line_in lines last n ≡ []
no_line [] last zero h = absurd (omega arith)
no_line [] last (suc n) h = refl
no_line (line ∷ lines) last zero h = absurd (omega arith)
no_line (line ∷ lines) last (suc n) h = no_line lines last n (omega arith)

-- ---- the ends of a line

all_within : (encoding : Encoding) (room : ℕ) (cs : List ℕ) → units encoding cs ≤ room → front_within encoding room cs ≡ cs
all_within encoding room [] h = refl
all_within encoding room (c ∷ cs) h =
    let all = units-cons encoding c cs in
    rw (le-leb (units_of encoding c) room (omega arith), all_within encoding (room - units_of encoding c) cs (omega arith)) refl

none_within : (encoding : Encoding) (line : List ℕ) → bytes_within encoding 0 line ≡ 0
none_within encoding line = rw (front_within-units encoding [] (chars line)) refl

whole_within : (encoding : Encoding) (room : ℕ) (line : List ℕ) → IsUtf8 line → length line ≤ room → bytes_within encoding room line ≡ length line
whole_within encoding room line utf8 h =
    let whole = encodes-chars line utf8 in
    let few : units encoding (chars line) ≤ room = omega (arith, units-le-length encoding (chars line), ap length whole) in
    rw (all_within encoding room (chars line) few, whole) refl

-- the text between the first column of a line and one past its end is what the line holds
pub record Slice (text : List ℕ) (low high : ℕ) (line : List ℕ) : Type 0 where
  pub ordered : low ≤ high
  pub is : take (high - low) (drop low text) ≡ line

pub slice_of_line : (encoding : Encoding) (text : List ℕ) (n far : ℕ) → IsUtf8 text → length text ≤ far →
    Slice text (offset_of encoding text (record { line = n; character = 0 })) (offset_of encoding text (record { line = n; character = far })) (line_of text n)
unfolding offset_of line_of
slice_of_line encoding text n far utf8 h = go (lines_of text) (IsCutOf-lines_of text) where
  inside : (lines : List Line) (last : List ℕ) → Spell lines last text → n ≤ length lines
      → Slice text (offset_in encoding lines last n 0) (offset_in encoding lines last n far) (line_in lines last n)
  inside lines last cut few =
      let row = row_of lines last text n cut utf8 few in
      let line = content_in lines last n in
      let start = start_in lines n in
      let low : offset_in encoding lines last n 0 ≡ start = offset_in-row encoding lines last n 0 few ∙ rw (none_within encoding line) (omega arith) in
      let high : offset_in encoding lines last n far ≡ start + length line =
      offset_in-row encoding lines last n far few ∙ rw (whole_within encoding far line row.utf8_content (omega (arith, row.sizes))) refl in
      let long : start + length line - start ≡ length line = omega arith in
      rw (low, high, content_line lines last n few) (record { ordered = omega arith; is = rw long (ap (take (length line)) row.splits ∙ take_at line row.after (length line) refl) })

  past : (lines : List Line) (last : List ℕ) → Spell lines last text → length lines < n
      → Slice text (offset_in encoding lines last n 0) (offset_in encoding lines last n far) (line_in lines last n)
  past lines last cut many =
      let none : length text - length text ≡ 0 = omega arith in
      rw (offset_in-past encoding lines last text n 0 cut many, offset_in-past encoding lines last text n far cut many, no_line lines last n many)
      (record { ordered = omega arith; is = rw none refl })

  go : (lines : Lines) → IsCutOf text lines
      → Slice text (offset_on encoding lines (record { line = n; character = 0 })) (offset_on encoding lines (record { line = n; character = far })) (line_on lines n)
  go (Cut lines last) cut = elim (cases_lt (length lines) n) [ inl many ↦ past lines last cut many | inr few ↦ inside lines last cut few ]

-- ---- no position is between a CR and its LF

no_cr : (bytes : List ℕ) (k : ℕ) → IsPlain bytes → get_or bytes k 0 ≡ 13 → ⊥
no_cr [] k plain cr = absurd (omega arith)
no_cr (b ∷ bytes) zero plain cr = true≢false (sym (eq-eqb b 13 cr) ∙ (plain_tests b (and_parts (is_plain b) (list_all is_plain bytes) plain).0).1)
no_cr (b ∷ bytes) (suc k) plain cr = no_cr bytes k (and_parts (is_plain b) (list_all is_plain bytes) plain).1 cr

-- no LF follows a line end whose last byte is a CR
no_lf_after : (bytes : List ℕ) (ending : LineEnd) (after : List ℕ) → EndStands ending after
    → get_or (bytes ++ (end_bytes ending ++ after)) (length (bytes ++ end_bytes ending) - 1) 0 ≡ 13 → get_or after 0 0 ≡ 10 → ⊥
no_lf_after bytes CrLf after stands cr lf =
    let place : length (bytes ++ 13 ∷ 10 ∷ []) - 1 ≡ length bytes + 1 = omega (arith, length-append bytes (13 ∷ 10 ∷ [])) in
    let last : ◌≡◌ {A = ℕ} 10 13 = sym (get_or-append-add bytes (13 ∷ 10 ∷ after) 1 0) ∙ rw place at cr in
    absurd (omega arith)
no_lf_after bytes Lf after stands cr lf =
    let place : length (bytes ++ 10 ∷ []) - 1 ≡ length bytes + 0 = omega (arith, length-append bytes (10 ∷ [])) in
    let last : ◌≡◌ {A = ℕ} 10 13 = sym (get_or-append-add bytes (10 ∷ after) 0 0) ∙ rw place at cr in
    absurd (omega arith)
no_lf_after bytes Cr [] stands cr lf = absurd (omega arith)
no_lf_after bytes Cr (b ∷ after) stands cr lf = stands lf

outside_in : (encoding : Encoding) (lines : List Line) (last text : List ℕ) (n character : ℕ) → Spell lines last text → IsUtf8 text
    → ¬ (IsInsideCrLf text (offset_in encoding lines last n character))
outside_in encoding [] last text n character spell utf8 inside = no_cr last (offset_in encoding [] last n character - 1) spell.1 (rw spell.0 at inside.cr)
outside_in encoding (Ended bytes ending ∷ lines) last text zero character spell utf8 inside =
    let offset = bytes_within encoding character bytes in
    let within = bytes_within-le encoding character bytes (IsUtf8-around bytes ending spell.0 (rw spell.1 at utf8)).0 in
    let some = inside.after_start in
    no_cr bytes (offset - 1) spell.2 (sym (get_or_append_left bytes (end_bytes ending ++ spell.0) 0 (offset - 1) (omega arith)) ∙ rw spell.1 at inside.cr)
outside_in encoding (Ended bytes ending ∷ lines) last text (suc n) character spell utf8 inside =
    let front = bytes ++ end_bytes ending in
    let offset = offset_in encoding lines last n character in
    let split : text ≡ front ++ spell.0 = spell.1 ∙ sym (append_assoc bytes (end_bytes ending) spell.0) in
    let lf : get_or spell.0 offset 0 ≡ 10 = sym (get_or-append-add front spell.0 offset 0) ∙ rw split at inside.lf in
    elim (cases_lt 0 offset) [
      | inl some ↦
          let place : length front + offset - 1 ≡ length front + (offset - 1) = omega arith in
          outside_in encoding lines last spell.0 n character spell.4 (IsUtf8-around bytes ending spell.0 (rw spell.1 at utf8)).1.1
          (record { after_start = some; cr = sym (get_or-append-add front spell.0 (offset - 1) 0) ∙ rw (split, place) at inside.cr; lf = lf })
      | inr none ↦
          let first : offset ≡ 0 = omega arith in
          let place : length front + offset - 1 ≡ length front - 1 = omega arith in
          no_lf_after bytes ending spell.0 spell.3 (rw (spell.1, place) at inside.cr) (rw first at lf)
    ]

pub offset_outside : (encoding : Encoding) (text : List ℕ) (position : Position) → IsUtf8 text → ¬ (IsInsideCrLf text (offset_of encoding text position))
unfolding offset_of
offset_outside encoding text position utf8 = go (lines_of text) (IsCutOf-lines_of text) where
  go : (lines : Lines) → IsCutOf text lines → ¬ (IsInsideCrLf text (offset_on encoding lines position))
  go (Cut lines last) cut = outside_in encoding lines last text position.line position.character cut utf8

-- ---- how far lines and columns go

lines_few : (lines : List Line) (last text : List ℕ) → Spell lines last text → length lines ≤ length text
lines_few [] last text spell = omega arith
lines_few (Ended bytes ending ∷ lines) last text spell =
    omega (arith, lines_few lines last spell.0 spell.4, ap length spell.1, length-line_bytes bytes ending spell.0, length-append bytes (end_bytes ending), some_end ending)

chars_after_few : (n c : ℕ) (bytes : List ℕ) → length (chars_after n c bytes) ≤ length bytes + 1
chars_after_few zero c [] = omega arith
chars_after_few zero c (b ∷ bytes) = omega (arith, chars_after_few (continuation_len b) (lead_bits b) bytes)
chars_after_few (suc n) c [] = omega arith
chars_after_few (suc n) c (b ∷ bytes) = omega (arith, chars_after_few n (c * 64 + (b - 128)) bytes)

pub chars_few : (bytes : List ℕ) → length (chars bytes) ≤ length bytes
unfolding chars
chars_few [] = omega arith
chars_few (b ∷ bytes) = omega (arith, chars_after_few (continuation_len b) (lead_bits b) bytes)

units_few : (cs : List ℕ) → units Utf32 cs ≡ length cs
units_few [] = refl
units_few (c ∷ cs) = omega (arith, units-cons Utf32 c cs, units_few cs)

pub place_bounds : (text : List ℕ) (offset : ℕ) → IsUtf8 text → ((position_of Utf32 text offset).line ≤ length text) × ((position_of Utf32 text offset).character ≤ length text)
unfolding position_of
place_bounds text offset utf8 = go (lines_of text) (IsCutOf-lines_of text) where
  go : (lines : Lines) → IsCutOf text lines → ((position_on Utf32 lines offset).line ≤ length text) × ((position_on Utf32 lines offset).character ≤ length text)
  go (Cut lines last) cut =
      let n = (position_in Utf32 lines last offset).line in
      let bounds = position_in-bounds Utf32 lines last offset in
      let row = row_of lines last text n cut utf8 bounds.0 in
      let line = content_in lines last n in
      let front = take (offset - start_in lines n) line in (
        omega (arith, bounds.0, lines_few lines last text cut),
        omega (arith, position_in-character Utf32 lines last offset, units_few (chars front), chars_few front, length-take (offset - start_in lines n) line, row.sizes),
      )
