-- The lines of a text by their numbers: where they stand in it, and what their marks and positions say of them.
use Rattle.std.proofs.Common.{◌≡◌, ℕ, zero, suc, ◌+◌, ◌-◌, ◌<◌, ◌≤◌, true, false, ◌&&◌, cond, eqb, ltb, List, [], ◌∷◌, ◌++◌, length, get_or, take, drop, min, refl, ap, sym, ◌∙◌, inl, inr, arith, add-zero, add-one, lit<, zero-add}
use Rattle.std.proofs.lemmas.Bool.{cases_Bool, ltb-true, ltb-false, le-leb, lt-leb, le-ltb, lt-ltb, and_parts, and_left, and_right, cases_lt}
use Rattle.std.proofs.lemmas.List.{length-append, append_assoc, append-nil, drop_at, drop-drop, drop-append-le, drop_all, get_or-drop, get_or_at, get_or_append_left, get_or-append-add, take_at}
use Rattle.std.proofs.lemmas.Str.{IsUtf8-nil, IsUtf8-take, IsUtf8-drop, IsCharBoundary-before_ascii, IsCharBoundary-after_ascii, IsCharBoundary-from_drop, IsCharBoundary-end, IsUtf8-append}
use Rattle.std.specs.Str.{IsUtf8, IsCharBoundary}
use Rattle.std.specs.List.{list_all, prefix_len}
use Rattle.lam_text.specs.declared.units.Encoding.{Encoding}
use Rattle.lam_text.specs.declared.places.Position.{Position}
use Rattle.lam_text.specs.declared.index.Mark.{Mark}
use Rattle.lam_text.specs.Units.{units_in, bytes_within}
use Rattle.lam_text.specs.Lines.{Line, Ended, LineEnd, CrLf, Lf, Cr, Lines, Cut, line_bytes, end_bytes, IsPlain, is_plain, Spell, IsCutOf, lines_of}
use Rattle.lam_text.specs.Positions.{offset_in, offset_on, offset_of, position_in, position_on, position_of}
use Rattle.lam_text.specs.inner.Index.{all_ascii, marks_in, marks_on, index_of}
use Rattle.lam_text.specs.inner.Search.{starts_by}
use Rattle.lam_text.specs.inner.Rows.{start_in, content_in, start_on, content_on, line_start, line_content}
use Rattle.lam_text.proofs.Cuts.{IsCutOf-lines_of, plain_tests}
use Rattle.lam_text.proofs.Walks.{bytes_within-le, IsUtf8-drop_within}

-- ---- the marks of the lines

pub length-marks_in : (base : ℕ) (lines : List Line) (last : List ℕ) → length (marks_in base lines last) ≡ length lines + 1
length-marks_in base [] last = refl
length-marks_in base (line ∷ lines) last = omega (arith, length-marks_in (base + length (line_bytes line)) lines last)

pub get_or-marks_in : (base : ℕ) (lines : List Line) (last : List ℕ) (n : ℕ) (d : Mark) → n ≤ length lines →
    get_or (marks_in base lines last) n d ≡ record { start = base + start_in lines n; ascii = all_ascii (content_in lines last n) }
get_or-marks_in base [] last zero d h = rw (add-zero base) refl
get_or-marks_in base [] last (suc n) d h = absurd (omega arith)
get_or-marks_in base (line ∷ lines) last zero d h = rw (add-zero base) refl
get_or-marks_in base (line ∷ lines) last (suc n) d h =
    let far : base + length (line_bytes line) + start_in lines n ≡ base + (length (line_bytes line) + start_in lines n) = omega arith in
    rw (get_or-marks_in (base + length (line_bytes line)) lines last n d (omega arith), far) refl

-- ---- positions and offsets

pub offset_in-row : (encoding : Encoding) (lines : List Line) (last : List ℕ) (n character : ℕ) → n ≤ length lines →
    offset_in encoding lines last n character ≡ start_in lines n + bytes_within encoding character (content_in lines last n)
offset_in-row encoding [] last zero character h = omega arith
offset_in-row encoding [] last (suc n) character h = absurd (omega arith)
offset_in-row encoding (line ∷ lines) last zero character h = omega arith
offset_in-row encoding (line ∷ lines) last (suc n) character h = omega (arith, offset_in-row encoding lines last n character (omega arith))

pub length-line_bytes : (bytes : List ℕ) (ending : LineEnd) (after : List ℕ) → length (bytes ++ (end_bytes ending ++ after)) ≡ length (bytes ++ end_bytes ending) + length after
length-line_bytes bytes ending after = ap length (sym (append_assoc bytes (end_bytes ending) after)) ∙ length-append (bytes ++ end_bytes ending) after

pub offset_in-past : (encoding : Encoding) (lines : List Line) (last text : List ℕ) (n character : ℕ) → Spell lines last text → length lines < n →
    offset_in encoding lines last n character ≡ length text
offset_in-past encoding [] last text zero character spell h = absurd (omega arith)
offset_in-past encoding [] last text (suc n) character spell h = ap length (sym spell.0)
offset_in-past encoding (Ended bytes ending ∷ lines) last text zero character spell h = absurd (omega arith)
offset_in-past encoding (Ended bytes ending ∷ lines) last text (suc n) character spell h =
    omega (arith, offset_in-past encoding lines last spell.0 n character spell.4 (omega arith), ap length spell.1, length-line_bytes bytes ending spell.0)

-- the position of an offset and the marks of the lines agree
pub position_in-line : (encoding : Encoding) (base : ℕ) (lines : List Line) (last : List ℕ) (offset : ℕ) →
    prefix_len (starts_by (base + offset)) (marks_in base lines last) ≡ (position_in encoding lines last offset).line + 1
position_in-line encoding base [] last offset = rw (le-leb base (base + offset) (omega arith)) refl
position_in-line encoding base (line ∷ lines) last offset =
    let size = length (line_bytes line) in
    elim (cases_Bool (ltb offset size)) [
      | inl here ↦
          let short = ltb-true offset size here in
          rw (here, le-leb base (base + offset) (omega arith), prefix_len-late (base + offset) (base + size) lines last (omega arith)) (omega arith)
      | inr below ↦
          let long = ltb-false offset size below in
          let far : base + size + (offset - size) ≡ base + offset = omega arith in
          let rest = rw far at (position_in-line encoding (base + size) lines last (offset - size)) in
          rw (below, le-leb base (base + offset) (omega arith), rest) (omega arith)
    ]
  where
    prefix_len-late : (k base : ℕ) (lines : List Line) (last : List ℕ) → k < base → prefix_len (starts_by k) (marks_in base lines last) ≡ 0
    prefix_len-late k base [] last h = rw (lt-leb base k h) refl
    prefix_len-late k base (line ∷ lines) last h = rw (lt-leb base k h) refl

-- the line of a position is one of the text's, and starts at the offset or before
pub position_in-bounds : (encoding : Encoding) (lines : List Line) (last : List ℕ) (offset : ℕ) →
    ((position_in encoding lines last offset).line ≤ length lines) × (start_in lines (position_in encoding lines last offset).line ≤ offset)
position_in-bounds encoding [] last offset = (omega arith, omega arith)
position_in-bounds encoding (line ∷ lines) last offset =
    let size = length (line_bytes line) in
    elim (cases_Bool (ltb offset size)) [
      | inl here ↦ rw here (omega arith, omega arith)
      | inr below ↦
          let long = ltb-false offset size below in
          let rest = position_in-bounds encoding lines last (offset - size) in
          rw (below, add-one (position_in encoding lines last (offset - size)).line) (omega arith, omega arith)
    ]

pub position_in-character : (encoding : Encoding) (lines : List Line) (last : List ℕ) (offset : ℕ) →
    (position_in encoding lines last offset).character
    ≡ units_in encoding (take (offset - start_in lines (position_in encoding lines last offset).line) (content_in lines last (position_in encoding lines last offset).line))
position_in-character encoding [] last offset = let e : offset - 0 ≡ offset = omega arith in rw e refl
position_in-character encoding (line ∷ lines) last offset =
    let size = length (line_bytes line) in
    elim (cases_Bool (ltb offset size)) [
      | inl here ↦ let e : offset - 0 ≡ offset = omega arith in rw (here, e) refl
      | inr below ↦
          let number = (position_in encoding lines last (offset - size)).line in
          let e : offset - (size + start_in lines number) ≡ offset - size - start_in lines number = omega arith in
          rw (below, add-one number, e) (position_in-character encoding lines last (offset - size))
    ]

-- ---- where a line stands in the text

-- the text from `start` on is a line's content and what follows it
pub record Row (text : List ℕ) (start : ℕ) (bytes : List ℕ) : Type 0 where
  pub after : List ℕ
  pub sizes : start + length bytes + length after ≡ length text
  pub splits : drop start text ≡ bytes ++ after
  pub utf8_content : IsUtf8 bytes
  pub utf8_after : IsUtf8 after

-- what stands before and behind a line end is text
pub IsUtf8-around : (bytes : List ℕ) (ending : LineEnd) (after : List ℕ) → IsUtf8 (bytes ++ (end_bytes ending ++ after)) → IsUtf8 bytes × (IsUtf8 (end_bytes ending ++ after) × IsUtf8 after)
IsUtf8-around bytes ending after utf8 =
    let text = bytes ++ (end_bytes ending ++ after) in
    let long : length bytes < length text = omega (arith, length-append bytes (end_bytes ending ++ after), some_end ending after) in
    let cut = IsCharBoundary-before_ascii text (length bytes) long (first_ascii bytes ending after) in
    let front = rw (take_at bytes (end_bytes ending ++ after) (length bytes) refl) at (IsUtf8-take text (length bytes) utf8 cut) in
    let back = rw (drop_at bytes (end_bytes ending ++ after) (length bytes) refl) at (IsUtf8-drop text (length bytes) utf8 cut) in
    (front, (back, behind ending after back))
  where
    some_end : (ending : LineEnd) (after : List ℕ) → 0 < length (end_bytes ending ++ after)
    some_end CrLf after = omega arith
    some_end Lf after = omega arith
    some_end Cr after = omega arith

    first_ascii : (bytes : List ℕ) (ending : LineEnd) (after : List ℕ) → get_or (bytes ++ (end_bytes ending ++ after)) (length bytes) 0 < 128
    first_ascii bytes CrLf after = rw (get_or_at bytes 13 (10 ∷ after) 0 (length bytes) refl) (lit< tt)
    first_ascii bytes Lf after = rw (get_or_at bytes 10 after 0 (length bytes) refl) (lit< tt)
    first_ascii bytes Cr after = rw (get_or_at bytes 13 after 0 (length bytes) refl) (lit< tt)

    past_ascii : (b : ℕ) (bytes : List ℕ) → b < 128 → IsUtf8 (b ∷ bytes) → IsUtf8 bytes
    past_ascii b bytes ascii text = IsUtf8-drop (b ∷ bytes) 1 text (IsCharBoundary-after_ascii (b ∷ bytes) 0 text (omega arith) ascii)

    behind : (ending : LineEnd) (after : List ℕ) → IsUtf8 (end_bytes ending ++ after) → IsUtf8 after
    behind CrLf after text = past_ascii 10 after (lit< tt) (past_ascii 13 (10 ∷ after) (lit< tt) text)
    behind Lf after text = past_ascii 10 after (lit< tt) text
    behind Cr after text = past_ascii 13 after (lit< tt) text

drop-line : (line after text : List ℕ) (n : ℕ) → text ≡ line ++ after → drop (length line + n) text ≡ drop n after
drop-line line after text n e = sym (drop-drop n (length line) text) ∙ ap (drop n) (rw e (drop_at line after (length line) refl))

pub row_of : (lines : List Line) (last text : List ℕ) (n : ℕ) → Spell lines last text → IsUtf8 text → n ≤ length lines → Row text (start_in lines n) (content_in lines last n)
row_of [] last text zero spell utf8 h =
    record { after = []; sizes = omega (arith, ap length spell.0); splits = spell.0 ∙ sym (append-nil last); utf8_content = rw spell.0 at utf8; utf8_after = IsUtf8-nil }
row_of [] last text (suc n) spell utf8 h = absurd (omega arith)
row_of (Ended bytes ending ∷ lines) last text zero spell utf8 h =
    let parts = IsUtf8-around bytes ending spell.0 (rw spell.1 at utf8) in
    record {
      after = end_bytes ending ++ spell.0;
      sizes = omega (arith, ap length spell.1, length-append bytes (end_bytes ending ++ spell.0));
      splits = spell.1;
      utf8_content = parts.0;
      utf8_after = parts.1.0;
    }
row_of (Ended bytes ending ∷ lines) last text (suc n) spell utf8 h =
    let parts = IsUtf8-around bytes ending spell.0 (rw spell.1 at utf8) in
    let row = row_of lines last spell.0 n spell.4 parts.1.1 (omega arith) in
    let line = bytes ++ end_bytes ending in
    let split : text ≡ line ++ spell.0 = spell.1 ∙ sym (append_assoc bytes (end_bytes ending) spell.0) in
    record {
      after = row.after;
      sizes = omega (arith, row.sizes, ap length split, length-append line spell.0);
      splits = drop-line line spell.0 text (start_in lines n) split ∙ row.splits;
      utf8_content = row.utf8_content;
      utf8_after = row.utf8_after;
    }

-- a line that has an end
pub record EndedRow (text : List ℕ) (start : ℕ) (bytes : List ℕ) (next : ℕ) : Type 0 where
  pub ending : LineEnd
  pub after : List ℕ
  pub plain : IsPlain bytes
  pub splits : drop start text ≡ bytes ++ (end_bytes ending ++ after)
  pub next_is : next ≡ start + length bytes + length (end_bytes ending)
  pub within : next ≤ length text

start_in-zero : (lines : List Line) → start_in lines 0 ≡ 0
start_in-zero [] = refl
start_in-zero (line ∷ lines) = refl

pub ended_row_of : (lines : List Line) (last text : List ℕ) (n : ℕ) → Spell lines last text → n < length lines → EndedRow text (start_in lines n) (content_in lines last n) (start_in lines (suc n))
ended_row_of [] last text n spell h = absurd (omega arith)
ended_row_of (Ended bytes ending ∷ lines) last text zero spell h =
    record {
      ending = ending;
      after = spell.0;
      plain = spell.2;
      splits = spell.1;
      next_is = omega (arith, start_in-zero lines, length-append bytes (end_bytes ending));
      within = omega (arith, start_in-zero lines, ap length spell.1, length-line_bytes bytes ending spell.0);
    }
ended_row_of (Ended bytes ending ∷ lines) last text (suc n) spell h =
    let row = ended_row_of lines last spell.0 n spell.4 (omega arith) in
    let line = bytes ++ end_bytes ending in
    let split : text ≡ line ++ spell.0 = spell.1 ∙ sym (append_assoc bytes (end_bytes ending) spell.0) in
    record {
      ending = row.ending;
      after = row.after;
      plain = row.plain;
      splits = drop-line line spell.0 text (start_in lines n) split ∙ row.splits;
      next_is = omega (arith, row.next_is);
      within = omega (arith, row.within, ap length split, length-append line spell.0);
    }

-- ---- where the content of a line ends

is_plain-at : (bytes : List ℕ) (k : ℕ) → IsPlain bytes → k < length bytes → eqb (get_or bytes k 0) 13 ≡ false
is_plain-at [] k plain h = absurd (omega arith)
is_plain-at (b ∷ bytes) zero plain h = (plain_tests b (and_parts (is_plain b) (list_all is_plain bytes) plain).0).1
is_plain-at (b ∷ bytes) (suc k) plain h = is_plain-at bytes k (and_parts (is_plain b) (list_all is_plain bytes) plain).1 (omega arith)

-- the byte before an LF that ends a line is no CR of the line's own
no_cr_before : (text front : List ℕ) (start : ℕ) (more : List ℕ) → IsPlain front → drop start text ≡ front ++ more → (ltb start (start + length front) && eqb (get_or text (start + length front - 1) 0) 13) ≡ false
no_cr_before text [] start more plain splits = and_left (ltb start (start + 0)) _ (le-ltb start (start + 0) (omega arith))
no_cr_before text (b ∷ front) start more plain splits =
    let bytes = b ∷ front in
    let place : start + length bytes - 1 ≡ start + length front = omega arith in
    let here : get_or text (start + length front) 0 ≡ get_or bytes (length front) 0 =
    sym (get_or-drop start text (length front) 0) ∙ (ap (λ xs. get_or xs (length front) 0) splits ∙ get_or_append_left bytes more 0 (length front) (omega arith)) in
    and_right (ltb start (start + length bytes)) (eqb (get_or text (start + length bytes - 1) 0) 13) (rw (place, here) (is_plain-at bytes (length front) plain (omega arith)))

-- the bytes of the line end
end_byte : (text front ending_bytes : List ℕ) (start n : ℕ) → drop start text ≡ front ++ ending_bytes → get_or text (start + length front + n) 0 ≡ get_or ending_bytes n 0
end_byte text front ending_bytes start n splits =
    let far : start + length front + n ≡ start + (length front + n) = omega arith in
    rw far (sym (get_or-drop start text (length front + n) 0)) ∙ (ap (λ xs. get_or xs (length front + n) 0) splits ∙ get_or-append-add front ending_bytes n 0)

pub before_end-is : (text front : List ℕ) (start next : ℕ) (ending : LineEnd) (after : List ℕ) → IsPlain front →
    drop start text ≡ front ++ (end_bytes ending ++ after) → next ≡ start + length front + length (end_bytes ending) →
    cond (eqb (get_or text (next - 1) 0) 10 && (ltb start (next - 1) && eqb (get_or text (next - 1 - 1) 0) 13)) (next - 1 - 1) (next - 1) ≡ start + length front
before_end-is text front start next CrLf after plain splits e =
    let lf_at : next - 1 ≡ start + length front + 1 = omega arith in
    let cr_at : next - 1 - 1 ≡ start + length front + 0 = omega arith in
    let inside : ltb start (start + length front + 1) ≡ true = lt-ltb start (start + length front + 1) (omega arith) in
    rw (cr_at, lf_at, end_byte text front (13 ∷ 10 ∷ after) start 1 splits, end_byte text front (13 ∷ 10 ∷ after) start 0 splits, inside) (omega arith)
before_end-is text front start next Lf after plain splits e =
    let lf_at : next - 1 ≡ start + length front = omega arith in
    let lf : get_or text (start + length front) 0 ≡ 10 = rw (add-zero (start + length front)) at (end_byte text front (10 ∷ after) start 0 splits) in
    rw (lf_at, lf, no_cr_before text front start (10 ∷ after) plain splits) refl
before_end-is text front start next Cr after plain splits e =
    let cr_at : next - 1 ≡ start + length front = omega arith in
    let cr : get_or text (start + length front) 0 ≡ 13 = rw (add-zero (start + length front)) at (end_byte text front (13 ∷ after) start 0 splits) in
    rw (cr_at, cr) refl

-- ---- the rows of a text with its index

-- how many lines have an end
abbrev pub count_on : Lines → ℕ
count_on (Cut lines last) = length lines

pub length-index_of : (text : List ℕ) → length (index_of text) ≡ count_on (lines_of text) + 1
unfolding index_of
length-index_of text = go (lines_of text) where
  go : (lines : Lines) → length (marks_on 0 lines) ≡ count_on lines + 1
  go (Cut lines last) = length-marks_in 0 lines last

pub get_or-index : (text : List ℕ) (n : ℕ) (d : Mark) → n < length (index_of text) →
    get_or (index_of text) n d ≡ record { start = line_start text n; ascii = all_ascii (line_content text n) }
unfolding index_of
get_or-index text n d h = go (lines_of text) h where
  go : (lines : Lines) → n < length (marks_on 0 lines) → get_or (marks_on 0 lines) n d ≡ record { start = start_on lines n; ascii = all_ascii (content_on lines n) }
  go (Cut lines last) h = get_or-marks_in 0 lines last n d (omega (arith, length-marks_in 0 lines last)) ∙ rw (zero-add (start_in lines n)) refl

pub row_at : (text : List ℕ) (n : ℕ) → IsUtf8 text → n < length (index_of text) → Row text (line_start text n) (line_content text n)
row_at text n utf8 h = go (lines_of text) (IsCutOf-lines_of text) (omega (arith, length-index_of text)) where
  go : (lines : Lines) → IsCutOf text lines → n ≤ count_on lines → Row text (start_on lines n) (content_on lines n)
  go (Cut lines last) cut h = row_of lines last text n cut utf8 h

pub ended_row_at : (text : List ℕ) (n : ℕ) → n + 1 < length (index_of text) → EndedRow text (line_start text n) (line_content text n) (line_start text (suc n))
ended_row_at text n h = go (lines_of text) (IsCutOf-lines_of text) (omega (arith, length-index_of text)) where
  go : (lines : Lines) → IsCutOf text lines → n < count_on lines → EndedRow text (start_on lines n) (content_on lines n) (start_on lines (suc n))
  go (Cut lines last) cut h = ended_row_of lines last text n cut h

-- the last line goes to the text's end
pub last_row : (text : List ℕ) (n : ℕ) → n + 1 ≡ length (index_of text) → line_start text n + length (line_content text n) ≡ length text
last_row text n h = go (lines_of text) (IsCutOf-lines_of text) (omega (arith, length-index_of text)) where
  last_in : (lines : List Line) (last text : List ℕ) (n : ℕ) → Spell lines last text → n ≡ length lines → start_in lines n + length (content_in lines last n) ≡ length text
  last_in [] last text zero spell e = omega (arith, ap length spell.0)
  last_in [] last text (suc n) spell e = absurd (omega arith)
  last_in (Ended bytes ending ∷ lines) last text zero spell e = absurd (omega arith)
  last_in (Ended bytes ending ∷ lines) last text (suc n) spell e =
      omega (arith, last_in lines last spell.0 n spell.4 (omega arith), ap length spell.1, length-line_bytes bytes ending spell.0)

  go : (lines : Lines) → IsCutOf text lines → n ≡ count_on lines → start_on lines n + length (content_on lines n) ≡ length text
  go (Cut lines last) cut e = last_in lines last text n cut e

pub offset_of-row : (encoding : Encoding) (text : List ℕ) (position : Position) → position.line < length (index_of text) →
    offset_of encoding text position ≡ line_start text position.line + bytes_within encoding position.character (line_content text position.line)
unfolding offset_of
offset_of-row encoding text position h = go (lines_of text) (omega (arith, length-index_of text)) where
  go : (lines : Lines) → position.line ≤ count_on lines →
      offset_on encoding lines position ≡ start_on lines position.line + bytes_within encoding position.character (content_on lines position.line)
  go (Cut lines last) h = offset_in-row encoding lines last position.line position.character h

pub offset_of-past : (encoding : Encoding) (text : List ℕ) (position : Position) → length (index_of text) ≤ position.line → offset_of encoding text position ≡ length text
unfolding offset_of
offset_of-past encoding text position h = go (lines_of text) (IsCutOf-lines_of text) (omega (arith, length-index_of text)) where
  go : (lines : Lines) → IsCutOf text lines → count_on lines < position.line → offset_on encoding lines position ≡ length text
  go (Cut lines last) cut h = offset_in-past encoding lines last text position.line position.character cut h

-- the line number that the index gives for an offset is the position's, and the character follows from it
pub position_of-row : (encoding : Encoding) (text : List ℕ) (offset n : ℕ) → n + 1 ≡ prefix_len (starts_by offset) (index_of text) →
    (position_of encoding text offset ≡ record { line = n; character = units_in encoding (take (offset - line_start text n) (line_content text n)) })
    × (line_start text n ≤ offset)
unfolding position_of index_of
position_of-row encoding text offset n h = go (lines_of text) h where
  go : (lines : Lines) → n + 1 ≡ prefix_len (starts_by offset) (marks_on 0 lines) →
      (position_on encoding lines offset ≡ record { line = n; character = units_in encoding (take (offset - start_on lines n) (content_on lines n)) }) × (start_on lines n ≤ offset)
  go (Cut lines last) h =
      let found = rw (zero-add offset) at (position_in-line encoding 0 lines last offset) in
      let same : n ≡ (position_in encoding lines last offset).line = omega arith in
      rw (same, ← position_in-character encoding lines last offset) (refl, (position_in-bounds encoding lines last offset).1)

-- ---- where a row may be cut

pub Row-start_boundary : (text : List ℕ) (start : ℕ) (bytes : List ℕ) → Row text start bytes → IsCharBoundary text start
Row-start_boundary text start bytes row =
    IsCharBoundary-from_drop text start (omega (arith, row.sizes)) (rw row.splits (IsUtf8-append bytes row.after row.utf8_content row.utf8_after))

-- the text may be cut behind the first `n` bytes of a row's content, if the rest of the content is text
pub Row-boundary : (text : List ℕ) (start : ℕ) (bytes : List ℕ) (n : ℕ) → Row text start bytes → n ≤ length bytes → IsUtf8 (drop n bytes) → IsCharBoundary text (start + n)
Row-boundary text start bytes n row h behind =
    let cut : drop (start + n) text ≡ drop n bytes ++ row.after =
    sym (drop-drop n start text) ∙ (ap (drop n) row.splits ∙ drop-append-le n bytes row.after h) in
    IsCharBoundary-from_drop text (start + n) (omega (arith, row.sizes)) (rw cut (IsUtf8-append (drop n bytes) row.after behind row.utf8_after))

pub Row-end_boundary : (text : List ℕ) (start : ℕ) (bytes : List ℕ) → Row text start bytes → IsCharBoundary text (start + length bytes)
Row-end_boundary text start bytes row = Row-boundary text start bytes (length bytes) row (omega arith) (rw (drop_all (length bytes) bytes (omega arith)) IsUtf8-nil)

-- the row's content is the slice between
pub Row-slice : (text : List ℕ) (start : ℕ) (bytes : List ℕ) → Row text start bytes → take (start + length bytes - start) (drop start text) ≡ bytes
Row-slice text start bytes row =
    let size : start + length bytes - start ≡ length bytes = omega arith in
    rw (size, row.splits) (take_at bytes row.after (length bytes) refl)

-- a boundary of the text, seen from the row
pub Row-inner_boundary : (text : List ℕ) (start : ℕ) (bytes : List ℕ) (offset : ℕ) → Row text start bytes → start ≤ offset → IsCharBoundary text offset →
    IsCharBoundary bytes (min (length bytes) (offset - start))
Row-inner_boundary text start bytes offset row h boundary = elim (cases_lt (offset - start) (length bytes)) [
  | inl inside ↦
      let n = offset - start in
      let least : min (length bytes) n ≡ n = omega arith in
      let far : start + n ≡ offset = omega arith in
      let same : get_or bytes n 0 ≡ get_or text offset 0 =
      sym (get_or_append_left bytes row.after 0 n inside) ∙ (ap (λ xs. get_or xs n 0) (sym row.splits) ∙ rw far at (get_or-drop start text n 0)) in
      rw least (omega arith, rw same (λ l. boundary.1 (omega (arith, row.sizes))))
  | inr outside ↦
      let least : min (length bytes) (offset - start) ≡ length bytes = omega arith in
      rw least (IsCharBoundary-end bytes)
]

-- the offset of a position is a place where the text may be cut
pub offset_of-boundary : (encoding : Encoding) (text : List ℕ) (position : Position) → IsUtf8 text → IsCharBoundary text (offset_of encoding text position)
offset_of-boundary encoding text position utf8 = elim (cases_lt position.line (length (index_of text))) [
  | inl some_line ↦
      let bytes = line_content text position.line in
      let row = row_at text position.line utf8 some_line in
      rw (offset_of-row encoding text position some_line)
      (Row-boundary text (line_start text position.line) bytes (bytes_within encoding position.character bytes) row (bytes_within-le encoding position.character bytes row.utf8_content) (IsUtf8-drop_within encoding position.character bytes row.utf8_content))
  | inr past ↦ rw (offset_of-past encoding text position past) (IsCharBoundary-end text)
]
