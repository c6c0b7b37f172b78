-- What the code reads of an index, as the lines, offsets and positions of the text.
use Rattle.std.proofs.Common.{◌≡◌, ℕ, suc, ◌+◌, ◌-◌, ◌<◌, ◌≤◌, ◌&&◌, cond, eqb, ltb, List, length, get_or, take, min, refl, ap, sym, ◌∙◌, arith, add-one}
use Rattle.std.proofs.lemmas.List.{take_min}
use Rattle.std.specs.Bool.{IsTrue}
use Rattle.std.specs.List.{prefix_len}
use Rattle.std.specs.Str.{IsAscii, IsUtf8, IsCharBoundary}
use Rattle.lam_text.specs.declared.units.Encoding.{Encoding}
use Rattle.lam_text.specs.declared.places.Position.{Position}
use Rattle.lam_text.specs.declared.index.Mark.{Mark}
use Rattle.lam_text.specs.Units.{units_in, bytes_within}
use Rattle.lam_text.specs.Lines.{LineEnd, CrLf, Lf, Cr, end_bytes}
use Rattle.lam_text.specs.Positions.{offset_of, position_of}
use Rattle.lam_text.specs.inner.Index.{all_ascii, index_of}
use Rattle.lam_text.specs.inner.Search.{starts_by}
use Rattle.lam_text.specs.inner.Rows.{line_start, line_content}
use Rattle.lam_text.proofs.Splices.{IsAscii-from_all_ascii}
use Rattle.lam_text.proofs.RowLemmas.{Row, EndedRow, get_or-index, row_at, ended_row_at, last_row, before_end-is, Row-inner_boundary, offset_of-row, offset_of-past, position_of-row}

pub some_end : (ending : LineEnd) → 1 ≤ length (end_bytes ending)
some_end CrLf = omega arith
some_end Lf = omega arith
some_end Cr = omega arith

module _ (text : List ℕ) (marks : List Mark) (index : marks ≡ index_of text) where
  pub read_row : (n : ℕ) (d : Mark) → n < length marks → get_or marks n d ≡ record { start = line_start text n; ascii = all_ascii (line_content text n) }
  read_row n d h = rw index (get_or-index text n d (rw index at h))

  pub read_start : (n : ℕ) (d : Mark) → n < length marks → (get_or marks n d).start ≡ line_start text n
  read_start n d h = ap (λ (mark : Mark). mark.start) (read_row n d h)

  pub read_ascii : (n : ℕ) (d : Mark) → n < length marks → IsTrue (get_or marks n d).ascii → IsAscii (line_content text n)
  read_ascii n d h ascii = IsAscii-from_all_ascii (line_content text n) (rw (read_row n d h) at ascii)

  ended_row : (n : ℕ) → n + 1 < length marks → EndedRow text (line_start text n) (line_content text n) (line_start text (suc n))
  ended_row n h = ended_row_at text n (rw index at h)

  pub next_start-bounds : (n : ℕ) (d : Mark) → n + 1 < length marks → (1 ≤ (get_or marks (n + 1) d).start) × ((get_or marks (n + 1) d).start - 1 < length text)
  next_start-bounds n d h =
      let row = ended_row n h in
      rw (read_start (n + 1) d h, add-one n) (omega (arith, row.next_is, some_end row.ending), omega (arith, row.within, row.next_is, some_end row.ending))

  pub content_end-last : (n : ℕ) → n + 1 ≡ length marks → length text ≡ line_start text n + length (line_content text n)
  content_end-last n h = sym (last_row text n (h ∙ ap length index))

  pub content_end-ended : (n : ℕ) (d e : Mark) (r : ℕ) → n + 1 < length marks →
      (let start = (get_or marks n d).start in
      let last = (get_or marks (n + 1) e).start - 1 in
      r ≡ cond (eqb (get_or text last 0) 10 && (ltb start last && eqb (get_or text (last - 1) 0) 13)) (last - 1) last) →
      r ≡ line_start text n + length (line_content text n)
  content_end-ended n d e r h is =
      let row = ended_row n h in
      let found = rw (read_start n d (omega arith), read_start (n + 1) e h, add-one n) at is in
      found ∙ before_end-is text (line_content text n) (line_start text n) (line_start text (suc n)) row.ending row.after row.plain row.splits row.next_is

  pub read_row_at : (n : ℕ) → IsUtf8 text → n < length marks → Row text (line_start text n) (line_content text n)
  read_row_at n utf8 h = row_at text n utf8 (rw index at h)

  pub read_offset : (encoding : Encoding) (position : Position) (d : Mark) (line : List ℕ) (k : ℕ) → position.line < length marks →
      line ≡ line_content text position.line → k ≡ bytes_within encoding position.character line →
      (get_or marks position.line d).start + k ≡ offset_of encoding text position
  read_offset encoding position d line k h line_is k_is =
      rw (read_start position.line d h, k_is, line_is) (sym (offset_of-row encoding text position (rw index at h)))

  pub read_past : (encoding : Encoding) (position : Position) → length marks ≤ position.line → length text ≡ offset_of encoding text position
  read_past encoding position h = sym (offset_of-past encoding text position (rw index at h))

  pub read_before : (encoding : Encoding) (offset n : ℕ) (d : Mark) → n < length marks → n + 1 ≡ prefix_len (starts_by offset) marks → (get_or marks n d).start ≤ offset
  read_before encoding offset n d h is = rw (read_start n d h) (position_of-row encoding text offset n (rw index at is)).1

  pub read_position : (encoding : Encoding) (offset n : ℕ) (d : Mark) (line front : List ℕ) (u : ℕ) → n < length marks → n + 1 ≡ prefix_len (starts_by offset) marks →
      line ≡ line_content text n → front ≡ take (min (length line) (offset - (get_or marks n d).start)) line → u ≡ units_in encoding front →
      (let position : Position = record { line = n; character = u } in position) ≡ position_of encoding text offset
  read_position encoding offset n d line front u h is line_is front_is u_is =
      let bytes = line_content text n in
      let room = offset - line_start text n in
      let least : min (length bytes) room ≡ min room (length bytes) = omega arith in
      let cut : front ≡ take room bytes = rw (line_is, read_start n d h) at front_is ∙ rw (least, take_min room bytes) refl in
      rw (u_is, cut) (sym (position_of-row encoding text offset n (rw index at is)).0)

  pub read_boundary : (offset n : ℕ) (d : Mark) (line : List ℕ) → IsUtf8 text → IsCharBoundary text offset → n < length marks → (get_or marks n d).start ≤ offset →
      line ≡ line_content text n → IsCharBoundary line (min (length line) (offset - (get_or marks n d).start))
  read_boundary offset n d line utf8 boundary h before line_is =
      rw (line_is, read_start n d h)
      (Row-inner_boundary text (line_start text n) (line_content text n) offset (read_row_at n utf8 h) (rw (read_start n d h) at before) boundary)
