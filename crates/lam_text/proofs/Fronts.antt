-- The position of a place in a text depends only on the text in front of it, and means that place in each text that begins in the same way.
use Rattle.std.proofs.Common.{◌≡◌, ℕ, ◌+◌, ◌-◌, true, false, ltb, List, [], ◌∷◌, ◌++◌, length, take, refl, ap, sym, ◌∙◌, subst, arith, add-one}
use Rattle.std.specs.List.{list_all}
use Rattle.std.specs.Str.{chars, IsUtf8}
use Rattle.std.proofs.lemmas.Bool.{lt-ltb, le-ltb, and_from}
use Rattle.std.proofs.lemmas.List.{length-append, append_assoc, take_at}
use Rattle.std.proofs.lemmas.List.Folds.{list_all-append}
use Rattle.std.proofs.lemmas.Str.{chars-append, encodes-chars}
use Rattle.lam_text.specs.declared.units.Encoding.{Encoding}
use Rattle.lam_text.specs.declared.places.Position.{Position}
use Rattle.lam_text.specs.Units.{units_in, bytes_within}
use Rattle.lam_text.specs.Lines.{Line, Ended, LineEnd, CrLf, Lf, Cr, Lines, Cut, end_bytes, is_plain, IsPlain, EndStands, Spell, IsCutOf, begins_with_lf, lines_of}
use Rattle.lam_text.specs.Positions.{offset_in, offset_on, offset_of, position_in, position_on, position_of}
use Rattle.lam_text.proofs.Cuts.{EndStands-from, IsCutOf-lines_of, lines_of-only}
use Rattle.lam_text.proofs.RowLemmas.{length-line_bytes, IsUtf8-around}
use Rattle.lam_text.proofs.Lookups.{some_end}
use Rattle.lam_text.proofs.LawLemmas.{front_within-units}

-- if a front of a text ends in a CR, no LF follows
abbrev pub NoLfAfterCr : (front after : List ℕ) → Type 0
NoLfAfterCr front after = (ahead : List ℕ) → front ≡ ahead ++ 13 ∷ [] → begins_with_lf after ≡ false

-- ---- the lines of a text that goes on behind a front

-- the first line with these bytes in front of it
abbrev behind : List ℕ → Lines → Lines
behind bytes (Cut [] last) = Cut [] (bytes ++ last)
behind bytes (Cut (Ended first ending ∷ lines) last) = Cut (Ended (bytes ++ first) ending ∷ lines) last

plain_both : (xs ys : List ℕ) → IsPlain xs → IsPlain ys → IsPlain (xs ++ ys)
plain_both xs ys first last = list_all-append is_plain xs ys ∙ and_from (list_all is_plain xs) (list_all is_plain ys) first last

behind_cut : (bytes after : List ℕ) (lines : Lines) → IsPlain bytes → IsCutOf after lines → IsCutOf (bytes ++ after) (behind bytes lines)
behind_cut bytes after (Cut [] last) plain cut = (ap (λ l. bytes ++ l) cut.0, plain_both bytes last plain cut.1)
behind_cut bytes after (Cut (Ended first ending ∷ lines) last) plain cut =
    (cut.0, ap (λ l. bytes ++ l) cut.1 ∙ sym (append_assoc bytes first (end_bytes ending ++ cut.0)), plain_both bytes first plain cut.2, cut.3, cut.4)

end_stands : (ending : LineEnd) (front after : List ℕ) → EndStands ending front → (ending ≡ Cr → front ≡ [] → begins_with_lf after ≡ false) → EndStands ending (front ++ after)
end_stands CrLf front after stands no_lf = tt
end_stands Lf front after stands no_lf = tt
end_stands Cr [] after stands no_lf = EndStands-from after (no_lf refl refl)
end_stands Cr (b ∷ front) after stands no_lf = stands

-- a front that begins with a line, and what is left of it
joined_line : (bytes : List ℕ) (ending : LineEnd) (front more : List ℕ) → (bytes ++ (end_bytes ending ++ front)) ++ more ≡ bytes ++ (end_bytes ending ++ (front ++ more))
joined_line bytes ending front more =
    append_assoc bytes (end_bytes ending ++ front) more ∙ ap (λ l. bytes ++ l) (append_assoc (end_bytes ending) front more)

-- if the front is one line that a CR ends, no LF follows
no_lf_at_end : (bytes : List ℕ) (ending : LineEnd) (front rest after : List ℕ) → front ≡ bytes ++ (end_bytes ending ++ rest) → NoLfAfterCr front after → ending ≡ Cr → rest ≡ [] → begins_with_lf after ≡ false
no_lf_at_end bytes ending front rest after splits no_lf is none = no_lf bytes (splits ∙ (λ i. bytes ++ (end_bytes (is i) ++ none i)))

no_lf_later : (bytes : List ℕ) (ending : LineEnd) (front rest after : List ℕ) → front ≡ bytes ++ (end_bytes ending ++ rest) → NoLfAfterCr front after → NoLfAfterCr rest after
no_lf_later bytes ending front rest after splits no_lf ahead e =
    no_lf (bytes ++ (end_bytes ending ++ ahead)) (splits ∙ ap (λ l. bytes ++ (end_bytes ending ++ l)) e ∙ sym (joined_line bytes ending ahead (13 ∷ [])))

joined_spell : (lines more : List Line) (last end front after : List ℕ) → Spell lines last front → NoLfAfterCr front after → Spell more end (last ++ after) → Spell (lines ++ more) end (front ++ after)
joined_spell [] more last end front after spell no_lf rest = subst (λ l. Spell more end (l ++ after)) (sym spell.0) rest
joined_spell (Ended bytes ending ∷ lines) more last end front after spell no_lf rest = (
  spell.0 ++ after,
  ap (λ l. l ++ after) spell.1 ∙ joined_line bytes ending spell.0 after,
  spell.2,
  end_stands ending spell.0 after spell.3 (no_lf_at_end bytes ending front spell.0 after spell.1 no_lf),
  joined_spell lines more last end spell.0 after spell.4 (no_lf_later bytes ending front spell.0 after spell.1 no_lf) rest,
)

last_plain : (lines : List Line) (last front : List ℕ) → Spell lines last front → IsPlain last
last_plain [] last front spell = spell.1
last_plain (Ended bytes ending ∷ lines) last front spell = last_plain lines last spell.0 spell.4

last_utf8 : (lines : List Line) (last front : List ℕ) → Spell lines last front → IsUtf8 front → IsUtf8 last
last_utf8 [] last front spell utf8 = subst IsUtf8 spell.0 utf8
last_utf8 (Ended bytes ending ∷ lines) last front spell utf8 =
    last_utf8 lines last spell.0 spell.4 (IsUtf8-around bytes ending spell.0 (subst IsUtf8 spell.1 utf8)).1.1

-- ---- the position behind a front

-- a place in the first line
abbrev in_first : Encoding → List ℕ → Position
in_first encoding bytes = record { line = 0; character = units_in encoding bytes }

units_of_front : (encoding : Encoding) (bytes more : List ℕ) → units_in encoding (take (length bytes) (bytes ++ more)) ≡ units_in encoding bytes
units_of_front encoding bytes more = ap (units_in encoding) (take_at bytes more (length bytes) refl)

behind_position : (encoding : Encoding) (bytes : List ℕ) (lines : Lines) → position_on encoding (behind bytes lines) (length bytes) ≡ in_first encoding bytes
behind_position encoding bytes (Cut [] last) = rw (units_of_front encoding bytes last) refl
behind_position encoding bytes (Cut (Ended first ending ∷ lines) last) =
    let line = bytes ++ first in
    let inside : ltb (length bytes) (length (line ++ end_bytes ending)) ≡ true =
    lt-ltb (length bytes) (length (line ++ end_bytes ending)) (omega (arith, length-append line (end_bytes ending), length-append bytes first, some_end ending)) in
    rw (inside, units_of_front encoding bytes first) refl

lines_down : (encoding : Encoding) (lines more : List Line) (last end front : List ℕ) (character : ℕ) → Spell lines last front
    → position_in encoding more end (length last) ≡ record { line = 0; character = character }
    → position_in encoding (lines ++ more) end (length front) ≡ record { line = length lines; character = character }
lines_down encoding [] more last end front character spell here = ap (λ l. position_in encoding more end (length l)) spell.0 ∙ here
lines_down encoding (Ended bytes ending ∷ lines) more last end front character spell here =
    let size = length (bytes ++ end_bytes ending) in
    let long : length front ≡ size + length spell.0 = ap length spell.1 ∙ length-line_bytes bytes ending spell.0 in
    let below : ltb (length front) size ≡ false = le-ltb (length front) size (omega arith) in
    let left : length front - size ≡ length spell.0 = omega arith in
    let rest = lines_down encoding lines more last end spell.0 character spell.4 here in
    rw (below, left, rest, add-one (length lines)) refl

-- ---- and back

front_within_line : (encoding : Encoding) (bytes more : List ℕ) → IsUtf8 bytes → bytes_within encoding (units_in encoding bytes) (bytes ++ more) ≡ length bytes
front_within_line encoding bytes more utf8 = rw (chars-append bytes more utf8, front_within-units encoding (chars bytes) (chars more), encodes-chars bytes utf8) refl

behind_offset : (encoding : Encoding) (bytes : List ℕ) (lines : Lines) → IsUtf8 bytes → offset_on encoding (behind bytes lines) (in_first encoding bytes) ≡ length bytes
behind_offset encoding bytes (Cut [] last) utf8 = front_within_line encoding bytes last utf8
behind_offset encoding bytes (Cut (Ended first ending ∷ lines) last) utf8 = front_within_line encoding bytes first utf8

lines_sum : (encoding : Encoding) (lines more : List Line) (last end front : List ℕ) (character : ℕ) → Spell lines last front
    → offset_in encoding more end 0 character ≡ length last
    → offset_in encoding (lines ++ more) end (length lines) character ≡ length front
lines_sum encoding [] more last end front character spell here = here ∙ ap length (sym spell.0)
lines_sum encoding (Ended bytes ending ∷ lines) more last end front character spell here =
    omega (arith, lines_sum encoding lines more last end spell.0 character spell.4 here, ap length spell.1, length-line_bytes bytes ending spell.0)

-- ---- both

module _ (encoding : Encoding) (lines : List Line) (last front : List ℕ) (spell : Spell lines last front) where
  -- the position behind the front, whatever follows
  abbrev end_of_front : Position
  end_of_front = record { line = length lines; character = units_in encoding last }

  position_behind : (after : List ℕ) → NoLfAfterCr front after → position_of encoding (front ++ after) (length front) ≡ end_of_front
  unfolding position_of
  position_behind after no_lf = go (behind last (lines_of after)) (behind_cut last after (lines_of after) (last_plain lines last front spell) (IsCutOf-lines_of after)) (behind_position encoding last (lines_of after))
    where
      go : (others : Lines) → IsCutOf (last ++ after) others → position_on encoding others (length last) ≡ in_first encoding last → position_on encoding (lines_of (front ++ after)) (length front) ≡ end_of_front
      go (Cut more end) cut here =
          ap (λ ls. position_on encoding ls (length front)) (sym (lines_of-only (front ++ after) (Cut (lines ++ more) end) (joined_spell lines more last end front after spell no_lf cut)))
          ∙ lines_down encoding lines more last end front (units_in encoding last) spell here

  offset_behind : (after : List ℕ) → IsUtf8 front → NoLfAfterCr front after → offset_of encoding (front ++ after) end_of_front ≡ length front
  unfolding offset_of
  offset_behind after utf8 no_lf =
      go (behind last (lines_of after)) (behind_cut last after (lines_of after) (last_plain lines last front spell) (IsCutOf-lines_of after))
      (behind_offset encoding last (lines_of after) (last_utf8 lines last front spell utf8))
    where
      go : (others : Lines) → IsCutOf (last ++ after) others → offset_on encoding others (in_first encoding last) ≡ length last → offset_on encoding (lines_of (front ++ after)) end_of_front ≡ length front
      go (Cut more end) cut here =
          ap (λ ls. offset_on encoding ls end_of_front) (sym (lines_of-only (front ++ after) (Cut (lines ++ more) end) (joined_spell lines more last end front after spell no_lf cut)))
          ∙ lines_sum encoding lines more last end front (units_in encoding last) spell here

-- and this position means the place behind the front in each text that begins with it
pub comes_back_to_front : (encoding : Encoding) (front after other : List ℕ) → IsUtf8 front → NoLfAfterCr front after → NoLfAfterCr front other
    → offset_of encoding (front ++ other) (position_of encoding (front ++ after) (length front)) ≡ length front
comes_back_to_front encoding front after other utf8 no_lf no_other = go (lines_of front) (IsCutOf-lines_of front)
  where
    go : (lines : Lines) → IsCutOf front lines → offset_of encoding (front ++ other) (position_of encoding (front ++ after) (length front)) ≡ length front
    go (Cut lines last) cut =
        ap (offset_of encoding (front ++ other)) (position_behind encoding lines last front cut after no_lf)
        ∙ offset_behind encoding lines last front cut other utf8 no_other
