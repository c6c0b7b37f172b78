-- The lines of a text are a cut of it, and its only one.
use Rattle.std.proofs.Common.{◌≡◌, ℕ, true, false, ◌||◌, eqb, List, [], ◌∷◌, ◌++◌, drop, refl, ap, sym, ◌∙◌, inl, inr}
use Rattle.std.proofs.lemmas.Bool.{cases_Bool, eqb-true, eqb-false, and_parts, ne_eqb, or_parts, not-true}
use Rattle.std.specs.List.{list_all}
use Rattle.lam_text.specs.Lines.{Line, Ended, LineEnd, CrLf, Lf, Cr, Lines, Cut, end_bytes, IsPlain, is_plain, EndStands, Spell, IsCutOf, begins_with_lf, with_line, with_byte, with_cr, lines_of}

-- ---- the lines of a text by its first byte

pub lines_of-lf : (b : ℕ) (bytes : List ℕ) → eqb b 10 ≡ true → lines_of (b ∷ bytes) ≡ with_line (Ended [] Lf) (lines_of bytes)
unfolding lines_of
lines_of-lf b bytes lf = rw lf refl

pub lines_of-cr_lf : (b : ℕ) (bytes : List ℕ) → eqb b 10 ≡ false → eqb b 13 ≡ true → begins_with_lf bytes ≡ true → lines_of (b ∷ bytes) ≡ with_cr (lines_of bytes)
unfolding lines_of
lines_of-cr_lf b bytes not_lf cr lf = rw (not_lf, cr, lf) refl

pub lines_of-cr : (b : ℕ) (bytes : List ℕ) → eqb b 10 ≡ false → eqb b 13 ≡ true → begins_with_lf bytes ≡ false → lines_of (b ∷ bytes) ≡ with_line (Ended [] Cr) (lines_of bytes)
unfolding lines_of
lines_of-cr b bytes not_lf cr no_lf = rw (not_lf, cr, no_lf) refl

pub lines_of-plain : (b : ℕ) (bytes : List ℕ) → eqb b 10 ≡ false → eqb b 13 ≡ false → lines_of (b ∷ bytes) ≡ with_byte b (lines_of bytes)
unfolding lines_of
lines_of-plain b bytes not_lf not_cr = rw (not_lf, not_cr) refl

-- a text that begins with an LF begins with an empty line
pub lines_of-begins_with_lf : (bytes : List ℕ) → begins_with_lf bytes ≡ true → lines_of bytes ≡ with_line (Ended [] Lf) (lines_of (drop 1 bytes))
lines_of-begins_with_lf [] lf = cc
lines_of-begins_with_lf (b ∷ bytes) lf = lines_of-lf b bytes lf

-- ---- each text is cut into its lines

pub EndStands-from : (bytes : List ℕ) → begins_with_lf bytes ≡ false → EndStands Cr bytes
EndStands-from [] no_lf = tt
EndStands-from (b ∷ bytes) no_lf = eqb-false b 10 no_lf

IsCutOf-line : (ending : LineEnd) (after : List ℕ) (lines : Lines) → EndStands ending after → IsCutOf after lines →
    IsCutOf (end_bytes ending ++ after) (with_line (Ended [] ending) lines)
IsCutOf-line ending after (Cut lines last) stands cut = (after, refl, refl, stands, cut)

IsCutOf-cr : (bytes : List ℕ) (lines : Lines) → IsCutOf bytes (with_line (Ended [] Lf) lines) → IsCutOf (13 ∷ bytes) (with_cr (with_line (Ended [] Lf) lines))
IsCutOf-cr bytes (Cut lines last) cut = (cut.0, ap (λ more. 13 ∷ more) cut.1, refl, tt, cut.4)

IsCutOf-byte : (b : ℕ) (bytes : List ℕ) (lines : Lines) → is_plain b ≡ true → IsCutOf bytes lines → IsCutOf (b ∷ bytes) (with_byte b lines)
IsCutOf-byte b bytes (Cut [] last) plain cut = (ap (λ more. b ∷ more) cut.0, rw plain cut.1)
IsCutOf-byte b bytes (Cut (Ended front ending ∷ lines) last) plain cut = (cut.0, ap (λ more. b ∷ more) cut.1, rw plain cut.2, cut.3, cut.4)

is_plain-from : (b : ℕ) → eqb b 10 ≡ false → eqb b 13 ≡ false → is_plain b ≡ true
is_plain-from b not_lf not_cr = rw (not_cr, not_lf) refl

pub IsCutOf-lines_of : (text : List ℕ) → IsCutOf text (lines_of text)
unfolding lines_of
IsCutOf-lines_of [] = (refl, refl)
IsCutOf-lines_of (b ∷ bytes) = elim (cases_Bool (eqb b 10)) [
  | inl lf ↦ rw (lines_of-lf b bytes lf, eqb-true b 10 lf) (IsCutOf-line Lf bytes (lines_of bytes) tt (IsCutOf-lines_of bytes))
  | inr not_lf ↦ elim (cases_Bool (eqb b 13)) [
    | inl cr ↦ elim (cases_Bool (begins_with_lf bytes)) [
      | inl lf ↦
          let cut = rw (lines_of-begins_with_lf bytes lf) at (IsCutOf-lines_of bytes) in
          rw (lines_of-cr_lf b bytes not_lf cr lf, lines_of-begins_with_lf bytes lf, eqb-true b 13 cr) (IsCutOf-cr bytes (lines_of (drop 1 bytes)) cut)
      | inr no_lf ↦ rw (lines_of-cr b bytes not_lf cr no_lf, eqb-true b 13 cr) (IsCutOf-line Cr bytes (lines_of bytes) (EndStands-from bytes no_lf) (IsCutOf-lines_of bytes))
    ]
    | inr not_cr ↦ rw (lines_of-plain b bytes not_lf not_cr) (IsCutOf-byte b bytes (lines_of bytes) (is_plain-from b not_lf not_cr) (IsCutOf-lines_of bytes))
  ]
]

-- ---- and in no other way

no_lf_from : (bytes : List ℕ) → EndStands Cr bytes → begins_with_lf bytes ≡ false
no_lf_from [] stands = refl
no_lf_from (b ∷ bytes) stands = ne_eqb b 10 stands

-- a plain byte is no line end
pub plain_tests : (b : ℕ) → is_plain b ≡ true → (eqb b 10 ≡ false) × (eqb b 13 ≡ false)
plain_tests b plain = let parts = or_parts (eqb b 13) (eqb b 10) (not-true (eqb b 13 || eqb b 10) plain) in (parts.1, parts.0)

lines_of-plain_front : (bytes more : List ℕ) (ending : LineEnd) (lines : List Line) (last : List ℕ) → IsPlain bytes →
    lines_of more ≡ Cut (Ended [] ending ∷ lines) last → lines_of (bytes ++ more) ≡ Cut (Ended bytes ending ∷ lines) last
lines_of-plain_front [] more ending lines last plain e = e
lines_of-plain_front (b ∷ bytes) more ending lines last plain e =
    let parts = and_parts (is_plain b) (list_all is_plain bytes) plain in
    let tests = plain_tests b parts.0 in
    lines_of-plain b (bytes ++ more) tests.0 tests.1 ∙ ap (with_byte b) (lines_of-plain_front bytes more ending lines last parts.1 e)

lines_of-last : (last : List ℕ) → IsPlain last → lines_of last ≡ Cut [] last
unfolding lines_of
lines_of-last [] plain = refl
lines_of-last (b ∷ last) plain =
    let parts = and_parts (is_plain b) (list_all is_plain last) plain in
    let tests = plain_tests b parts.0 in
    lines_of-plain b last tests.0 tests.1 ∙ ap (with_byte b) (lines_of-last last parts.1)

-- a line end and what follows it
lines_of-ended : (ending : LineEnd) (after : List ℕ) (lines : List Line) (last : List ℕ) → EndStands ending after → lines_of after ≡ Cut lines last →
    lines_of (end_bytes ending ++ after) ≡ Cut (Ended [] ending ∷ lines) last
lines_of-ended CrLf after lines last stands e =
    lines_of-cr_lf 13 (10 ∷ after) refl refl refl ∙ ap with_cr (lines_of-lf 10 after refl ∙ ap (with_line (Ended [] Lf)) e)
lines_of-ended Lf after lines last stands e = lines_of-lf 10 after refl ∙ ap (with_line (Ended [] Lf)) e
lines_of-ended Cr after lines last stands e = lines_of-cr 13 after refl refl (no_lf_from after stands) ∙ ap (with_line (Ended [] Cr)) e

lines_of-Spell : (lines : List Line) (last text : List ℕ) → Spell lines last text → lines_of text ≡ Cut lines last
lines_of-Spell [] last text spell = ap lines_of spell.0 ∙ lines_of-last last spell.1
lines_of-Spell (Ended bytes ending ∷ lines) last text spell =
    let rest = lines_of-Spell lines last spell.0 spell.4 in
    let here = lines_of-ended ending spell.0 lines last spell.3 rest in
    ap lines_of spell.1 ∙ lines_of-plain_front bytes (end_bytes ending ++ spell.0) ending lines last spell.2 here

pub lines_of-only : (text : List ℕ) (lines : Lines) → IsCutOf text lines → lines ≡ lines_of text
lines_of-only text (Cut lines last) spell = sym (lines_of-Spell lines last text spell)
