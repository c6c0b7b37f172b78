-- A walk along the characters of a line, and along a line that is all ASCII.
use Rattle.std.proofs.Common.{◌≡◌, ℕ, zero, suc, ◌+◌, ◌-◌, ◌<◌, ◌≤◌, true, cond, leb, ltb, List, [], ◌∷◌, ◌++◌, length, get_or, drop, min, refl, ap, sym, ◌∙◌, inl, inr, arith}
use Rattle.std.proofs.lemmas.Bool.{cases_Bool, le-leb, lt-leb, le-ltb, ltb-false, and_parts}
use Rattle.std.proofs.lemmas.List.{length-append, drop_more, drop-drop, drop_at}
use Rattle.std.proofs.lemmas.List.Sums.{sum_by-cons}
use Rattle.std.proofs.lemmas.Str.{length-encode, len_utf8_bounds, len_utf8_ascii, encodes-chars, chars-IsAscii, scalars-chars, IsUtf8-nil}
use lib.Utf8.{scalar}
use Rattle.std.specs.Char.{len_utf8, encode_utf8}
use Rattle.std.specs.Str.{chars, encode_utf8_all, all_scalars, IsUtf8, IsAscii}
use Rattle.lam_text.specs.declared.units.Encoding.{Encoding}
use Rattle.lam_text.specs.declared.units.Encoding.TheVariants.{Utf8, Utf16, Utf32}
use Rattle.lam_text.specs.Units.{units_of, units, units_in, front_within, bytes_within}

utf16-bounds : (c : ℕ) → (1 ≤ cond (ltb c 0x1_0000) 1 2) × (cond (ltb c 0x1_0000) 1 2 ≤ len_utf8 c)
utf16-bounds c = elim (cases_Bool (ltb c 0x1_0000)) [
  | inl low ↦ rw low (omega arith, rw low at (len_utf8_bounds c).0)
  | inr high ↦
      let far = ltb-false c 0x1_0000 high in
      rw (high, le-ltb c 0x80 (omega arith), le-ltb c 0x800 (omega arith)) (omega arith, omega arith)
]

-- a character has at least one unit, and at most one for each of its bytes
pub units_of-bounds : (encoding : Encoding) (c : ℕ) → (1 ≤ units_of encoding c) × (units_of encoding c ≤ len_utf8 c)
units_of-bounds Utf8 c = ((len_utf8_bounds c).0, omega arith)
units_of-bounds Utf16 c = utf16-bounds c
units_of-bounds Utf32 c = (omega arith, (len_utf8_bounds c).0)

pub units-cons : (encoding : Encoding) (c : ℕ) (cs : List ℕ) → units encoding (c ∷ cs) ≡ units_of encoding c + units encoding cs
units-cons encoding c cs = sum_by-cons (units_of encoding) c cs

-- ---- a walk that has come to the character number `n`

pub units-drop : (encoding : Encoding) (cs : List ℕ) (n c : ℕ) → (n < length cs) × (c ≡ get_or cs n c) → units encoding (drop n cs) ≡ units_of encoding c + units encoding (drop (n + 1) cs)
units-drop encoding cs n c h = ap (units encoding) (drop_more cs n c h.0 ∙ ap (λ x. x ∷ drop (n + 1) cs) (sym h.1)) ∙ units-cons encoding c (drop (n + 1) cs)

pub units-le-length : (encoding : Encoding) (cs : List ℕ) → units encoding cs ≤ length (encode_utf8_all cs)
units-le-length encoding [] = omega arith
units-le-length encoding (c ∷ cs) =
    omega (arith, units-cons encoding c cs, (units_of-bounds encoding c).1, units-le-length encoding cs, length-append (encode_utf8 c) (encode_utf8_all cs), length-encode c)

-- the bytes of a front
abbrev pub front_bytes : Encoding → ℕ → List ℕ → ℕ
front_bytes encoding room cs = length (encode_utf8_all (front_within encoding room cs))

pub front_bytes-stops : (encoding : Encoding) (room : ℕ) (cs : List ℕ) (n c : ℕ) → (n < length cs) × (c ≡ get_or cs n c) → room < units_of encoding c → front_bytes encoding room (drop n cs) ≡ 0
front_bytes-stops encoding room cs n c h small =
    ap (front_bytes encoding room) (drop_more cs n c h.0 ∙ ap (λ x. x ∷ drop (n + 1) cs) (sym h.1)) ∙ rw (lt-leb (units_of encoding c) room small) refl

pub front_bytes-goes_on : (encoding : Encoding) (room : ℕ) (cs : List ℕ) (n c : ℕ) → (n < length cs) × (c ≡ get_or cs n c) → units_of encoding c ≤ room →
    front_bytes encoding room (drop n cs) ≡ len_utf8 c + front_bytes encoding (room - units_of encoding c) (drop (n + 1) cs)
front_bytes-goes_on encoding room cs n c h fits =
    ap (front_bytes encoding room) (drop_more cs n c h.0 ∙ ap (λ x. x ∷ drop (n + 1) cs) (sym h.1))
    ∙ rw (le-leb (units_of encoding c) room fits, length-append (encode_utf8 c) (encode_utf8_all (front_within encoding (room - units_of encoding c) (drop (n + 1) cs))), length-encode c) refl

-- a front is no longer than the whole
pub front_bytes-le : (encoding : Encoding) (room : ℕ) (cs : List ℕ) → front_bytes encoding room cs ≤ length (encode_utf8_all cs)
front_bytes-le encoding room [] = omega arith
front_bytes-le encoding room (c ∷ cs) = elim (cases_Bool (leb (units_of encoding c) room)) [
  | inl fits ↦
      rw (fits, length-append (encode_utf8 c) (encode_utf8_all (front_within encoding (room - units_of encoding c) cs)), length-append (encode_utf8 c) (encode_utf8_all cs))
      (omega (arith, front_bytes-le encoding (room - units_of encoding c) cs))
  | inr small ↦ rw small (omega arith)
]

-- ---- ASCII

pub units-ascii : (encoding : Encoding) (cs : List ℕ) → IsAscii cs → units encoding cs ≡ length cs
units-ascii encoding [] h = refl
units-ascii encoding (c ∷ cs) h =
    omega (arith, units-cons encoding c cs, units-ascii encoding cs (λ i. h (suc i)), (units_of-bounds encoding c).0, (units_of-bounds encoding c).1, len_utf8_ascii c (h 0))

units_of-ascii : (encoding : Encoding) (c : ℕ) → c < 128 → units_of encoding c ≡ 1
units_of-ascii encoding c h = omega (arith, (units_of-bounds encoding c).0, (units_of-bounds encoding c).1, len_utf8_ascii c h)

front_bytes-ascii : (encoding : Encoding) (room : ℕ) (cs : List ℕ) → IsAscii cs → front_bytes encoding room cs ≡ min room (length cs)
front_bytes-ascii encoding room [] h = omega arith
front_bytes-ascii encoding zero (c ∷ cs) h = rw (units_of-ascii encoding c (h 0)) (omega arith)
front_bytes-ascii encoding (suc room) (c ∷ cs) h =
    let one = units_of-ascii encoding c (h 0) in
    let rest = front_bytes-ascii encoding room cs (λ i. h (suc i)) in
    let less : suc room - 1 ≡ room = omega arith in
    rw (one, le-leb 1 (suc room) (omega arith), less, length-append (encode_utf8 c) (encode_utf8_all (front_within encoding room cs)), length-encode c, len_utf8_ascii c (h 0), rest) (omega arith)

pub units_in-ascii : (encoding : Encoding) (bytes : List ℕ) → IsAscii bytes → units_in encoding bytes ≡ length bytes
units_in-ascii encoding bytes h = rw (chars-IsAscii bytes h) (units-ascii encoding bytes h)

pub bytes_within-ascii : (encoding : Encoding) (room : ℕ) (bytes : List ℕ) → IsAscii bytes → bytes_within encoding room bytes ≡ min room (length bytes)
bytes_within-ascii encoding room bytes h = rw (chars-IsAscii bytes h) (front_bytes-ascii encoding room bytes h)

-- ---- a front is a front of the text

scalars_parts : (c : ℕ) (cs : List ℕ) → all_scalars (c ∷ cs) ≡ true → (scalar c ≡ true) × (all_scalars cs ≡ true)
scalars_parts c cs h = and_parts (scalar c) (all_scalars cs) h

-- what is behind a front is text too
IsUtf8-behind : (encoding : Encoding) (room : ℕ) (cs : List ℕ) → all_scalars cs ≡ true → IsUtf8 (drop (front_bytes encoding room cs) (encode_utf8_all cs))
IsUtf8-behind encoding room [] h = IsUtf8-nil
IsUtf8-behind encoding room (c ∷ cs) h = elim (cases_Bool (leb (units_of encoding c) room)) [
  | inl fits ↦
      let rest = room - units_of encoding c in
      let front = encode_utf8_all (front_within encoding rest cs) in
      let size : length (encode_utf8 c ++ front) ≡ length (encode_utf8 c) + length front = length-append (encode_utf8 c) front in
      let behind : drop (length (encode_utf8 c) + length front) (encode_utf8 c ++ encode_utf8_all cs) ≡ drop (length front) (encode_utf8_all cs) =
      sym (drop-drop (length front) (length (encode_utf8 c)) (encode_utf8 c ++ encode_utf8_all cs)) ∙ ap (drop (length front)) (drop_at (encode_utf8 c) (encode_utf8_all cs) (length (encode_utf8 c)) refl) in
      rw (fits, size, behind) (IsUtf8-behind encoding rest cs (scalars_parts c cs h).1)
  | inr small ↦ rw small (c ∷ cs, (h, refl))
]

pub IsUtf8-drop_within : (encoding : Encoding) (room : ℕ) (line : List ℕ) → IsUtf8 line → IsUtf8 (drop (bytes_within encoding room line) line)
IsUtf8-drop_within encoding room line utf8 =
    let behind = IsUtf8-behind encoding room (chars line) (scalars-chars line utf8) in
    rw (encodes-chars line utf8) at behind

pub bytes_within-le : (encoding : Encoding) (room : ℕ) (line : List ℕ) → IsUtf8 line → bytes_within encoding room line ≤ length line
bytes_within-le encoding room line utf8 = rw (encodes-chars line utf8) at (front_bytes-le encoding room (chars line))
