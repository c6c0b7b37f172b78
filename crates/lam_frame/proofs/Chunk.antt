-- The part of a chunk that is held, after bytes are dropped in front and added behind.
use Rattle.std.proofs.Common.{◌≡◌, ◌≤◌, length, take, drop, ℕ, suc, zero-add, ◌+◌, ◌-◌, List, [], ◌∷◌, ◌++◌, refl, sym, ap, ◌∙◌, arith, length-append, length-drop, length-take}
use Rattle.std.specs.List.{copy_within}
use Rattle.std.proofs.Math.Seq.{take-append_seam}
use Rattle.std.proofs.lemmas.List.{drop-take, drop-drop, take-append-le, take-take}
use borrow.Rule.Slice.PartMut.{put_mid}
use Rattle.std.proofs.lemmas.Slice.{take-put_mid}
use Rattle.std.proofs.lemmas.List.Edits.{length-paste}

pub dropped : (chunk : List ℕ) (start end count : ℕ) → start ≤ end → count ≤ end - start → take (end - (start + count)) (drop (start + count) chunk) ≡ drop count (take (end - start) (drop start chunk))
dropped chunk start end count h k =
    let size : count + (end - (start + count)) ≡ end - start = omega arith in
    ap (take (end - (start + count))) (sym (drop-drop count start chunk))
    ∙ sym (drop-take count (end - (start + count)) (drop start chunk))
    ∙ ap (λ (n : ℕ). drop count (take n (drop start chunk))) size

take_front : (front into : List ℕ) (n : ℕ) → n ≤ length into → take (length front + n) (front ++ into) ≡ front ++ take n into
take_front [] into n h = ap (λ (m : ℕ). take m into) (zero-add n)
take_front (b ∷ front) into n h =
    let size : suc (length front) + n ≡ suc (length front + n) = omega arith in
    ap (λ (m : ℕ). take m (b ∷ (front ++ into))) size ∙ ap (λ (l : List ℕ). b ∷ l) (take_front front into n h)

moved_front : (chunk : List ℕ) (start end : ℕ) → start ≤ end → end ≤ length chunk → take (end - start) (copy_within chunk start end 0) ≡ take (end - start) (drop start chunk)
moved_front chunk start end h k =
    let front = take (end - start) (drop start chunk) in
    let size : length front ≡ end - start = omega (arith, length-take (end - start) (drop start chunk), length-drop start chunk) in
    let behind = drop (0 + (end - start)) chunk in
    ap (λ (n : ℕ). take n (front ++ behind)) (sym size) ∙ take-append_seam front behind

pub length-moved : (chunk moved : List ℕ) (start end : ℕ) → start ≤ end → end ≤ length chunk → moved ≡ copy_within chunk start end 0 → length moved ≡ length chunk
length-moved chunk moved start end h k e =
    ap length e ∙ length-paste chunk 0 (drop start chunk) (end - start) (omega arith) (omega (arith, length-drop start chunk))

-- what is held after a pull into the room behind
pub pulled_behind : (chunk moved into held : List ℕ) (start end n m room : ℕ) → start ≤ end → end ≤ length chunk → moved ≡ copy_within chunk start end 0 → n ≤ length into
    → take (end - start) (drop start chunk) ≡ held → m ≡ end - start + n → (len : ℕ) (tail : List ℕ) → m ≤ len → take m (take len (put_mid (end - start) room moved into ++ tail)) ≡ held ++ take n into
pulled_behind chunk moved into held start end n m room h k e within held_is count len tail fits =
    let front = take (end - start) (drop start chunk) in
    let size : length front ≡ end - start = omega (arith, length-take (end - start) (drop start chunk), length-drop start chunk) in
    let short : end - start ≤ length moved = omega (arith, length-moved chunk moved start end h k e) in
    let below : m ≤ end - start + length into = omega (arith, count, within) in
    let whole = put_mid (end - start) room moved into in
    let long : m ≤ length whole =
    omega (
      arith,
      below,
      length-take (end - start + length into) whole,
      ap length (take-put_mid (end - start) room moved into (end - start + length into) refl short),
      length-append (take (end - start) moved) into,
      length-take (end - start) moved,
      short,
    ) in
    take-take m len (whole ++ tail) fits
    ∙ take-append-le m whole tail long
    ∙ sym (take-take m (end - start + length into) whole below)
    ∙ ap (take m) (take-put_mid (end - start) room moved into (end - start + length into) refl short)
    ∙ ap (λ (l : List ℕ). take m (l ++ into)) (ap (take (end - start)) e ∙ moved_front chunk start end h k)
    ∙ ap (λ (i : ℕ). take i (front ++ into)) (count ∙ ap (λ (i : ℕ). i + n) (sym size))
    ∙ take_front front into n within
    ∙ ap (λ (l : List ℕ). l ++ take n into) held_is
