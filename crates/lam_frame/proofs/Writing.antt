-- Lemmas on writing a frame: digits from the last to the first, and pushes until all is taken.
use Rattle.std.proofs.Common.{◌≡◌, ◌≤◌, ◌<◌, length, take, drop, set, ℕ, zero, suc, ◌+◌, ◌-◌, ◌*◌, ◌/◌, ◌%◌, ◌^◌, List, [], ◌∷◌, ◌++◌, Option, refl, sym, ap, ◌∙◌, subst, arith, add-one, append_assoc, append-nil, length-drop, length-take, take-append-drop}
use Rattle.std.specs.Prelude.{false, ◌==◌, codes, decimal, OnErr, Result, Ok, Err}
use Rattle.std.proofs.Math.Seq.{drop-append_seam}
use Rattle.std.proofs.lemmas.List.{drop-drop, nil_from_length, take_rest, drop-set}
use Rattle.std.proofs.lemmas.Slice.{drop-put_mid}
use borrow.Rule.Slice.PartMut.{put_mid, post_of}
use Rattle.lam_frame.specs.Frame.{frame_text, header_line}
use Rattle.std.specs.Io.KnownBytes.{Appends, Keeps}
use Rattle.std.proofs.KnownBytes.{Appends-trans, Appends-kept}
use Rattle.std.proofs.lemmas.Bool.Decides.{nat_tests}
use Rattle.std.proofs.lemmas.Fmt.{decimal_step, decimal_digit}
use Rattle.lam_frame.specs.Device.{AppendsFront, failures_after_push}
use Rattle.lam_frame.proofs.Lines.{pow_more}

-- ---- digits

-- without its last digit, a number of two to k digits has one digit less
pub one_digit_less : (n k : ℕ) → 10 ≤ n → n < 10 ^ k → (2 ≤ k) × (n / 10 < 10 ^ (k - 1))
one_digit_less n zero h l = absurd (omega arith)
one_digit_less n (suc zero) h l = absurd (omega arith)
one_digit_less n (suc (suc k)) h l =
    let more : 10 ^ suc (suc k) ≡ 10 * 10 ^ suc k = ap (λ (i : ℕ). 10 ^ i) (sym (add-one (suc k))) ∙ pow_more (suc k) in
    let less : n / 10 < 10 ^ suc k = omega (arith, more, l) in
    let size : suc (suc k) - 1 ≡ suc k = omega arith in
    (omega arith, subst (λ (i : ℕ). n / 10 < 10 ^ i) (sym size) less)

pub next_digit : (room tail : List ℕ) (number rest start : ℕ) → 10 ≤ rest → rest < 2 ^ 64 → 1 ≤ start → start ≤ length room → decimal number ++ tail ≡ decimal rest ++ drop start room
    → decimal number ++ tail ≡ decimal (rest / 10) ++ drop (start - 1) (set room (start - 1) (48 + rest % 10))
next_digit room tail number rest start h fits some within e =
    let place : start - 1 + 1 ≡ start = omega arith in
    e ∙ ap (λ (l : List ℕ). l ++ drop start room) (decimal_step rest h fits)
    ∙ append_assoc (decimal (rest / 10)) ((48 + rest % 10) ∷ []) (drop start room)
    ∙ ap (λ (l : List ℕ). decimal (rest / 10) ++ l) (ap (λ (i : ℕ). (48 + rest % 10) ∷ drop i room) (sym place) ∙ sym (drop-set room (start - 1) (48 + rest % 10) (omega arith)))

pub last_digit : (room tail : List ℕ) (number rest start : ℕ) → rest < 10 → 1 ≤ start → start ≤ length room → decimal number ++ tail ≡ decimal rest ++ drop start room
    → drop (start - 1) (set room (start - 1) (48 + rest)) ≡ decimal number ++ tail
last_digit room tail number rest start h some within e =
    let place : start - 1 + 1 ≡ start = omega arith in
    drop-set room (start - 1) (48 + rest) (omega arith) ∙ ap (λ (i : ℕ). (48 + rest) ∷ drop i room) place
    ∙ ap (λ (l : List ℕ). l ++ drop start room) (sym (decimal_digit rest h)) ∙ sym e

-- ---- pushes

-- all but this rest of the bytes was taken
pub record Pushed (old new : Option (List ℕ)) (bytes rest : List ℕ) : Type 0 where
  pub front : List ℕ
  pub split : bytes ≡ front ++ rest
  pub appended : Appends old new front

pub pushed_more : (old middle new : Option (List ℕ)) (bytes rest : List ℕ) (n : ℕ) → Pushed old middle bytes rest → Appends middle new (take n rest) → Pushed old new bytes (drop n rest)
pushed_more old middle new bytes rest n p a = record {
  front = p.front ++ take n rest;
  split = p.split ∙ ap (λ (l : List ℕ). p.front ++ l) (sym (take-append-drop n rest)) ∙ sym (append_assoc p.front (take n rest) (drop n rest));
  appended = Appends-trans old middle new p.front (take n rest) p.appended a;
}

-- ---- two parts of one text

pub front_of_first : (old new : Option (List ℕ)) (first second : List ℕ) → AppendsFront old new first → AppendsFront old new (first ++ second)
front_of_first old new first second p =
    record { front = p.front; rest = p.rest ++ second; split = ap (λ (l : List ℕ). l ++ second) p.split ∙ append_assoc p.front p.rest second; appended = p.appended }

pub front_of_second : (old middle new : Option (List ℕ)) (first second : List ℕ) → Appends old middle first → AppendsFront middle new second → AppendsFront old new (first ++ second)
front_of_second old middle new first second a p = record {
  front = first ++ p.front;
  rest = p.rest;
  split = ap (λ (l : List ℕ). first ++ l) p.split ∙ sym (append_assoc first p.front p.rest);
  appended = Appends-trans old middle new first p.front a p.appended;
}

pub front_of_all : (old middle new : Option (List ℕ)) (bytes : List ℕ) → Appends old middle bytes → Keeps middle new → AppendsFront old new bytes
front_of_all old middle new bytes a k = record { front = bytes; rest = []; split = sym (append-nil bytes); appended = Appends-kept old middle new bytes a k }

-- ---- the header part in its room

drop_put_mid_at : (a k : ℕ) (xs ys : List ℕ) → a ≤ length xs → length ys ≡ k → drop a (put_mid a k xs ys) ≡ ys ++ drop (a + k) xs
drop_put_mid_at a k xs ys h size =
    let whole = put_mid a k xs ys in
    let post = post_of a k xs in
    let front : length (take a xs) ≡ a = omega (arith, length-take a xs) in
    let seam : drop a whole ≡ ys ++ post = ap (λ (i : ℕ). drop i whole) (sym front) ∙ drop-append_seam (take a xs) (ys ++ post) in
    let behind : post ≡ drop (a + k) xs =
    sym (drop-append_seam ys post) ∙ ap (λ (i : ℕ). drop i (ys ++ post)) size ∙ ap (drop k) (sym seam) ∙ drop-drop k a whole ∙ drop-put_mid a k xs ys (a + k) (omega arith) h size in
    seam ∙ ap (λ (l : List ℕ). ys ++ l) behind

pub header_written : (room middle name end : List ℕ) (len digits : ℕ) → length room ≡ 40 → length middle ≡ 40 → 16 ≤ digits → digits ≤ 36 → end ≡ 13 ∷ 10 ∷ 13 ∷ 10 ∷ [] → name ≡ codes "Content-Length: "
    → drop digits middle ≡ decimal len ++ drop 36 (put_mid 36 4 room end)
    → drop (digits - 16) (put_mid (digits - 16) (digits - (digits - 16)) middle name) ≡ header_line len
unfolding header_line
header_written room middle name end len digits r m low high e n text =
    let four : length end ≡ 4 = ap length e in
    let sixteen : length name ≡ digits - (digits - 16) = ap length n ∙ (let same : 16 ≡ digits - (digits - 16) = omega arith in same) in
    let none : drop 40 room ≡ [] = nil_from_length (drop 40 room) (omega (arith, length-drop 40 room)) in
    let last : drop 36 (put_mid 36 4 room end) ≡ 13 ∷ 10 ∷ 13 ∷ 10 ∷ [] = drop_put_mid_at 36 4 room end (omega arith) four ∙ ap (λ (l : List ℕ). end ++ l) none ∙ append-nil end ∙ e in
    let place : digits - 16 + (digits - (digits - 16)) ≡ digits = omega arith in
    drop_put_mid_at (digits - 16) (digits - (digits - 16)) middle name (omega arith) sixteen
    ∙ ap (λ (i : ℕ). name ++ drop i middle) place
    ∙ ap (λ (l : List ℕ). name ++ l) (text ∙ ap (λ (l : List ℕ). decimal len ++ l) last)
    ∙ ap (λ (l : List ℕ). l ++ (decimal len ++ (13 ∷ 10 ∷ 13 ∷ 10 ∷ []))) n

-- ---- a whole frame

module _ (old first second flushed : Option (List ℕ)) (room body : List ℕ) (start : ℕ) where
  header_slice : length room ≡ 40 → drop start room ≡ header_line (length body) → take (40 - start) (drop start room) ≡ header_line (length body)
  header_slice size text = ap (λ (n : ℕ). take (n - start) (drop start room)) (sym size) ∙ take_rest room start ∙ text

  pub frame_of_header : length room ≡ 40 → drop start room ≡ header_line (length body) → AppendsFront old first (take (40 - start) (drop start room)) → AppendsFront old first (frame_text body)
  unfolding frame_text
  frame_of_header size text p = front_of_first old first (header_line (length body)) body (subst (AppendsFront old first) (header_slice size text) p)

  pub frame_of_body : length room ≡ 40 → drop start room ≡ header_line (length body) → Appends old first (take (40 - start) (drop start room)) → AppendsFront first second body → AppendsFront old second (frame_text body)
  unfolding frame_text
  frame_of_body size text p q = front_of_second old first second (header_line (length body)) body (subst (Appends old first) (header_slice size text) p) q

  frame_of_both : length room ≡ 40 → drop start room ≡ header_line (length body) → Appends old first (take (40 - start) (drop start room)) → Appends first second body → Appends old second (frame_text body)
  unfolding frame_text
  frame_of_both size text p q = Appends-trans old first second (header_line (length body)) body (subst (Appends old first) (header_slice size text) p) q

  pub frame_whole : length room ≡ 40 → drop start room ≡ header_line (length body) → Appends old first (take (40 - start) (drop start room)) → Appends first second body → Keeps second flushed
      → Appends old flushed (frame_text body)
  frame_whole size text p q k = Appends-kept old second flushed (frame_text body) (frame_of_both size text p q) k

  pub frame_unflushed : length room ≡ 40 → drop start room ≡ header_line (length body) → Appends old first (take (40 - start) (drop start room)) → Appends first second body → Keeps second flushed
      → AppendsFront old flushed (frame_text body)
  frame_unflushed size text p q k = front_of_all old second flushed (frame_text body) (frame_of_both size text p q) k

pub on_err : {V E : Type 0} (r : Result V E) (P : Type 0) → P → OnErr r P
on_err (Ok v) P p = tt
on_err (Err e) P p = p

pub some_taken : (failures : ℕ) (bytes : List ℕ) (n : ℕ) → (n ≡ 0 → ⊥) → failures_after_push failures bytes n ≡ failures
some_taken failures bytes n some = let test : (n == 0) ≡ false = grind (arith, nat_tests) in rw test refl
