-- Texts that are written piece by piece.
use Rattle.std.proofs.Common.{◌≡◌, ℕ, zero, suc, ◌+◌, ◌<◌, ◌≤◌, List, ◌∷◌, ◌++◌, length, drop, map, flat_map, get_or, ap, sym, ◌∙◌, add-one, encode_utf8, encode_utf8_all, Result, Ok, Err, OnOk}
use Rattle.std.specs.List.{repeat}
use Rattle.std.proofs.lemmas.List.{drop_more, drop_all, append_assoc, append-nil}

-- the characters that are left, by the next one and those behind it
pub next_char : (cs : List ℕ) (n c : ℕ) → (n < length cs) × (c ≡ get_or cs n c) → drop n cs ≡ c ∷ drop (n + 1) cs
next_char cs n c h = drop_more cs n c h.0 ∙ ap (λ x. x ∷ drop (n + 1) cs) (sym h.1)

-- the text of the next element, and those of the elements behind it, are those of the elements that were left
pub written_more : {X Y : Type 0} (v : X → Y) (f : Y → List ℕ) (was now total : List ℕ) (xs : List X) (i : ℕ) (d : X) → i < length xs
    → now ≡ was ++ f (v (get_or xs i d)) → was ++ flat_map f (map v (drop i xs)) ≡ total → now ++ flat_map f (map v (drop (i + 1) xs)) ≡ total
written_more v f was now total xs i d h is all =
    let rest = flat_map f (map v (drop (i + 1) xs)) in
    ap (λ text. text ++ rest) is ∙ (append_assoc was (f (v (get_or xs i d))) rest ∙ (ap (λ ys. was ++ flat_map f (map v ys)) (sym (drop_more xs i d h)) ∙ all))

-- the next character as it is written, and those behind it, are the characters that were left
pub chars_more : (f : ℕ → ℕ) (was now total cs : List ℕ) (n c : ℕ) → (n < length cs) × (c ≡ get_or cs n c)
    → now ≡ was ++ encode_utf8 (f c) → was ++ encode_utf8_all (map f (drop n cs)) ≡ total → now ++ encode_utf8_all (map f (drop (n + 1) cs)) ≡ total
chars_more f was now total cs n c h is all =
    let rest = encode_utf8_all (map f (drop (n + 1) cs)) in
    ap (λ text. text ++ rest) is ∙ (append_assoc was (encode_utf8 (f c)) rest ∙ (ap (λ ds. was ++ encode_utf8_all (map f ds)) (sym (next_char cs n c h)) ∙ all))

-- if none is left, what is written is all
pub chars_all : (f : ℕ → ℕ) (was total cs : List ℕ) (n : ℕ) → length cs ≤ n → was ++ encode_utf8_all (map f (drop n cs)) ≡ total → was ≡ total
chars_all f was total cs n past all = sym (append-nil was) ∙ rw (drop_all n cs past) at all

-- the text of the next character, and those of the characters behind it, are those of the characters that were left
pub each_more : (f : ℕ → List ℕ) (was now total cs : List ℕ) (n c : ℕ) → (n < length cs) × (c ≡ get_or cs n c)
    → now ≡ was ++ f c → was ++ flat_map f (drop n cs) ≡ total → now ++ flat_map f (drop (n + 1) cs) ≡ total
each_more f was now total cs n c h is all =
    let rest = flat_map f (drop (n + 1) cs) in
    ap (λ text. text ++ rest) is ∙ (append_assoc was (f c) rest ∙ (ap (λ ds. was ++ flat_map f ds) (sym (next_char cs n c h)) ∙ all))

pub each_all : (f : ℕ → List ℕ) (was total cs : List ℕ) (n : ℕ) → length cs ≤ n → was ++ flat_map f (drop n cs) ≡ total → was ≡ total
each_all f was total cs n past all = sym (append-nil was) ∙ rw (drop_all n cs past) at all

-- a text once more
pub repeat_more : (n : ℕ) (text : List ℕ) → repeat (n + 1) text ≡ repeat n text ++ text
repeat_more n text = rw (add-one n) (go n)
  where
    go : (n : ℕ) → repeat (suc n) text ≡ repeat n text ++ text
    go zero = append-nil text
    go (suc n) = ap (λ rest. text ++ rest) (go n) ∙ sym (append_assoc text (repeat n text) text)

-- two texts behind another, if the second one could be written
pub two_written : {T E : Type 0} (r : Result T E) (old mid now first second : List ℕ) → mid ≡ old ++ first → OnOk r (now ≡ mid ++ second) → OnOk r (now ≡ old ++ (first ++ second))
two_written (Ok u) old mid now first second is more = more ∙ ap (λ text. text ++ second) is ∙ append_assoc old first second
two_written (Err e) old mid now first second is more = tt
