-- Lemmas on the lines of a header part.
use Rattle.std.proofs.Common.{◌≡◌, ◌≢◌, ◌≤◌, ◌<◌, ◌⊎◌, inl, inr, length, drop, get_or, ℕ, suc, ◌+◌, ◌-◌, ◌*◌, ◌^◌, Bool, true, false, not, ◌&&◌, ◌||◌, cond, nat_lt, Some, None, List, [], ◌∷◌, ◌++◌, refl, sym, ap, ◌∙◌, subst, arith, add-one, length-drop}
use Rattle.std.specs.Char.{is_ascii_digit, digit_value}
use Rattle.std.specs.List.{list_all, list_any, position, prefix_len, position_or_len}
use Rattle.std.proofs.lemmas.List.Folds.{list_all-append}
use Rattle.std.proofs.lemmas.List.Sums.{prefix_len_stops, AllPass-from_list_all}
use Rattle.std.proofs.lemmas.List.{get_or-drop}
use Rattle.std.proofs.lemmas.Int.Digits.{digits_value_more}
use Rattle.std.proofs.lemmas.Str.{digit_value_digit}
use Rattle.std.proofs.lemmas.Bool.Decides.{nat_tests}
use Rattle.std.proofs.Math.Nat.{pow-le-pow_right}
use Rattle.lam_frame.specs.Header.{is_header_byte, is_blank_byte, is_colon, has_colon, is_length, trim_back, IsMisplaced}

-- ---- blanks behind a value

true_unit : (p q : Bool) (xs ys : List ℕ) → cond (p && (q && true)) xs ys ≡ cond (p && q) xs ys
true_unit true true xs ys = refl
true_unit true false xs ys = refl
true_unit false q xs ys = refl

never : (p q : Bool) (xs ys : List ℕ) → cond (p && (q && false)) xs ys ≡ ys
never true true xs ys = refl
never true false xs ys = refl
never false q xs ys = refl

pub trim_back-blank : (xs : List ℕ) (b : ℕ) → is_blank_byte b ≡ true → trim_back (xs ++ b ∷ []) ≡ trim_back xs
trim_back-blank [] b e = rw e refl
trim_back-blank (x ∷ xs) b e = rw (list_all-append is_blank_byte xs (b ∷ []), trim_back-blank xs b e, e) (true_unit (is_blank_byte x) (list_all is_blank_byte xs) [] (x ∷ trim_back xs))

pub trim_back-kept : (xs : List ℕ) (b : ℕ) → is_blank_byte b ≡ false → trim_back (xs ++ b ∷ []) ≡ xs ++ b ∷ []
trim_back-kept [] b e = rw e refl
trim_back-kept (x ∷ xs) b e = rw (list_all-append is_blank_byte xs (b ∷ []), trim_back-kept xs b e, e) (never (is_blank_byte x) (list_all is_blank_byte xs) [] (x ∷ (xs ++ b ∷ [])))

pub ruleset blanks = (trim_back-blank, trim_back-kept)

-- ---- the byte at which a line stops

unplain : (b : ℕ) → is_header_byte b ≡ false → b ≢ 13 → (128 ≤ b) ⊎ (b ≡ 10)
unplain b e n = grind (arith, nat_tests)

misplaced_by_first : (bs : List ℕ) → 0 < length bs → is_header_byte (get_or bs 0 0) ≡ false → get_or bs 0 0 ≢ 13 → IsMisplaced bs
misplaced_by_first [] h e n = absurd (omega arith)
misplaced_by_first (b ∷ []) h e n = unplain b e n
misplaced_by_first (b ∷ c ∷ bs) h e n = inl (unplain b e n)

misplaced_by_second : (bs : List ℕ) → 1 < length bs → get_or bs 0 0 ≡ 13 → get_or bs 1 0 ≢ 10 → IsMisplaced bs
misplaced_by_second [] h e n = absurd (omega arith)
misplaced_by_second (b ∷ []) h e n = absurd (omega arith)
misplaced_by_second (b ∷ c ∷ bs) h e n = inr (e, n)

pub misplaced_first : (bs : List ℕ) (k : ℕ) → k ≡ prefix_len is_header_byte bs → k < length bs → get_or bs k 0 ≢ 13 → IsMisplaced (drop k bs)
misplaced_first bs k p h n =
    let at : get_or (drop k bs) 0 0 ≡ get_or bs k 0 = grind (arith, get_or-drop) in
    let stops : is_header_byte (get_or bs k 0) ≡ false = subst (λ (i : ℕ). is_header_byte (get_or bs i 0) ≡ false) (sym p) (prefix_len_stops is_header_byte bs 0 (omega arith)) in
    misplaced_by_first (drop k bs) (grind (arith, length-drop)) (ap is_header_byte at ∙ stops) (λ e. n (sym at ∙ e))

pub misplaced_second : (bs : List ℕ) (k : ℕ) → k + 1 < length bs → get_or bs k 0 ≡ 13 → get_or bs (k + 1) 0 ≢ 10 → IsMisplaced (drop k bs)
misplaced_second bs k h e n =
    let first : get_or (drop k bs) 0 0 ≡ get_or bs k 0 = grind (arith, get_or-drop) in
    let second : get_or (drop k bs) 1 0 ≡ get_or bs (k + 1) 0 = grind (arith, get_or-drop) in
    misplaced_by_second (drop k bs) (grind (arith, length-drop)) (first ∙ e) (λ w. n (sym second ∙ w))

pub ruleset misplaced = (misplaced_first, misplaced_second)

-- ---- numerals

numeral_parts : (ds : List ℕ) → is_length ds ≡ true → (length ds ≤ 19) × (list_all is_ascii_digit ds ≡ true)
numeral_parts ds n = grind (arith, nat_tests)

digit_between : (c : ℕ) → is_ascii_digit c ≡ true → (48 ≤ c) × (c ≤ 57)
digit_between c e = grind (arith, nat_tests)

pub digit_in : (ds : List ℕ) (i : ℕ) → is_length ds ≡ true → i < length ds → (48 ≤ get_or ds i 0) × (get_or ds i 0 ≤ 57)
digit_in ds i n h = digit_between (get_or ds i 0) (AllPass-from_list_all is_ascii_digit ds (numeral_parts ds n).1 i 0 h)

pub digit_value_in : (ds : List ℕ) (i : ℕ) → is_length ds ≡ true → i < length ds → digit_value (get_or ds i 0) ≡ get_or ds i 0 - 48
digit_value_in ds i n h = let within = digit_in ds i n h in omega (arith, digit_value_digit (get_or ds i 0) within)

pub numeral_short : (ds : List ℕ) → is_length ds ≡ true → length ds ≤ 19
numeral_short ds n = (numeral_parts ds n).0

pub pow_short : (i : ℕ) → i < 19 → 10 * 10 ^ i < 2 ^ 64
pow_short i h =
    let small : 10 ^ i ≤ 10 ^ 18 = pow-le-pow_right {n = 10} (omega arith) {i = i} {j = 18} (omega arith) in
    omega (arith, small)

pub pow_more : (i : ℕ) → 10 ^ (i + 1) ≡ 10 * 10 ^ i
pow_more i = rw add-one (omega arith)

pub ruleset numerals = (digit_in, digit_value_in, numeral_short, pow_short, pow_more, digits_value_more)

-- ---- the first colon

first_more : (here any : Bool) (k n : ℕ) → (any ≡ true) × (k < n) ⊎ (any ≡ false) × (k ≡ n)
    → ((here || any) ≡ true) × (cond (not here) (1 + k) 0 < suc n) ⊎ ((here || any) ≡ false) × (cond (not here) (1 + k) 0 ≡ suc n)
first_more true any k n h = inl (refl, omega arith)
first_more false any k n (inl h) = inl (h.0, omega (arith, h.1))
first_more false any k n (inr h) = inr (h.0, omega (arith, h.1))

first_is : (p : ℕ → Bool) (xs : List ℕ) → (list_any p xs ≡ true) × (position_or_len p xs < length xs) ⊎ (list_any p xs ≡ false) × (position_or_len p xs ≡ length xs)
first_is p [] = inr (refl, refl)
first_is p (x ∷ xs) = first_more (p x) (list_any p xs) (position_or_len p xs) (length xs) (first_is p xs)

found : (any : Bool) (j n k : ℕ) → (any ≡ true) × (j < n) ⊎ (any ≡ false) × (j ≡ n) → cond (nat_lt j n) (Some j) None ≡ Some k → (k ≡ j) × ((k < n) × (any ≡ true))
found any j n k (inl h) e = let less : nat_lt j n ≡ true = grind (arith, nat_tests, h.1) in let same : k ≡ j = cc (less, e) in (same, (omega (arith, h.1, same), h.0))
found any j n k (inr h) e = let less : nat_lt j n ≡ false = grind (arith, nat_tests, h.1) in absurd (cc (less, e))

missing : (any : Bool) (j n : ℕ) → (any ≡ true) × (j < n) ⊎ (any ≡ false) × (j ≡ n) → cond (nat_lt j n) (Some j) None ≡ None → any ≡ false
missing any j n (inl h) e = let less : nat_lt j n ≡ true = grind (arith, nat_tests, h.1) in absurd (cc (less, e))
missing any j n (inr h) e = h.0

pub colon_found : (xs : List ℕ) (k : ℕ) → position is_colon xs ≡ Some k → (k ≡ position_or_len is_colon xs) × ((k < length xs) × (has_colon xs ≡ true))
colon_found xs k e = found (list_any is_colon xs) (position_or_len is_colon xs) (length xs) k (first_is is_colon xs) e

pub colon_missing : (xs : List ℕ) → position is_colon xs ≡ None → has_colon xs ≡ false
colon_missing xs e = missing (list_any is_colon xs) (position_or_len is_colon xs) (length xs) (first_is is_colon xs) e

pub ruleset colons = (colon_found, colon_missing)
