-- What is found among the intervals of rows is what the rows say.
use Rattle.std.proofs.Common.{◌≡◌, ℕ, ◌+◌, ◌-◌, ◌<◌, ◌≤◌, arith, Bool, true, false, cond, ltb, List, [], ◌∷◌, length, get_or, zero, suc, refl, ap, sym, ◌∙◌, map, Option, Some, None, position, ◌==◌}
use Rattle.std.specs.Prelude.{if◌then◌else◌}
use Rattle.std.specs.List.{position_from, slice_range}
use Rattle.std.specs.Option.{option_map}
use Rattle.std.proofs.lemmas.Bool.Decides.{nat_tests}
use Rattle.std.proofs.lemmas.Iterator.Adapters.{position_from-zero}
use Rattle.lam_token.specs.declared.span.Span.{Span}
use Rattle.lam_scope.specs.declared.intervals.Interval.{Interval}
use Rattle.lam_scope.specs.declared.rows.BinderRow.{BinderRow}
use Rattle.lam_scope.specs.declared.numbers.Place.{Place}
use Rattle.lam_scope.specs.declared.rows.PlaceRow.{PlaceRow}
use Rattle.lam_scope.specs.declared.rows.UseRow.{UseRow}
use Rattle.lam_scope.specs.TableViews.{text_binder, text_use, text_place, text_places, terms_start, binder_of}
use Rattle.lam_scope.specs.Slices.{first_start}
use Rattle.lam_scope.specs.Intervals.{has, no_bytes, one_byte}
use Rattle.lam_scope.specs.RowIntervals.{place_interval, binder_interval, use_interval, answer_at, used_at}
use Rattle.lam_scope.specs.Tables.{TextBinder, TextUse, has_name, is_over, is_token_at, binder_token_at, binder_used_at}

-- which interval has which byte

has_by : (a b : Bool) (o : ℕ) (s : Interval) → ltb o s.lowest ≡ a → ltb s.highest o ≡ b → has o s ≡ (if a then false else (if b then false else true))
has_by a b o s e f = λ i. if e i then false else (if f i then false else true)

none_has : (o : ℕ) → has o no_bytes ≡ false
none_has o = by (ltb o 18446744073709551615) refl
  where
    above : (o : ℕ) → ltb o 18446744073709551615 ≡ false → ltb 0 o ≡ true
    above o e = grind (arith, nat_tests)

    by : (a : Bool) → ltb o 18446744073709551615 ≡ a → has o no_bytes ≡ false
    by true e = ap (λ a. if a then false else (if ltb 0 o then false else true)) e
    by false e = (λ i. if e i then false else (if above o e i then false else true))

before_last : (a b o : ℕ) → ltb a b ≡ true → ltb (b - 1) o ≡ ltb b (o + 1)
before_last a b o e = grind (arith, nat_tests)

not_as_last : (b o : ℕ) (c : Bool) → ltb o b ≡ c → ltb b (o + 1) ≡ (if c then false else true)
not_as_last b o true e = grind (arith, nat_tests)
not_as_last b o false e = grind (arith, nat_tests)

bytes_have : (o : ℕ) (s : Span) → ltb s.start s.end ≡ true → has o (record { lowest = s.start; highest = s.end - 1 }) ≡ (if ltb o s.start then false else ltb o s.end)
bytes_have o s e = by (ltb o s.start) (ltb o s.end) refl refl
  where
    by : (a c : Bool) → ltb o s.start ≡ a → ltb o s.end ≡ c → (if ltb o s.start then false else (if ltb (s.end - 1) o then false else true)) ≡ (if ltb o s.start then false else ltb o s.end)
    by true c f g = (λ i. if f i then false else (if ltb (s.end - 1) o then false else true)) ∙ sym (ap (λ a. if a then false else ltb o s.end) f)
    by false true f g =
        ap (λ a. if a then false else (if ltb (s.end - 1) o then false else true)) f
        ∙ ap (λ b. if b then false else true) (before_last s.start s.end o e ∙ not_as_last s.end o true g)
        ∙ sym (ap (λ a. if a then false else ltb o s.end) f ∙ g)
    by false false f g =
        ap (λ a. if a then false else (if ltb (s.end - 1) o then false else true)) f
        ∙ ap (λ b. if b then false else true) (before_last s.start s.end o e ∙ not_as_last s.end o false g)
        ∙ sym (ap (λ a. if a then false else ltb o s.end) f ∙ g)

empty_span : (a b o : ℕ) → ltb a b ≡ false → (if ltb o a then false else ltb o b) ≡ false
empty_span a b o e = by (ltb o a) refl
  where
    past : (a b o : ℕ) → ltb a b ≡ false → ltb o a ≡ false → ltb o b ≡ false
    past a b o e f = grind (arith, nat_tests)

    by : (c : Bool) → ltb o a ≡ c → (if ltb o a then false else ltb o b) ≡ false
    by true f = ap (λ c. if c then false else ltb o b) f
    by false f = ap (λ c. if c then false else ltb o b) f ∙ past a b o e f

place_has : (o : ℕ) (ts : List Place) (p : PlaceRow) → has o (place_interval p) ≡ is_over o (text_place p ts)
place_has o ts p = by p.derived (ltb p.span.start p.span.end) refl
  where
    by : (d c : Bool) → ltb p.span.start p.span.end ≡ c
        → has o (if d then no_bytes else (if ltb p.span.start p.span.end then record { lowest = p.span.start; highest = p.span.end - 1 } else no_bytes))
        ≡ (if d then false else (if ltb o p.span.start then false else ltb o p.span.end))
    by true c e = none_has o
    by false true e = ap (λ b. has o (if b then record { lowest = p.span.start; highest = p.span.end - 1 } else no_bytes)) e ∙ bytes_have o p.span e
    by false false e = ap (λ b. has o (if b then record { lowest = p.span.start; highest = p.span.end - 1 } else no_bytes)) e ∙ none_has o ∙ sym (empty_span p.span.start p.span.end o e)

byte_has : (o n : ℕ) → has o (one_byte n) ≡ (n == o)
byte_has o n = by (ltb o n) (ltb n o) refl refl
  where
    apart_below : (o n : ℕ) → ltb o n ≡ true → (n == o) ≡ false
    apart_below o n e = grind (arith, nat_tests)

    apart_above : (o n : ℕ) → ltb n o ≡ true → (n == o) ≡ false
    apart_above o n e = grind (arith, nat_tests)

    same : (o n : ℕ) → ltb o n ≡ false → ltb n o ≡ false → (n == o) ≡ true
    same o n e f = grind (arith, nat_tests)

    by : (a b : Bool) → ltb o n ≡ a → ltb n o ≡ b → has o (one_byte n) ≡ (n == o)
    by true b e f = has_by true b o (one_byte n) e f ∙ sym (apart_below o n e)
    by false true e f = has_by false true o (one_byte n) e f ∙ sym (apart_above o n f)
    by false false e f = has_by false false o (one_byte n) e f ∙ sym (same o n e f)

token_has : (o : ℕ) (b : BinderRow) → has o (binder_interval b) ≡ is_token_at o (text_binder b)
token_has o b = by (has_name (text_binder b).name)
  where
    by : (c : Bool) → has o (if c then one_byte b.token.start else no_bytes) ≡ (if c then b.token.start == o else false)
    by true = byte_has o b.token.start
    by false = none_has o

-- the first that passes, step by step

abbrev first_at : {X : Type 0} → (X → Bool) → List X → Option ℕ
first_at p [] = None
first_at p (x ∷ xs) = if p x then Some 0 else option_map suc (first_at p xs)

shifted : (i : ℕ) (o : Option ℕ) → option_map (λ n. i + 1 + n) o ≡ option_map (λ n. i + n) (option_map suc o)
shifted i None = refl
shifted i (Some n) = ap (λ k. Some k) (omega arith)

first_from : {X : Type 0} (p : X → Bool) (i : ℕ) (xs : List X) → position_from p i xs ≡ option_map (λ n. i + n) (first_at p xs)
first_from p i [] = refl
first_from p i (x ∷ xs) = by (p x) (first_from p (i + 1) xs)
  where
    by : (c : Bool) → position_from p (i + 1) xs ≡ option_map (λ n. i + 1 + n) (first_at p xs)
        → cond c (Some i) (position_from p (i + 1) xs) ≡ option_map (λ n. i + n) (if c then Some 0 else option_map suc (first_at p xs))
    by true e = ap (λ k. Some k) (omega arith)
    by false e = e ∙ shifted i (first_at p xs)

from_none : (o : Option ℕ) → option_map (λ n. 0 + n) o ≡ o
from_none None = refl
from_none (Some n) = ap (λ k. Some k) (omega arith)

position_first : {X : Type 0} (p : X → Bool) (xs : List X) → position p xs ≡ first_at p xs
position_first p xs = position_from-zero p xs ∙ first_from p 0 xs ∙ from_none (first_at p xs)

first_mapped : {X Y : Type 0} (o : ℕ) (f : X → Interval) (g : X → Y) (q : Y → Bool) → ((x : X) → has o (f x) ≡ q (g x)) → (xs : List X) → first_at (has o) (map f xs) ≡ first_at q (map g xs)
first_mapped o f g q same [] = refl
first_mapped o f g q same (x ∷ xs) = λ i. if same x i then Some 0 else option_map suc (first_mapped o f g q same xs i)

-- places

first_sliced : (o : ℕ) (ts : List Place) (ps : List PlaceRow) → first_at (has o) (map place_interval ps) ≡ first_at (is_over o) (text_places ts ps)
first_sliced o ts [] = refl
first_sliced o ts (p ∷ ps) = λ i.
    if place_has o (slice_range ts p.terms_start (first_start terms_start ps (length ts))) p i then Some 0 else option_map suc (first_sliced o ts ps i)

pub first_place : (o : ℕ) (ts : List Place) (ps : List PlaceRow) → position (has o) (map place_interval ps) ≡ position (is_over o) (text_places ts ps)
first_place o ts ps =
    position_first (has o) (map place_interval ps)
    ∙ first_sliced o ts ps
    ∙ sym (position_first (is_over o) (text_places ts ps))

-- tokens of binders, and of uses

abbrev pub and_then : Option ℕ → (ℕ → Option ℕ) → Option ℕ
and_then None f = None
and_then (Some n) f = f n

answer_behind : (b : TextBinder) (bs : List TextBinder) (o : Option ℕ) → and_then o (answer_at bs) ≡ and_then (option_map suc o) (answer_at (b ∷ bs))
answer_behind b bs None = refl
answer_behind b bs (Some n) = refl

binder_by_number : (o : ℕ) (bs : List TextBinder) → binder_token_at o bs ≡ and_then (first_at (is_token_at o) bs) (answer_at bs)
binder_by_number o [] = refl
binder_by_number o (b ∷ bs) = by (is_token_at o b) (binder_by_number o bs)
  where
    by : (c : Bool) → binder_token_at o bs ≡ and_then (first_at (is_token_at o) bs) (answer_at bs)
        → (if c then Some b.answer else binder_token_at o bs) ≡ and_then (if c then Some 0 else option_map suc (first_at (is_token_at o) bs)) (answer_at (b ∷ bs))
    by true e = refl
    by false e = e ∙ answer_behind b bs (first_at (is_token_at o) bs)

pub first_token : (o : ℕ) (bs : List BinderRow) → and_then (position (has o) (map binder_interval bs)) (answer_at (map text_binder bs)) ≡ binder_token_at o (map text_binder bs)
first_token o bs =
    ap (λ n. and_then n (answer_at (map text_binder bs))) (position_first (has o) (map binder_interval bs) ∙ first_mapped o binder_interval text_binder (is_token_at o) (token_has o) bs)
    ∙ sym (binder_by_number o (map text_binder bs))

abbrev starts_at : ℕ → TextUse → Bool
starts_at o u = u.token.start == o

used_behind : (u : TextUse) (us : List TextUse) (o : Option ℕ) → and_then o (used_at us) ≡ and_then (option_map suc o) (used_at (u ∷ us))
used_behind u us None = refl
used_behind u us (Some n) = refl

use_by_number : (o : ℕ) (us : List TextUse) → binder_used_at o us ≡ and_then (first_at (starts_at o) us) (used_at us)
use_by_number o [] = refl
use_by_number o (u ∷ us) = by (starts_at o u) (use_by_number o us)
  where
    by : (c : Bool) → binder_used_at o us ≡ and_then (first_at (starts_at o) us) (used_at us)
        → (if c then u.binder else binder_used_at o us) ≡ and_then (if c then Some 0 else option_map suc (first_at (starts_at o) us)) (used_at (u ∷ us))
    by true e = refl
    by false e = e ∙ used_behind u us (first_at (starts_at o) us)

pub first_use : (o : ℕ) (us : List UseRow) → and_then (position (has o) (map use_interval us)) (used_at (map text_use us)) ≡ binder_used_at o (map text_use us)
first_use o us =
    ap (λ n. and_then n (used_at (map text_use us))) (position_first (has o) (map use_interval us) ∙ first_mapped o use_interval text_use (starts_at o) (λ u. byte_has o u.token.start) us)
    ∙ sym (use_by_number o (map text_use us))

-- what is read of a row

pub answer_read : (bs : List BinderRow) (n : ℕ) (b : BinderRow) → n < length bs → b ≡ get_or bs n b → answer_at (map text_binder bs) n ≡ Some b.answer.0
answer_read [] n b lt is = absurd (omega arith)
answer_read (c ∷ bs) zero b lt is = ap (λ d. Some d.answer.0) (sym is)
answer_read (c ∷ bs) (suc n) b lt is = answer_read bs n b (omega arith) is

pub answer_past : (bs : List BinderRow) (n : ℕ) → length bs ≤ n → answer_at (map text_binder bs) n ≡ None
answer_past [] n le = refl
answer_past (c ∷ bs) zero le = absurd (omega arith)
answer_past (c ∷ bs) (suc n) le = answer_past bs n (omega arith)

pub use_read : (us : List UseRow) (n : ℕ) (u : UseRow) → n < length us → u ≡ get_or us n u → used_at (map text_use us) n ≡ option_map binder_of u.bound
use_read [] n u lt is = absurd (omega arith)
use_read (v ∷ us) zero u lt is = ap (λ w. option_map binder_of w.bound) (sym is)
use_read (v ∷ us) (suc n) u lt is = use_read us n u (omega arith) is

pub use_past : (us : List UseRow) (n : ℕ) → length us ≤ n → used_at (map text_use us) n ≡ None
use_past [] n le = refl
use_past (v ∷ us) zero le = absurd (omega arith)
use_past (v ∷ us) (suc n) le = use_past us n (omega arith)

pub ruleset row_reading = (answer_read, answer_past, use_read, use_past)
