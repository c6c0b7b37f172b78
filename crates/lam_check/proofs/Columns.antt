-- Columns that are summed character by character, and how many there are.
use Rattle.std.proofs.Common.{◌≡◌, ℕ, ◌+◌, ◌*◌, ◌<◌, ◌≤◌, Bool, true, false, List, [], ◌∷◌, length, take, drop, get_or, ap, ◌∙◌, arith, if◌then◌else◌}
use Rattle.std.proofs.lemmas.List.{drop_all, length-take, length-drop}
use Rattle.std.proofs.lemmas.List.Sums.{sum_by-cons}
use Rattle.std.specs.List.{sum_by}
use Rattle.std.specs.Str.{chars}
use Rattle.lam_check.specs.Lines.{wide, zero_width, is_in_ranges, columns, columns_between}
use Rattle.lam_check.proofs.LineEnds.{chars_few}
use Rattle.lam_check.proofs.Writing.{next_char}

-- the sum so far with the next summand, and the sum of those behind it, are still the total
pub sum_more : (f : ℕ → ℕ) (so_far total : ℕ) (cs : List ℕ) (n c : ℕ) → (n < length cs) × (c ≡ get_or cs n c)
    → so_far + sum_by f (drop n cs) ≡ total → so_far + f c + sum_by f (drop (n + 1) cs) ≡ total
sum_more f so_far total cs n c h all =
    let next = ap (sum_by f) (next_char cs n c h) ∙ sum_by-cons f c (drop (n + 1) cs) in
    omega (arith, next, all)

-- if none is left, the sum so far is the total
pub sum_all : (f : ℕ → ℕ) (so_far total : ℕ) (cs : List ℕ) (n : ℕ) → length cs ≤ n → so_far + sum_by f (drop n cs) ≡ total → so_far ≡ total
sum_all f so_far total cs n past all =
    let none = ap (sum_by f) (drop_all n cs past) in
    omega (arith, none, all)

two_at_most : (c : ℕ) → columns c ≤ 2
two_at_most c = go (is_in_ranges wide c) (is_in_ranges zero_width c)
  where
    go : (is_wide is_zero_width : Bool) → (if is_wide then 2 else (if is_zero_width then 0 else 1)) ≤ 2
    go true is_zero_width = omega arith
    go false true = omega arith
    go false false = omega arith

columns-few : (cs : List ℕ) → sum_by columns cs ≤ 2 * length cs
columns-few [] = omega arith
columns-few (c ∷ cs) = omega (arith, sum_by-cons columns c cs, two_at_most c, columns-few cs)

pub columns_between-few : (start end : ℕ) (line : List ℕ) → columns_between start end line ≤ 2 * length line
columns_between-few start end line =
    let cs = chars line in
    omega (arith, columns-few (drop start (take end cs)), length-drop start (take end cs), length-take end cs, chars_few line)
