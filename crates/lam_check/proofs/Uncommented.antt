-- Texts without comments, character by character.
use Rattle.std.proofs.Common.{◌≡◌, ℕ, ◌+◌, ◌-◌, ◌<◌, ◌≤◌, List, ◌++◌, Bool, true, false, if◌then◌else◌, length, drop, get_or, ap, sym, ◌∙◌, arith}
use Rattle.std.proofs.lemmas.List.{drop_all, append_assoc, append-nil}
use Rattle.lam_check.specs.Terms.{is_opening, is_closing, kept, next_before, next_depth, uncommented}
use Rattle.lam_check.proofs.Writing.{next_char}

-- what is kept of the next character, and of those behind it, is what was left
pub kept_more : (was now total cs : List ℕ) (depth before n c : ℕ) → (n < length cs) × (c ≡ get_or cs n c)
    → now ≡ was ++ kept depth before c → was ++ uncommented depth before (drop n cs) ≡ total
    → now ++ uncommented (next_depth depth before c) (next_before before c) (drop (n + 1) cs) ≡ total
kept_more was now total cs depth before n c h is all =
    let rest = uncommented (next_depth depth before c) (next_before before c) (drop (n + 1) cs) in
    ap (λ text. text ++ rest) is ∙ (append_assoc was (kept depth before c) rest ∙ (ap (λ ds. was ++ uncommented depth before ds) (sym (next_char cs n c h)) ∙ all))

pub kept_all : (was total cs : List ℕ) (depth before n : ℕ) → length cs ≤ n → was ++ uncommented depth before (drop n cs) ≡ total → was ≡ total
kept_all was total cs depth before n past all = sym (append-nil was) ∙ rw (drop_all n cs past) at all

-- a character opens one more comment at most
pub next_depth_small : (depth before c : ℕ) → next_depth depth before c ≤ depth + 1
next_depth_small depth before c = by (is_opening before c) (is_closing before c)
  where
    by : (opens closes : Bool) → (if opens then depth + 1 else (if closes then depth - 1 else depth)) ≤ depth + 1
    by true closes = omega arith
    by false true = omega arith
    by false false = omega arith
