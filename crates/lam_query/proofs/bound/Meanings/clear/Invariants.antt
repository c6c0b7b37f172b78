use Rattle.std.proofs.Common.{◌≡◌, ◌<◌, ℕ, length, None}
use Rattle.lam_query.specs.inner.Bound.{kept_under}
use Rattle.lam_query.proofs.bound.Meanings.clear.Given as goal

abbrev pub invariant-loop-i : goal.invariant-loop-i
invariant-loop-i l = record {
  numbers : l.self.numbers ≡ l.initial.self.numbers;
  len : length l.self.entries.items ≡ l.i-end;
  unbound : (n : ℕ) → n < l.i → kept_under l.self n ≡ None;
}
