use Rattle.std.proofs.Common.{◌≡◌, ◌↔◌, ◌<◌, ℕ, true, false, length, get_or, None}
use Rattle.lam_query.specs.inner.Bound.{kept_under}
use Rattle.lam_query.proofs.changed_names.differences.Given as goal

abbrev pub invariant-loop-i : goal.invariant-loop-i
invariant-loop-i l = record {
  long : length l.marks.items ≡ l.i;
  right : (n : ℕ) → n < l.i → (get_or l.marks.items n true ≡ false ↔ get_or l.entries n None ≡ kept_under l.now n);
}
