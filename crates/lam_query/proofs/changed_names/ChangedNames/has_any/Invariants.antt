use Rattle.std.proofs.Common.{◌≡◌, ◌<◌, ℕ, false, get_or}
use Rattle.lam_query.specs.declared.bound.NameNo.{NameNo}
use Rattle.lam_query.specs.inner.ChangedNames.{is_changed}
use Rattle.lam_query.proofs.changed_names.ChangedNames.has_any.Given as goal

abbrev pub invariant-loop-i : goal.invariant-loop-i
invariant-loop-i l = (k : ℕ) (d : NameNo) → k < l.i → is_changed l.self (get_or l.names k d) ≡ false
