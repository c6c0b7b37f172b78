use Rattle.std.proofs.Common.{◌≡◌, drop}
use Rattle.lam_scope.specs.inner.FoundNames.{letters_of, is_among}
use Rattle.lam_scope.proofs.found_names.contains.Given as goal

abbrev pub invariant-loop-i : goal.invariant-loop-i
invariant-loop-i l = is_among l.name (letters_of l.items) ≡ is_among l.name (letters_of (drop l.i l.items))
