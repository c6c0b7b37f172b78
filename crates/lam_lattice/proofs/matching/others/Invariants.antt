use Rattle.std.proofs.Common.{◌≡◌, ℕ, List, drop}
use Rattle.lam_rules.specs.Types.{Typ, joined}
use Rattle.lam_rules.specs.Numbers.{fields_over, AreEarlier}
use Rattle.lam_sub.specs.OtherFields.{other_fields}
use Rattle.lam_lattice.proofs.matching.others.Given as goal

abbrev pub invariant-loop-i : goal.invariant-loop-i
invariant-loop-i l = record {
  below : (n : ℕ) → AreEarlier n l.right → AreEarlier n l.made.items;
  others : (ts : List Typ) → joined (fields_over ts l.made.items) (other_fields (fields_over ts (drop l.i l.right)) (fields_over ts l.left))
      ≡ other_fields (fields_over ts l.right) (fields_over ts l.left);
}
