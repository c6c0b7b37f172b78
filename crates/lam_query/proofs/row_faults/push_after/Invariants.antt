use Rattle.std.proofs.Common.{◌≡◌, ◌++◌, map, drop}
use Rattle.lam_query.specs.Views.{fault_of}
use Rattle.lam_query.proofs.row_faults.push_after.Given as goal
use Rattle.lam_query.specs.inner.Kept.{fault_after, AllFit}

abbrev pub invariant-loop-i : goal.invariant-loop-i
invariant-loop-i l =
    AllFit (map (λ f. fault_after l.bytes (fault_of f)) l.faults)
    → map fault_of l.found.items ++ map (λ f. fault_after l.bytes (fault_of f)) (drop l.i l.faults)
    ≡ map fault_of l.fn.found.items ++ map (λ f. fault_after l.bytes (fault_of f)) l.faults
