use Rattle.std.proofs.Common.{◌≡◌, ◌++◌, map, drop}
use Rattle.lam_query.specs.Views.{fault_of, explained_of}
use Rattle.lam_query.specs.inner.Explained.{unexplained}
use Rattle.lam_query.specs.inner.Kept.{fault_after, AllFit}
use Rattle.lam_query.proofs.mismatches.push_unexplained.Given as goal

abbrev pub invariant-loop-i : goal.invariant-loop-i
invariant-loop-i l =
    AllFit (map (λ f. fault_after l.bytes (fault_of f)) l.faults)
    → map explained_of l.all.items ++ map unexplained (map (λ f. fault_after l.bytes (fault_of f)) (drop l.i l.faults))
    ≡ map explained_of l.fn.all.items ++ map unexplained (map (λ f. fault_after l.bytes (fault_of f)) l.faults)
