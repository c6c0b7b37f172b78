-- Faults that are in order are in order as values, too.
use Rattle.std.proofs.Common.{◌≡◌, ℕ, ◌+◌, ◌<◌, ◌≤◌, List, [], ◌∷◌, map, length, get_or, false, arith}
use Rattle.std.specs.List.Sorted.{IsSortedBy}
use Rattle.std.proofs.lemmas.List.{length-map, get_or-map}
use Rattle.lam_query.specs.declared.answers.ExplainedFault.{ExplainedFault}
use Rattle.lam_query.specs.declared.answers.Fault.{Fault as RustFault}
use Rattle.lam_query.specs.Faults.{is_before}
use Rattle.lam_query.specs.Views.{fault_of}

pub sorted_seen : (faults : List RustFault)
    → ((k : ℕ) (d : RustFault) → 0 ≤ k → k + 1 < length faults → is_before (fault_of (get_or faults (k + 1) d)) (fault_of (get_or faults k d)) ≡ false)
    → IsSortedBy is_before (map fault_of faults)
sorted_seen [] h = λ k d low high. absurd (omega arith)
sorted_seen (x ∷ xs) h = λ k d low high.
    let n = length-map (x ∷ xs) fault_of in
    let p : k + 1 < length (x ∷ xs) = omega arith in
    let q : k < length (x ∷ xs) = omega arith in
    rw (get_or-map fault_of (x ∷ xs) (k + 1) x d p) (rw (get_or-map fault_of (x ∷ xs) k x d q) (h k x low p))

-- explained ones
pub explained_sorted : (all : List ExplainedFault)
    → ((k : ℕ) (d : ExplainedFault) → 0 ≤ k → k + 1 < length all → is_before (fault_of (get_or all (k + 1) d).fault) (fault_of (get_or all k d).fault) ≡ false)
    → IsSortedBy is_before (map (λ (e : ExplainedFault). fault_of e.fault) all)
explained_sorted [] h = λ k d low high. absurd (omega arith)
explained_sorted (x ∷ xs) h = λ k d low high.
    let n = length-map (x ∷ xs) (λ (e : ExplainedFault). fault_of e.fault) in
    let p : k + 1 < length (x ∷ xs) = omega arith in
    let q : k < length (x ∷ xs) = omega arith in
    rw (get_or-map (λ (e : ExplainedFault). fault_of e.fault) (x ∷ xs) (k + 1) x d p)
    (rw (get_or-map (λ (e : ExplainedFault). fault_of e.fault) (x ∷ xs) k x d q) (h k x low p))
