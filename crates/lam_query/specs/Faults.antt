-- Diagnostics, and their order.
use Rattle.std.specs.Prelude.{◌≡◌, List, [], ◌∷◌, Bool, true, false, codes, if◌then◌else◌}
use Rattle.std.specs.Str.{bytes_eq}
use Rattle.std.specs.List.Sorted.{IsPermutation, IsSortedBy}
use Rattle.std.specs.Ordering.{is_lt, nat_cmp, ordering_then}
use Rattle.std.specs.Cmp.Lexicographic.{slice_cmp}
use Rattle.lam_rules.specs.Texts.{Text}
use Rattle.lam_token.specs.declared.span.Span.{Span}

-- a diagnostic: its code as printed, and its span
pub record Fault : Type 0 where
  pub code : Text
  pub span : Span

-- whether one comes before the other: by start, then by end, then by the bytes of the code
abbrev pub is_before : Fault → Fault → Bool
is_before a b = is_lt (ordering_then (ordering_then (nat_cmp a.span.start b.span.start) (nat_cmp a.span.end b.span.end)) (slice_cmp nat_cmp a.code b.code))

-- the same diagnostics, each as often, in that order
pub record AreInOrder (faults ordered : List Fault) : Type 0 where
  pub same : IsPermutation faults ordered
  pub sorted : IsSortedBy is_before ordered

-- all codes of diagnostics
abbrev pub fault_codes : List Text
fault_codes =
    codes "B1" ∷ codes "B2" ∷ codes "P1" ∷ codes "P2" ∷ codes "L1" ∷ codes "L2" ∷ codes "Y1" ∷ codes "Y2" ∷ codes "E1"
    ∷ codes "E2" ∷ codes "E3" ∷ codes "E4" ∷ codes "E5" ∷ codes "E6" ∷ codes "E7" ∷ codes "E8" ∷ codes "E9" ∷ []

-- the text is one of these
abbrev pub is_among : Text → List Text → Bool
is_among code [] = false
is_among code (c ∷ cs) = if bytes_eq code c then true else is_among code cs

-- the diagnostic has one of these codes
abbrev pub HasKnownCode : Fault → Type 0
HasKnownCode f = is_among f.code fault_codes ≡ true
