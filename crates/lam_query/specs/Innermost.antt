-- A law of hovers: they are about the innermost term.
use Rattle.std.specs.Prelude.{◌≡◌, ℕ, List, true}
use Rattle.std.specs.List.{All}
use Rattle.lam_scope.specs.Nesting.{IsWithin}
use Rattle.lam_scope.specs.PlacedTerms.{PlacedTree, term_of}
use Rattle.lam_query.specs.Hovers.{has_byte}

-- each of the terms that contain byte o encloses this one
abbrev pub IsInnermost : ℕ → List PlacedTree → PlacedTree → Type 0
IsInnermost o terms t = All (λ other. has_byte o (term_of other) ≡ true → IsWithin (term_of t).span (term_of other).span) terms
