-- Matching the fields of two record types in a table.
use Rattle.std.specs.Prelude.{◌≡◌, ℕ, ◌<◌, List, [], ◌∷◌, String, string_bytes, IfSome, IfNone}
use Rattle.std.specs.declared.alloc.Global.{Global}
use Rattle.lam_rules.specs.Types.{Typ, Has, IsAbsent}
use Rattle.lam_rules.specs.Numbers.{type_of, fields_over, AreEarlier}
use Rattle.lam_rules.specs.declared.numbers.TyNo.{TyNo}
use Rattle.lam_lattice.specs.declared.matching.Match.{Match}

-- a field of the first type, with the type id that the second has under its label, if any
pub record IsMatch (right : List (String Global × TyNo)) (f : String Global × TyNo) (m : Match) : Type 0 where
  pub label : string_bytes m.label ≡ string_bytes f.0
  pub left : m.left ≡ f.1
  pub below : IfSome m.right (λ number. (n : ℕ) → AreEarlier n right → number.index < n)
  pub some : IfSome m.right (λ number. (ts : List Typ) → Has (string_bytes f.0) (type_of ts number) (fields_over ts right))
  pub none : IfNone m.right ((ts : List Typ) → IsAbsent (string_bytes f.0) (fields_over ts right))

-- one match for each field of the first type, in order
abbrev pub AreMatches : List (String Global × TyNo) → List (String Global × TyNo) → List Match → Type 0
AreMatches right [] [] = Unit {0}
AreMatches right (f ∷ fs) (m ∷ ms) = IsMatch right f m × AreMatches right fs ms
AreMatches right _ _ = ⊥

-- all ids in the matches are less than the bound
abbrev pub AreMatchesBelow : ℕ → List Match → Type 0
AreMatchesBelow n [] = Unit {0}
AreMatchesBelow n (m ∷ ms) = (m.left.index < n) × IfSome m.right (λ number. number.index < n) × AreMatchesBelow n ms
