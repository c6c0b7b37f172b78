-- Lists stored one after another in one list. Only their starts are stored: each ends where the next starts, and the last one at the end.
use Rattle.std.specs.Prelude.{ℕ, ◌≤◌, List, [], ◌∷◌, length}
use Rattle.std.specs.List.{slice_range}
use Rattle.std.specs.Coded.{×_prop, Unit-prop, le_prop}

-- where the first of these starts, or the end if there is none
abbrev pub first_start : {R : Type 0} → (R → ℕ) → List R → ℕ → ℕ
first_start start [] end = end
first_start start (r ∷ rs) end = start r

-- the values made of rows and their lists
abbrev pub sliced : {R T U : Type 0} → (R → ℕ) → (R → List T → U) → List T → List R → List U
sliced start row ts [] = []
sliced start row ts (r ∷ rs) = row r (slice_range ts (start r) (first_start start rs (length ts))) ∷ sliced start row ts rs

-- none starts after the next, nor past the end
abbrev pub AreInOrder : {R : Type 0} → (R → ℕ) → ℕ → List R → Type 0
AreInOrder start end [] = Unit {0}
AreInOrder start end (r ∷ rs) = (start r ≤ first_start start rs end) × AreInOrder start end rs

-- there is at most one proof of it
pub AreInOrder-prop : {R : Type 0} (start : R → ℕ) (end : ℕ) (rs : List R) → IsProp (AreInOrder start end rs)
AreInOrder-prop start end [] = Unit-prop
AreInOrder-prop start end (r ∷ rs) = ×_prop le_prop (AreInOrder-prop start end rs)
