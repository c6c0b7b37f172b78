-- Byte intervals of a text, and the blocks by which they are searched.
use Rattle.std.specs.Prelude.{ℕ, ◌≤◌, Bool, true, false, if◌then◌else◌, List, [], ◌∷◌, take, drop, ltb}
use Rattle.std.specs.Coded.{×_prop, Unit-prop, le_prop}
use Rattle.lam_scope.specs.declared.intervals.Interval.{Interval}

-- the empty interval, which is a part of every other
abbrev pub no_bytes : Interval
no_bytes = record { lowest = 18446744073709551615; highest = 0 }

-- the interval of one byte
abbrev pub one_byte : ℕ → Interval
one_byte n = record { lowest = n; highest = n }

-- whether an interval contains a byte
abbrev pub has : ℕ → Interval → Bool
has o s = if ltb o s.lowest then false else (if ltb s.highest o then false else true)

-- one interval within another
abbrev pub IsPart : Interval → Interval → Type 0
IsPart s t = (t.lowest ≤ s.lowest) × (s.highest ≤ t.highest)

-- several intervals, each within one
abbrev pub AreParts : List Interval → Interval → Type 0
AreParts [] t = Unit {0}
AreParts (s ∷ ss) t = IsPart s t × AreParts ss t

-- for each block of 64 intervals, one that contains them
abbrev pub AreRuns : List Interval → List Interval → Type 0
AreRuns [] [] = Unit {0}
AreRuns [] (s ∷ ss) = ⊥
AreRuns (r ∷ rs) ss = AreParts (take 64 ss) r × AreRuns rs (drop 64 ss)

-- There is at most one proof of each of these, so a struct may keep it as a ghost fact.

-- that intervals lie within one
AreParts-prop : (ss : List Interval) (t : Interval) → IsProp (AreParts ss t)
AreParts-prop [] t = Unit-prop
AreParts-prop (s ∷ ss) t = ×_prop (×_prop le_prop le_prop) (AreParts-prop ss t)

-- that intervals contain the blocks of others
pub AreRuns-prop : (rs ss : List Interval) → IsProp (AreRuns rs ss)
AreRuns-prop [] [] = Unit-prop
AreRuns-prop [] (s ∷ ss) = λ x y. absurd x
AreRuns-prop (r ∷ rs) ss = ×_prop (AreParts-prop (take 64 ss) r) (AreRuns-prop rs (drop 64 ss))
