-- Memoized results for pairs of type ids.
use Rattle.std.specs.Prelude.{◌↔◌, ◌+◌, ◌&&◌, ℕ, Bool, List, Option, IfSome, IfNone, IsTrue, eqb}
use Rattle.std.specs.HashMap.{HashMap, get, hash_map_len}
use Rattle.std.specs.declared.hash.FoldHasher.{FoldHasher}
use Rattle.std.specs.declared.hash.BuildHasherDefault.{BuildHasherDefault}
use Rattle.lam_rules.specs.Types.{Typ}
use Rattle.lam_rules.specs.Numbers.{type_of, Stands}
use Rattle.lam_rules.specs.Subtyping.{IsBelow}
use Rattle.lam_rules.specs.declared.rules.Dialect.{Dialect}
use Rattle.lam_rules.specs.declared.numbers.TyNo.{TyNo}
use Rattle.lam_rules.specs.declared.numbers.Shape.{Shape}
use Rattle.lam_sub.specs.BoundOrder.{JoinsInOrder, MeetsInOrder}
use Rattle.lam_sub.specs.Bounds.{IsJoin, IsMeet, HaveNoMeet}
use Rattle.lam_sub.specs.declared.verdicts.Verdicts.{Verdicts}

-- both ids are in the table
abbrev pub BothStand : List Typ → TyNo × TyNo → Type 0
BothStand ts pair = Stands ts pair.0 × Stands ts pair.1

-- the answer says whether the first type is a subtype of the second
pub record IsVerdict (ts : List Typ) (d : Dialect) (pair : TyNo × TyNo) (is_below : Bool) : Type 0 where
  pub stand : BothStand ts pair
  pub verdict : IsTrue is_below ↔ IsBelow (type_of ts pair.0) (type_of ts pair.1) d

-- the id is that of the least common supertype, in the order of the first type
pub record IsJoinOf (ts : List Typ) (d : Dialect) (pair : TyNo × TyNo) (number : TyNo) : Type 0 where
  pub stand : BothStand ts pair
  pub stands : Stands ts number
  pub join : IsJoin (type_of ts pair.0) (type_of ts pair.1) (type_of ts number) d
  pub order : JoinsInOrder (type_of ts pair.0) (type_of ts pair.1) (type_of ts number)

-- the id is that of the greatest common subtype, in the order of the first type, and there is no id if there is no common subtype
pub record IsMeetOf (ts : List Typ) (d : Dialect) (pair : TyNo × TyNo) (found : Option TyNo) : Type 0 where
  pub stand : BothStand ts pair
  pub stands : IfSome found (Stands ts)
  pub some : IfSome found (λ number. IsMeet (type_of ts pair.0) (type_of ts pair.1) (type_of ts number) d)
  pub order : IfSome found (λ number. MeetsInOrder (type_of ts pair.0) (type_of ts pair.1) (type_of ts number))
  pub none : IfNone found (HaveNoMeet (type_of ts pair.0) (type_of ts pair.1) d)

-- the result of `==` on two pairs
abbrev pub equal_pairs : TyNo × TyNo → TyNo × TyNo → Bool
equal_pairs p q = eqb p.0.index q.0.index && eqb p.1.index q.1.index

-- whether the first of a pair is a subtype of the second, if memoized
abbrev pub verdict_kept : Verdicts → TyNo × TyNo → Option Bool
verdict_kept verdicts = get equal_pairs verdicts.below

-- the id of the join of a pair, if memoized
abbrev pub join_kept : Verdicts → TyNo × TyNo → Option TyNo
join_kept verdicts = get equal_pairs verdicts.joins

-- the meet of a pair, if memoized: its id, or None if there is no meet
abbrev pub meet_kept : Verdicts → TyNo × TyNo → Option (Option TyNo)
meet_kept verdicts = get equal_pairs verdicts.meets

-- how many results are memoized
abbrev pub results_kept : Verdicts → ℕ
results_kept verdicts = hash_map_len verdicts.below + (hash_map_len verdicts.joins + hash_map_len verdicts.meets)

-- each result in the map is correct for its pair
abbrev pub AllKept : {X : Type 0} → (TyNo × TyNo → X → Type 0) → HashMap (TyNo × TyNo) X (BuildHasherDefault FoldHasher) → Type 0
AllKept IsAnswer map = (pair : TyNo × TyNo) → IfSome (get equal_pairs map pair) (IsAnswer pair)

-- all memoized results are correct for the types of this table
pub record AreRight (ts : List Typ) (verdicts : Verdicts) : Type 0 where
  pub below : AllKept (IsVerdict ts verdicts.dialect) verdicts.below
  pub joins : AllKept (IsJoinOf ts verdicts.dialect) verdicts.joins
  pub meets : AllKept (IsMeetOf ts verdicts.dialect) verdicts.meets

-- Bool, Nat, Unit and Top
abbrev pub IsConstant : Shape → Type 0
IsConstant (Shape.Arrow parameter outcome) = ⊥
IsConstant (Shape.Record fields) = ⊥
IsConstant _ = Unit {0}
