-- The index of a type table, from shapes to type ids.
use Rattle.std.specs.Prelude.{Bool, List, MatchOption}
use Rattle.std.specs.HashMap.{HashMap, get}
use Rattle.std.specs.declared.hash.FoldHasher.{FoldHasher}
use Rattle.std.specs.declared.hash.BuildHasherDefault.{BuildHasherDefault}
use Rattle.lam_rules.specs.Entries.{IsAt, IsNowhere}
use Rattle.lam_rules.specs.declared.numbers.TyNo.{TyNo}
use Rattle.lam_rules.specs.declared.numbers.Shape.{Shape}
use Rattle.lam_rules.specs.declared.table.Entry.{Entry}
use Rattle.lam_rules.specs.contracts.numbers.ShapePartialEq.TheImpl as shape_eq

-- the result of `==` on two shapes
abbrev pub equal_shapes : Shape → Shape → Bool
equal_shapes = (shape_eq.ghosts).eq

-- the index has the id of the entry for each shape that an entry has, and nothing for other shapes
abbrev pub IsIndexOf : HashMap Shape TyNo (BuildHasherDefault FoldHasher) → List Entry → Type 0
IsIndexOf index es = (s : Shape) → MatchOption (get equal_shapes index s) (IsNowhere es s) (λ number. IsAt es number.index s)
