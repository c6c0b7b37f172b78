-- What names and type names mean to a command: for a name, the entry of its binder in a context; for a type name, what it stands for.
use Rattle.std.specs.Prelude.{◌≡◌, List, [], ◌∷◌, Option, Some, None, if◌then◌else◌}
use Rattle.std.specs.List.{AllByRecursion}
use Rattle.lam_rules.specs.Types.{Typ}
use Rattle.lam_rules.specs.Typing.{Context}
use Rattle.lam_scope.specs.Names.{Name, binds}
use Rattle.lam_scope.specs.Expansions.{Abbreviation, meaning, is_bound}

-- The entry of the innermost of these binders with the name, or none if there is no such binder. The context lists the entries of the binders, one by one.
abbrev pub entry_named : Name → List (Option Name) → Context → Option (Option Typ)
entry_named x [] g = None
entry_named x (b ∷ bs) [] = None
entry_named x (b ∷ bs) (entry ∷ g) = if binds b x then Some entry else entry_named x bs g

-- each of the names has the same entry in both environments, or is unbound in both
abbrev pub MeanTheSame : List Name → List (Option Name) → Context → List (Option Name) → Context → Type 0
MeanTheSame names bs g cs h = AllByRecursion (λ x. entry_named x bs g ≡ entry_named x cs h) names

-- Each of the type names stands for the same, and is bound under both or unbound under both: a bound type name may stand for no type.
abbrev pub StandForTheSame : List Name → List Abbreviation → List Abbreviation → Type 0
StandForTheSame names bs cs = AllByRecursion (λ x. (meaning x bs ≡ meaning x cs) × (is_bound x bs ≡ is_bound x cs)) names
