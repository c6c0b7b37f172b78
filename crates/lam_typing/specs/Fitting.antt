-- Entries of a given context, compared with the entries found.
use Rattle.std.specs.Prelude.{◌≡◌, ℕ, List, get_or, Option, Some, None}
use Rattle.lam_rules.specs.Subtyping.{IsBelow}
use Rattle.lam_rules.specs.Types.{Typ}
use Rattle.lam_rules.specs.declared.rules.Dialect.{Dialect}
use Rattle.lam_scope.specs.declared.numbers.Origin.{Origin}
use Rattle.lam_scope.specs.declared.numbers.Origin.TheVariants.{Term as TermAt, TypeName}
use Rattle.lam_typing.specs.Typings.{entries_in}
use Rattle.lam_typing.specs.declared.typing.Typing.{Typing}

-- An entry fits a binder with this origin, by the least entry found of it: that of a term if the least type is a subtype of it, any other if it is equal.
abbrev pub FitsFound : Origin → (found entry : Option Typ) → Dialect → Type 0
FitsFound (TermAt p) (Some t) (Some u) d = IsBelow t u d
FitsFound (TermAt p) None entry d = entry ≡ None
FitsFound (TermAt p) (Some t) None d = ⊥
FitsFound _ found entry d = entry ≡ found

-- the entry fits the binder with this number, by the one found of it
abbrev pub FitsAt : List Origin → Typing → Dialect → (binder : ℕ) → (entry : Option Typ) → Type 0
FitsAt origins analysed d binder entry = FitsFound (get_or origins binder TypeName) (get_or (entries_in analysed) binder None) entry d
