-- What a `TypeChecker` holds, and what it promises of one command.
use Rattle.std.specs.Prelude.{◌+◌, ℕ, ◌≡◌, List, [], ◌∷◌, length, None, IsTrue, IsFalse}
use Rattle.std.specs.Borrow.{Lends, MutBor, Fml}
use Rattle.lam_rules.specs.Types.{Typ, bool, nat, unit}
use Rattle.lam_rules.specs.Typing.{Context}
use Rattle.lam_rules.specs.Numbers.{IsNumberOf}
use Rattle.lam_rules.specs.declared.rules.Dialect.{Dialect}
use Rattle.lam_rules.specs.contracts.table.TyTable as tables
use Rattle.lam_scope.specs.Places.{Scope, Statement, places_of}
use Rattle.lam_sub.specs.Remembered.{AreRight, results_kept}
use Rattle.lam_typing.specs.Answers.{answer, answers, StandsWhereFound, AllStandIn}
use Rattle.lam_typing.specs.Binds.{BindsEntry}
use Rattle.lam_typing.specs.Progress.{IsLowest, Shown, next_is_too_large, ShownFront}
use Rattle.lam_typing.specs.Walk.{blames_of}
use Rattle.lam_typing.specs.declared.checker.TypeChecker.{TypeChecker}
use Rattle.lam_typing.specs.declared.checker.Checked.{Checked}
use Rattle.lam_typing.specs.contracts.checker.TypeChecker as checkers

-- the types of its table, by type id
abbrev pub types_in : TypeChecker → List Typ
types_in c = c.table

-- the dialect that it uses
abbrev pub dialect_in : TypeChecker → Dialect
dialect_in c = c.verdicts.dialect

-- how many types and memoized results it has
abbrev pub size_in : TypeChecker → ℕ
size_in c = length c.table + results_kept c.verdicts

-- its memo of subtyping and its type ids of constants are right, and it looks at all subterms
pub record IsSoundChecker (c : TypeChecker) : Type 0 where
  pub verdicts : AreRight c.table c.verdicts
  pub boolean : IsNumberOf c.table c.leaves.boolean bool
  pub natural : IsNumberOf c.table c.leaves.natural nat
  pub unit : IsNumberOf c.table c.leaves.unit unit
  pub last : c.last ≡ None

-- the same, over these types
abbrev pub with_types : TypeChecker → List Typ → TypeChecker
with_types c ts = record c { table = ts }

-- when the loan of the table ends, the checker has the types that are then in it
abbrev pub LendsTypes : MutBor TypeChecker → MutBor (List Typ) → Fml
LendsTypes c t = Lends checkers.the_row tables.the_row c t (with_types c.now)

-- the result for a command in this context of outer binders: the types of all its subterms and the entry of what it binds, or the types of those before the first over
-- the size limit
pub record IsChecked (ts : List Typ) (g : Context) (statement : Statement) (c : Checked) (d : Dialect) : Type 0 where
  pub stand : AllStandIn ts c.types.items
  pub entry_stands : StandsWhereFound ts c.entry
  pub entry : IsTrue c.complete → (s : Scope) → IsLowest s g d → BindsEntry s statement (answer ts c.entry) d
  pub all : IsTrue c.complete → (s : Scope) → IsLowest s g d → Shown (places_of s (statement ∷ [])) 0 (answers ts c.types.items) (blames_of c.blames.items) d
  pub front : IsFalse c.complete → (s : Scope) → IsLowest s g d → ShownFront (places_of s (statement ∷ [])) 0 (answers ts c.types.items) (blames_of c.blames.items) next_is_too_large d
