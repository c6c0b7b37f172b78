-- From a walk to its typing. For private contracts only.
use Rattle.std.specs.Prelude.{◌≡◌, ℕ, ◌+◌, List, [], length, map, take, get_or, Bool, Option, Some, None, Result, Ok, Err, true, false}
use Rattle.lam_rules.specs.Types.{Typ}
use Rattle.lam_rules.specs.Typing.{IsWellFormedEntry}
use Rattle.lam_rules.specs.Numbers.{Keeps}
use Rattle.lam_rules.specs.declared.numbers.TyNo.{TyNo}
use Rattle.lam_scope.specs.Places.{Place, Statement}
use Rattle.lam_scope.specs.declared.numbers.Place.{Place as PlaceNumber}
use Rattle.lam_scope.specs.declared.numbers.Origin.{Origin}
use Rattle.lam_typing.specs.Entries.{entry_from}
use Rattle.lam_typing.specs.Answers.{answers}
use Rattle.lam_typing.specs.inner.Notes.{entry_told}
use Rattle.lam_typing.specs.Typings.{entries_in}
use Rattle.lam_typing.specs.declared.checker.Checked.{Checked}
use Rattle.lam_typing.specs.declared.noting.Source.{Source}
use Rattle.lam_typing.specs.declared.fault.TypingFault.{TypingFault}
use Rattle.lam_typing.specs.declared.typing.Typing.{Typing}
use Rattle.lam_typing.specs.declared.checker.TypeChecker.{TypeChecker}
use Rattle.lam_typing.specs.declared.walking.Stop.{Stop}

-- the subterms up to the last one requested
abbrev pub up_to : Option PlaceNumber → List Place → List Place
up_to None ps = ps
up_to (Some last) ps = take (last.0 + 1) ps

-- a walk that has found nothing yet
pub record Begins (w : TypeChecker) (asked : Option PlaceNumber) : Type 0 where
  pub entries : w.entries.items ≡ []
  pub found : w.found.items ≡ []
  pub blames : w.blames.items ≡ []
  pub last : w.last ≡ asked

-- these sources give the entries of the binders with these origins, whatever types are found
abbrev pub AreSourcesOf : List Statement → List Origin → List (Option Source) → Type 0
AreSourcesOf ss origins sources = (found : List (Option Typ)) → map (entry_told found) sources ≡ map (entry_from ss found) origins

-- the written types of binders have distinct labels
abbrev pub AreWellFormedSources : List (Option Source) → Type 0
AreWellFormedSources sources = (i : ℕ) → IsWellFormedEntry (entry_told [] (get_or sources i None))

-- what a walk found, with the entries of the binders of its document
pub record Completes (w : TypeChecker) (ss : List Statement) (origins : List Origin) (t : Typing) : Type 0 where
  pub keeps : Keeps w.table t.table
  pub found : t.found.items ≡ w.found.items
  pub entries : entries_in t ≡ map (entry_from ss (answers w.table w.found.items)) origins
  pub blames : t.blames.items ≡ w.blames.items
  pub dialect : t.dialect ≡ w.verdicts.dialect

-- the result of a walk that stopped early
abbrev pub IsEndOf : Stop → TypeChecker → List Statement → List Origin → Result Typing TypingFault → Type 0
IsEndOf Stop.Enough w ss origins (Ok t) = Completes w ss origins t
IsEndOf Stop.TooLarge w ss origins (Err (TypingFault.TooLarge place)) = place.0 ≡ length w.found.items
IsEndOf stop w ss origins (Err TypingFault.Memory) = Unit {0}
IsEndOf _ w ss origins r = ⊥

-- a checker that still has its types, memo and constants
pub record HoldsTheSame (old now : TypeChecker) : Type 0 where
  pub table : now.table ≡ old.table
  pub verdicts : now.verdicts ≡ old.verdicts
  pub leaves : now.leaves ≡ old.leaves
  pub last : now.last ≡ old.last

-- a checker that has found nothing yet of a command with these context entries
pub record IsReadyFor (scope : List (Option TyNo)) (w : TypeChecker) : Type 0 where
  pub entries : w.entries.items ≡ scope
  pub found : w.found.items ≡ []
  pub blames : w.blames.items ≡ []

-- a result that has all that a walk found
pub record HasFindingsOf (w : TypeChecker) (bound : Option TyNo) (all : Bool) (c : Checked) : Type 0 where
  pub types : c.types.items ≡ w.found.items
  pub blames : c.blames.items ≡ w.blames.items
  pub entry : c.entry ≡ bound
  pub complete : c.complete ≡ all

-- the result of checking one command, given how its walk ended
abbrev pub IsEndOfCheck : Result (Option TyNo) Stop → TypeChecker → Checked → Type 0
IsEndOfCheck (Ok entry) w c = HasFindingsOf w entry true c
IsEndOfCheck (Err Stop.Memory) w c = ⊥
IsEndOfCheck (Err stop) w c = HasFindingsOf w None false c
