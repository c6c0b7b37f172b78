-- What a walk holds, and what the contracts of its steps say. A walk is a `TypeChecker` at work.
use Rattle.std.specs.Prelude.{◌≡◌, ◌<◌, ◌≤◌, ℕ, ◌+◌, List, [], ◌∷◌, ◌++◌, length, Bool, Option, Some, None, Result, Ok, Err, String}
use Rattle.std.specs.declared.alloc.Global.{Global}
use denote.Ref.{Bor}
use Rattle.lam_rules.specs.Types.{Typ, bool, nat, unit}
use Rattle.lam_rules.specs.Terms.{Term, TermFields}
use Rattle.lam_rules.specs.Texts.{Text}
use Rattle.lam_rules.specs.Typing.{Context}
use Rattle.lam_rules.specs.Numbers.{IsNumberOf, Keeps, AreEarlier, fields_over}
use Rattle.lam_rules.specs.declared.rules.Dialect.{Dialect}
use Rattle.lam_rules.specs.declared.numbers.TyNo.{TyNo}
use Rattle.lam_scope.specs.Places.{Scope, Place, places, field_places, Statement, places_of}
use Rattle.lam_sub.specs.Remembered.{AreRight}
use Rattle.lam_typing.specs.Blaming.{Blamed}
use Rattle.lam_typing.specs.Analysis.{IsSmallType}
use Rattle.lam_typing.specs.Answers.{answer, answers, StandsWhereFound, AllStandIn, context_under}
use Rattle.lam_typing.specs.Binds.{BindsEntry}
use Rattle.lam_typing.specs.Progress.{IsLowest, Progress, Went, WentOver, next_is_too_large, enough, StoppedIn, AreFieldsAt, if_all, IsLarge}
use Rattle.lam_scope.specs.declared.numbers.Place.{Place as PlaceNumber}
use Rattle.lam_typing.specs.declared.blame.Blame.{Blame}
use Rattle.lam_typing.specs.declared.checker.TypeChecker.{TypeChecker}
use Rattle.lam_typing.specs.declared.walking.Stop.{Stop}

-- what a `Blame` stands for
abbrev pub blamed_of : Blame → Blamed
blamed_of b = record { number = b.place.0; code = b.code.now }

-- what several stand for, in order
abbrev pub blames_of : List Blame → List Blamed
blames_of [] = []
blames_of (b ∷ bs) = blamed_of b ∷ blames_of bs

-- the types that a walk has found so far, and the subterms at fault
abbrev pub progress_of : TypeChecker → Progress
progress_of w = record { found = answers w.table w.found.items; blames = blames_of w.blames.items }

-- the context entries of the binders in scope, innermost first
abbrev pub entries_of : TypeChecker → Context
entries_of w = context_under w.table w.entries.items

-- a subterm with this index comes after the last one requested
abbrev pub IsBehind : Option PlaceNumber → ℕ → Type 0
IsBehind None n = ⊥
IsBehind (Some last) n = last.0 < n

-- a subterm with this index is the last one requested, or before it
abbrev pub IsUpTo : Option PlaceNumber → ℕ → Type 0
IsUpTo None n = Unit {0}
IsUpTo (Some last) n = n ≤ last.0

-- this many subterms may have been found
abbrev pub IsWithin : Option PlaceNumber → ℕ → Type 0
IsWithin None n = Unit {0}
IsWithin (Some last) n = n ≤ last.0 + 1

-- its type ids are in its table, its memo and constants are right, and no more was found than requested
pub record IsSoundWalk (w : TypeChecker) : Type 0 where
  pub entries : AllStandIn w.table w.entries.items
  pub found : AllStandIn w.table w.found.items
  pub verdicts : AreRight w.table w.verdicts
  pub boolean : IsNumberOf w.table w.leaves.boolean bool
  pub natural : IsNumberOf w.table w.leaves.natural nat
  pub unit : IsNumberOf w.table w.leaves.unit unit
  pub room : IsWithin w.last (length w.found.items)

-- its table only grows, its dialect stays, and it stays sound
pub record Grows (old now : TypeChecker) : Type 0 where
  pub sound : IsSoundWalk now
  pub keeps : Keeps old.table now.table
  pub dialect : now.verdicts.dialect ≡ old.verdicts.dialect
  pub last : now.last ≡ old.last

-- it visited a term of this type, and has the same binders in scope as before
pub record WalkedOver (old now : TypeChecker) (e : Term) (found : Option TyNo) : Type 0 where
  pub entries : now.entries.items ≡ old.entries.items
  pub stands : StandsWhereFound now.table found
  pub over : WentOver (entries_of old) e (progress_of old) (progress_of now) (answer now.table found) old.verdicts.dialect

-- it stopped among these subterms: before one that is over the size limit or comes after the last one requested, or because allocation failed
abbrev pub HasStoppedAmong : Stop → Context → (Scope → List Place) → TypeChecker → TypeChecker → Dialect → Type 0
HasStoppedAmong Stop.TooLarge g ps old now d = StoppedIn g ps (progress_of old) (progress_of now) next_is_too_large d × IsUpTo now.last (length now.found.items)
HasStoppedAmong Stop.Enough g ps old now d = StoppedIn g ps (progress_of old) (progress_of now) enough d × IsBehind now.last (length now.found.items)
HasStoppedAmong Stop.Memory g ps old now d = Unit {0}

-- it stopped among the subterms of a term
abbrev pub HasStopped : Stop → TypeChecker → TypeChecker → Term → Type 0
HasStopped stop old now e = HasStoppedAmong stop (entries_of old) (λ s. places s e) old now old.verdicts.dialect

-- it stopped among the subterms of a record's terms
abbrev pub HasStoppedInFields : Stop → TypeChecker → TypeChecker → TermFields → Type 0
HasStoppedInFields stop old now es = HasStoppedAmong stop (entries_of old) (λ s. field_places s es) old now old.verdicts.dialect

-- it visited a term, or stopped among its subterms
abbrev pub HasWalked : Result (Option TyNo) Stop → TypeChecker → TypeChecker → Term → Type 0
HasWalked (Ok found) old now e = WalkedOver old now e found
HasWalked (Err stop) old now e = HasStopped stop old now e

-- it visited the terms of a record, and appended those that have a type to the parts
pub record FieldsWalked (old now : TypeChecker) (es : TermFields) (before after : List (String Global × TyNo)) (all : Bool) : Type 0 where
  pub entries : now.entries.items ≡ old.entries.items
  pub parts : List (String Global × TyNo)
  pub parts_are : after ≡ before ++ parts
  pub stand : AreEarlier (length now.table) parts
  pub went : Went (entries_of old) (λ s. field_places s es) (progress_of old) (progress_of now) old.verdicts.dialect
  pub fields : (s : Scope) → IsLowest s (entries_of old) old.verdicts.dialect → AreFieldsAt s es (if_all all (fields_over now.table parts)) old.verdicts.dialect

-- it visited the terms of a record, or stopped among their subterms
abbrev pub HasWalkedFields : Result Bool Stop → TypeChecker → TypeChecker → TermFields → List (String Global × TyNo) → List (String Global × TyNo) → Type 0
HasWalkedFields (Ok all) old now es before after = FieldsWalked old now es before after all
HasWalkedFields (Err stop) old now es before after = HasStoppedInFields stop old now es

-- the fault of the subterm with this index, if there is a code
abbrev pub blame_at : ℕ → Option (Bor Text) → List Blamed
blame_at n None = []
blame_at n (Some code) = record { number = n; code = code.now } ∷ []

-- it recorded the next subterm, with its fault if any
pub record Settles (old now : TypeChecker) (found : Option TyNo) (blame : Option (Bor Text)) : Type 0 where
  pub table : now.table ≡ old.table
  pub entries : now.entries.items ≡ old.entries.items
  pub found_is : now.found.items ≡ old.found.items ++ found ∷ []
  pub blames_are : blames_of now.blames.items ≡ blames_of old.blames.items ++ blame_at (length old.found.items) blame
  pub small : IsSmallType (answer old.table found)

-- it stopped at the next subterm
abbrev pub StopsAt : Stop → TypeChecker → TypeChecker → Option TyNo → Option (Bor Text) → Type 0
StopsAt Stop.TooLarge old now found blame = (now ≡ old) × IsLarge (answer old.table found) × IsUpTo old.last (length old.found.items)
StopsAt Stop.Enough old now found blame = (now ≡ old) × IsBehind old.last (length old.found.items)
StopsAt Stop.Memory old now found blame = Unit {0}

-- it recorded the next subterm, or stopped at it
abbrev pub HasSettled : Result (Option TyNo) Stop → TypeChecker → TypeChecker → Option TyNo → Option (Bor Text) → Type 0
HasSettled (Ok number) old now found blame = (number ≡ found) × Settles old now found blame
HasSettled (Err stop) old now found blame = StopsAt stop old now found blame

-- a statement is done: what is found for the statements after it, or where the walk stops among them, extends to all
pub record GoesOn (old now : TypeChecker) (statement : Statement) : Type 0 where
  pub went : (rest : List Statement) (end : TypeChecker)
      → Went (entries_of now) (λ s. places_of s rest) (progress_of now) (progress_of end) now.verdicts.dialect
      → Went (entries_of old) (λ s. places_of s (statement ∷ rest)) (progress_of old) (progress_of end) old.verdicts.dialect
  pub stopped : (rest : List Statement) (stop : Stop) (end : TypeChecker)
      → HasStoppedAmong stop (entries_of now) (λ s. places_of s rest) now end now.verdicts.dialect
      → HasStoppedAmong stop (entries_of old) (λ s. places_of s (statement ∷ rest)) old end old.verdicts.dialect

-- the entry of what a statement binds, in each scope with this lowest context
abbrev pub Binds : Context → Statement → Option Typ → Dialect → Type 0
Binds g statement entry d = (s : Scope) → IsLowest s g d → BindsEntry s statement entry d

-- it stopped in a statement, whatever follows
abbrev pub HasStoppedAt : Stop → TypeChecker → TypeChecker → Statement → Type 0
HasStoppedAt stop old now statement = (rest : List Statement) → HasStoppedAmong stop (entries_of old) (λ s. places_of s (statement ∷ rest)) old now old.verdicts.dialect
