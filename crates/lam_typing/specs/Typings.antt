-- What a `Typing` holds, and what an analysis promises of it.
use Rattle.std.specs.Prelude.{◌≡◌, ℕ, List, [], length, map, take, get_or, Option, Some, None}
use Rattle.lam_rules.specs.Types.{Typ}
use Rattle.lam_rules.specs.Typing.{Context, TypingTree, type_in, IsTyping}
use Rattle.lam_rules.specs.declared.rules.Dialect.{Dialect}
use Rattle.lam_scope.specs.Places.{Place, Statement, places_of, place_numbered}
use Rattle.lam_scope.specs.Sights.{sight_numbered}
use Rattle.lam_scope.specs.declared.numbers.Origin.{Origin}
use Rattle.lam_typing.specs.Blaming.{Blamed, AreBlamed}
use Rattle.lam_typing.specs.Analysis.{AreLeast, AreSmall, IsFirstTooLarge}
use Rattle.lam_typing.specs.Entries.{IsLeastFrom, HasTermAmong, entry_from}
use Rattle.lam_typing.specs.Answers.{answers}
use Rattle.lam_typing.specs.Walk.{blames_of}
use Rattle.lam_typing.specs.declared.fault.TypingFault.{TypingFault}
use Rattle.lam_typing.specs.declared.typing.Typing.{Typing}
use Rattle.lam_typing.specs.LeastTypes.{AreLeastEntries}

-- the types of its table, by type id
abbrev pub types_of : Typing → List Typ
types_of t = t.table

-- the type of each subterm that was analysed, in order
abbrev pub found_of : Typing → List (Option Typ)
found_of t = answers t.table t.found.items

-- the context entry of each binder, by binder index
abbrev pub entries_in : Typing → List (Option Typ)
entries_in t = answers t.table t.entries.items

-- the subterms at fault, each with its code
abbrev pub blamed_in : Typing → List Blamed
blamed_in t = blames_of t.blames.items

-- the dialect that it was analysed in
abbrev pub dialect_of : Typing → Dialect
dialect_of t = t.dialect

-- exactly these subterms were analysed: each has its least type or none, within the size limit, and those at fault are listed in order
pub record IsAnalysis (ps : List Place) (t : Typing) (d : Dialect) : Type 0 where
  pub least : AreLeast ps (found_of t) d
  pub small : AreSmall (found_of t)
  pub blames : AreBlamed 0 ps (blamed_in t) d

-- an error other than a failed allocation names the first subterm over the size limit
abbrev pub IsFaultOf : TypingFault → List Place → Dialect → Type 0
IsFaultOf (TypingFault.TooLarge place) ps d = IsFirstTooLarge ps place.0 d
IsFaultOf TypingFault.Memory ps d = Unit {0}

-- A typing is one of this document: it has the least types of its first subterms, or none where a subterm has none.
pub record IsTypingOf (ss : List Statement) (t : Typing) : Type 0 where
  pub least : AreLeast (take (length (found_of t)) (places_of [] ss)) (found_of t) (dialect_of t)

-- the entry of each binder is given by its origin, and is the least one, provided that the term that it may come from was analysed
pub record AreEntries (ss : List Statement) (origins : List Origin) (t : Typing) : Type 0 where
  pub each : entries_in t ≡ map (entry_from ss (found_of t)) origins
  pub least : (o : Origin) → HasTermAmong o (length (found_of t)) → IsLeastFrom ss o (entry_from ss (found_of t) o) (dialect_of t)

-- the entries of the binders in scope at a subterm, innermost first
abbrev pub context_at : List Statement → Typing → ℕ → Context
context_at ss t n = map (entry_from ss (found_of t)) (sight_numbered ss n)

-- a proof, in the context of least entries, of the type found for a subterm
pub record IsProofAt (ss : List Statement) (t : Typing) (n : ℕ) (p : TypingTree) : Type 0 where
  pub least : AreLeastEntries (place_numbered ss n).scope (context_at ss t n) (dialect_of t)
  pub proof : IsTyping (context_at ss t n) (place_numbered ss n).here p (dialect_of t)
  pub type : get_or (found_of t) n None ≡ Some (type_in p)
