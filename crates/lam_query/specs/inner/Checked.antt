-- What is known of the first commands of a document, each typed in an environment of its own.
use Rattle.std.specs.Prelude.{◌≡◌, List, [], ◌∷◌, length, Option, None}
use Rattle.lam_rules.specs.Types.{Typ}
use Rattle.lam_rules.specs.Typing.{Context, IsWellFormedContext}
use Rattle.lam_rules.specs.declared.rules.Dialect.{Dialect}
use Rattle.lam_syntax.specs.Trees.{CommandTree, definition, declaration}
use Rattle.lam_scope.specs.Names.{Name}
use Rattle.lam_scope.specs.Expansions.{Abbreviation}
use Rattle.lam_scope.specs.FreeNames.{free_in_command, free_type_names_in_command}
use Rattle.lam_scope.specs.Meanings.{MeanTheSame, StandForTheSame}
use Rattle.lam_scope.specs.Nameless.{abbreviations_after, names_after, first_too_large}
use Rattle.lam_scope.specs.Places.{Scope}
use Rattle.lam_scope.specs.PlacedTerms.{scope_after}
use Rattle.lam_typing.specs.Blaming.{Blamed}
use Rattle.lam_typing.specs.Progress.{IsLowest, Shown}
use Rattle.lam_query.specs.Sizes.{places_in}
pub use Rattle.lam_scope.specs.TypeNames.{abbreviations_seen_after as abbreviations_behind, binders_seen_after as names_behind}

-- the scope after these commands, given what is in scope at the first
abbrev pub scope_from : List Abbreviation → List (Option Name) → Scope → List CommandTree → Scope
scope_from bs xs s [] = s
scope_from bs xs s (c ∷ cs) = scope_from (abbreviations_after bs c) (names_after xs c) (scope_after bs xs s c) cs

-- the scope after the first commands of a document
abbrev pub scope_behind : List CommandTree → Scope
scope_behind cs = scope_from [] [] [] cs

-- the context after a command that binds this entry
abbrev pub context_after : Context → CommandTree → Option Typ → Context
context_after g (definition w t) entry = entry ∷ g
context_after g (declaration w u) entry = entry ∷ g
context_after g c entry = g

-- The least context after these commands, with an entry for each name, and what was found for their terms, none of which is over the size limit.
pub record AreChecked (done : List CommandTree) (g : Context) (found : List (Option Typ)) (blames : List Blamed) (d : Dialect) : Type 0 where
  pub lowest : IsLowest (scope_behind done) g d
  pub lengths : length (names_behind done) ≡ length g
  pub shown : Shown (places_in done) 0 found blames d
  pub none_too_large : first_too_large [] done ≡ None

-- An environment for one command: abbreviations, names and their entries, in which its free names and type names mean what they mean after these commands, which have
-- this context.
pub record IsEnvironmentFor (c : CommandTree) (done : List CommandTree) (g : Context)
    (types : List Abbreviation) (names : List (Option Name)) (entries : Context) : Type 0 where
  pub wf : IsWellFormedContext entries
  pub lengths : length names ≡ length entries
  pub names_mean : MeanTheSame (free_in_command c) (names_behind done) g names entries
  pub types_stand : StandForTheSame (free_type_names_in_command c) (abbreviations_behind done) types
