-- A command behind the commands of its text, and the same command behind others that give its names the same meanings.
use Rattle.std.proofs.Common.{◌≡◌, List, [], ◌++◌, length, Option, None}
use Rattle.lam_rules.specs.Typing.{Context}
use Rattle.lam_rules.specs.declared.rules.Dialect.{Dialect}
use Rattle.lam_syntax.specs.Trees.{CommandTree}
use Rattle.lam_scope.specs.Alike.{AreAlike}
use Rattle.lam_scope.specs.FreeNames.{free_in_command, free_type_names_in_command}
use Rattle.lam_scope.specs.Meanings.{MeanTheSame, StandForTheSame}
use Rattle.lam_scope.specs.Nameless.{first_too_large}
use Rattle.lam_scope.specs.Names.{Name}
use Rattle.lam_scope.specs.PlacedTerms.{PlacedTree, term_of, document_terms}
use Rattle.lam_scope.specs.WellFormed.{IsWellFormedScope}
use Rattle.lam_typing.specs.LeastTypes.{AreLeastEntries}
use Rattle.lam_typing.specs.Progress.{IsLowest}
use Rattle.lam_query.specs.inner.Checked.{abbreviations_behind, names_behind, scope_behind}
use Rattle.lam_query.proofs.TermsAlone.{bare}

-- All that the command takes from outside means the same behind the commands `pre`, which have no terms, as behind the commands `done`. The context behind `pre` is h,
-- the only one of least entries; that behind `done` is g.
pub record IsSeenAlike (done pre : List CommandTree) (g h : Context) (c : CommandTree) (d : Dialect) : Type 0 where
  pub lowest : IsLowest (scope_behind done) g d
  pub lengths : length (names_behind done) ≡ length g
  pub alone_lowest : IsLowest (scope_behind pre) h d
  pub alone_lengths : length (names_behind pre) ≡ length h
  pub written : (k : Context) → AreLeastEntries (scope_behind pre) k d → k ≡ h
  pub names_mean : MeanTheSame (free_in_command c) (names_behind done) g (names_behind pre) h
  pub types_stand : StandForTheSame (free_type_names_in_command c) (abbreviations_behind done) (abbreviations_behind pre)
  pub no_terms : document_terms pre ≡ []
  pub none_too_large : first_too_large [] pre ≡ None

-- A term p of the command behind `done`, and the same term q behind `pre`. Both see the same own binders of the command, and with the same entries for these are alike.
pub record IsSameTerm (done pre : List CommandTree) (g h : Context) (p q : PlacedTree) (d : Dialect) : Type 0 where
  pub own : List (Option Name)
  pub names : (term_of p).names ≡ own ++ names_behind done
  pub alone_names : (term_of q).names ≡ own ++ names_behind pre
  pub alone_wf : IsWellFormedScope (term_of q).place.scope
  pub alone_entries : (k : Context) → AreLeastEntries (term_of q).place.scope k d → (e : Context) × (length e ≡ length own) × (k ≡ e ++ h)
  pub least : (e : Context) → length e ≡ length own → AreLeastEntries (term_of q).place.scope (e ++ h) d → AreLeastEntries (term_of p).place.scope (e ++ g) d
  pub lowest : (e : Context) → length e ≡ length own → IsLowest (term_of q).place.scope (e ++ h) d → IsLowest (term_of p).place.scope (e ++ g) d
  pub alike : (e : Context) → length e ≡ length own → AreAlike (e ++ g) (term_of p).place.here (e ++ h) (term_of q).place.here
  pub same : bare p ≡ bare q
