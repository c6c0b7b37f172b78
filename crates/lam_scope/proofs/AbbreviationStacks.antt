-- How a stack of abbreviations is seen.
use Rattle.std.proofs.Common.{◌≡◌, List, [], ◌∷◌, ◌++◌}
use Rattle.lam_scope.specs.declared.abbreviations.Abbreviation.{Abbreviation as RustAbbreviation}
use Rattle.lam_scope.specs.Abbreviations.{abbreviation_of, abbreviations_in}
use Rattle.lam_scope.proofs.StackViews.{stacked-push}

pub abbreviations_in-push : (stack : List RustAbbreviation) (a : RustAbbreviation) → abbreviations_in (stack ++ a ∷ []) ≡ abbreviation_of a ∷ abbreviations_in stack
abbreviations_in-push stack a = stacked-push abbreviation_of [] stack a

pub ruleset abbreviations = (abbreviations_in-push)
