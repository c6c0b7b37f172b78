-- How the names of the binders in scope for a term of one command are stored: as a stack. For private contracts only.
use Rattle.std.specs.Prelude.{ℕ, List, [], Option}
use Rattle.std.specs.Option.{option_map}
use denote.Ref.{Bor}
use Rattle.lam_scope.specs.Names.{Name}
use Rattle.lam_scope.specs.Stacks.{stacked}

-- the names of a stack, innermost first
abbrev pub few_names : List (Option (Bor (List ℕ))) → List (Option Name)
few_names = stacked (option_map (λ x. x.now)) []
