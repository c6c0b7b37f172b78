-- How a stack of the binders that are seen is seen.
use Rattle.std.proofs.Common.{◌≡◌, List, [], ◌∷◌, ◌++◌}
use Rattle.lam_scope.specs.declared.seen.SeenBinder.{SeenBinder}
use Rattle.lam_scope.specs.TableViews.{entry_of, entries_of}
use Rattle.lam_scope.proofs.StackViews.{stacked-push}

pub entries_of-push : (stack : List SeenBinder) (b : SeenBinder) → entries_of (stack ++ b ∷ []) ≡ entry_of b ∷ entries_of stack
entries_of-push stack b = stacked-push entry_of [] stack b

pub ruleset seen_stacks = (entries_of-push)
