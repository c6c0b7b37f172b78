-- The lowest context of a scope has its least entries.
use Rattle.std.proofs.Common.{[], ◌∷◌, Option, Some, None}
use Rattle.lam_rules.specs.Types.{Typ}
use Rattle.lam_rules.specs.Typing.{Context}
use Rattle.lam_rules.specs.declared.rules.Dialect.{Dialect}
use Rattle.lam_scope.specs.Places.{Binding, written, of_term, Scope}
use Rattle.lam_typing.specs.LeastTypes.{IsLeastEntry, AreLeastEntries}
use Rattle.lam_typing.specs.Progress.{IsLowest}

-- outside of a binder it is the lowest, too
pub lowest_outside : (b : Binding) (outside : Scope) (entry : Option Typ) (g : Context) (d : Dialect)
    → IsLowest (b ∷ outside) (entry ∷ g) d → IsLowest outside g d
lowest_outside b outside entry g d low = record {
  wf = low.wf.1;
  is_context = low.is_context.1;
  narrower = λ h c. (low.narrower (entry ∷ h) (low.is_context.0, c)).1;
}

-- and the binder's entry is its least
pub lowest_entry : (b : Binding) (outside : Scope) (entry : Option Typ) (g : Context) (d : Dialect)
    → IsLowest (b ∷ outside) (entry ∷ g) d → IsLeastEntry outside b entry d
lowest_entry (written w) outside entry g d low = low.is_context.0
lowest_entry (of_term e) outside (Some t) g d low = (low.is_context.0, λ u is. (low.narrower (Some u ∷ g) (is, low.is_context.1)).0)
lowest_entry (of_term e) outside None g d low = λ u is. low.is_context.0 is.0 u is.1 is.2

pub lowest_entries : (s : Scope) (g : Context) (d : Dialect) → IsLowest s g d → AreLeastEntries s g d
lowest_entries [] [] d low = tt
lowest_entries (b ∷ outside) (entry ∷ g) d low =
    (lowest_entry b outside entry g d low, lowest_entries outside g d (lowest_outside b outside entry g d low))
lowest_entries [] (entry ∷ g) d low = absurd low.is_context
lowest_entries (b ∷ outside) [] d low = absurd low.is_context
