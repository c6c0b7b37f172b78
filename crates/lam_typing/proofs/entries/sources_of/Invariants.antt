use Rattle.std.proofs.Common.{◌≡◌, ◌++◌, List, Option, drop, map}
use Rattle.lam_rules.specs.Types.{Typ}
use Rattle.lam_scope.specs.Views.{statements_of}
use Rattle.lam_typing.specs.Entries.{entry_from}
use Rattle.lam_typing.specs.inner.Notes.{entry_told}
use Rattle.lam_typing.proofs.entries.sources_of.Given as goal

-- what the sources so far tell, and the entries of the binders to come, are the entries of all
abbrev pub invariant-loop-i : goal.invariant-loop-i
invariant-loop-i l = (found : List (Option Typ)) → map (entry_told found) l.sources.items ++ map (entry_from (statements_of l.resolved) found) (drop l.i l.origins) ≡ map (entry_from (statements_of l.resolved) found) l.origins
