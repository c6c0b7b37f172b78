use Rattle.std.proofs.Common.{◌≡◌, ◌++◌, drop, map}
use Rattle.serde_json.specs.View.{view}
use Rattle.lam_query.specs.Views.{entry_of}
use Rattle.lam_session.specs.Derivations.{entry_value}
use Rattle.lam_session.proofs.values.derivations.context_value.Given as goal

-- the values so far, and those of the entries to come, are all
abbrev pub invariant-loop-entry : goal.invariant-loop-entry
invariant-loop-entry l = map view l.values.items ++ map entry_value (map entry_of (drop l.entry-index l.entries)) ≡ map entry_value (map entry_of l.entries)
