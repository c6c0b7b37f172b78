use Rattle.std.proofs.Common.{◌≡◌, ◌++◌, drop, map, flat_map, string_bytes}
use Rattle.lam_query.specs.Views.{entry_of}
use Rattle.lam_check.specs.Verdicts.{next_entry}
use Rattle.lam_check.proofs.verdicts.push_others.Given as goal

-- what is written, and the entries that are left, are all
abbrev pub invariant-loop-entry : goal.invariant-loop-entry
invariant-loop-entry l =
    string_bytes l.out ++ flat_map next_entry (map entry_of (drop l.entry-index l.entries)) ≡ string_bytes l.initial.out ++ flat_map next_entry (map entry_of l.entries)
