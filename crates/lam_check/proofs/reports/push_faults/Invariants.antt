use Rattle.std.proofs.Common.{◌≡◌, ◌++◌, drop, map, flat_map, string_bytes}
use Rattle.lam_query.specs.Views.{explained_of}
use Rattle.lam_check.specs.Reports.{fault_report}
use Rattle.lam_check.proofs.reports.push_faults.Given as goal

-- what is written, and the faults that are left, are all
abbrev pub invariant-loop-explained : goal.invariant-loop-explained
invariant-loop-explained l =
    string_bytes l.out ++ flat_map (fault_report l.paint l.name l.doc.text) (map explained_of (drop l.explained-index l.faults))
    ≡ string_bytes l.initial.out ++ flat_map (fault_report l.paint l.name l.doc.text) (map explained_of l.faults)
