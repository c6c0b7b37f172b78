use Rattle.std.proofs.Common.{◌≡◌, ◌++◌, drop, map}
use Rattle.lam_query.specs.Views.{fault_of}
use Rattle.lam_session.specs.Diagnostics.{diagnostic}
use Rattle.lam_session.specs.Outgoing.{diagnostic_data}
use Rattle.lam_session.proofs.values.diagnostics.diagnostics.Given as goal

-- the diagnostics so far, and those of the faults to come, are all
abbrev pub invariant-loop-fault : goal.invariant-loop-fault
invariant-loop-fault l =
    map diagnostic_data l.found.items ++ map (diagnostic l.fn.doc.encoding l.fn.doc.text) (map fault_of (drop l.fault-index l.faults)) ≡ map (diagnostic l.fn.doc.encoding l.fn.doc.text) (map fault_of l.faults)
