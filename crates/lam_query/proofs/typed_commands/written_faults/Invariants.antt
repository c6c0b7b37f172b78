use Rattle.std.proofs.Common.{drop}
use Rattle.lam_query.specs.TextFaults.{written_fault}
use Rattle.lam_query.specs.Views.{fault_of}
use Rattle.lam_query.proofs.Collected.{IsCollected}
use Rattle.lam_query.proofs.typed_commands.written_faults.Given as goal

abbrev pub invariant-loop-i : goal.invariant-loop-i
invariant-loop-i l = IsCollected fault_of written_fault l.found.items (drop l.i l.faults) l.faults
