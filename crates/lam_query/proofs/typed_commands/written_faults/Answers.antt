use Rattle.lam_query.specs.TextFaults.{written_fault}
use Rattle.lam_query.specs.Views.{fault_of}
use Rattle.lam_query.proofs.Collected.{one_collected, all_collected}
use Rattle.lam_query.proofs.typed_commands.written_faults.Goals as goal

pub loop-i-preserved : goal.loop-i-preserved
loop-i-preserved c =
    one_collected fault_of written_fault c.args.faults.now c.loop-i.i _ c.loop-i.found.items _ _ c.loop-i-test.true c.in_ok-push.ensures.items
    c.written_fault.ensures c.loop-i.invariant

pub returns : goal.returns
returns c = all_collected fault_of written_fault c.args.faults.now c.loop-i.i c.loop-i.found.items c.loop-i-test.false c.loop-i.invariant
