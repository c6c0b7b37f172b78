use Rattle.std.proofs.Common.{map, refl}
use Rattle.lam_query.specs.Views.{fault_of}
use Rattle.lam_session.specs.Diagnostics.{diagnostic}
use Rattle.lam_session.specs.Outgoing.{diagnostic_data}
use Rattle.lam_session.proofs.ValueLists.{told_more, all_told}
use Rattle.lam_session.proofs.values.diagnostics.diagnostics.Goals as goal

pub loop-fault-preserved : goal.loop-fault-preserved
loop-fault-preserved c =
    told_more diagnostic_data fault_of (diagnostic c.args.doc.now.encoding c.args.doc.now.text) c.loop-fault.found.items _ _ c.args.faults.now c.loop-fault.fault-index _ c.loop-fault-test.true
    c.diagnostic_of.ensures c.in_ok-push.ensures.items c.loop-fault.invariant

pub returns : goal.returns
returns c =
    let shown = diagnostic c.args.doc.now.encoding c.args.doc.now.text in
    all_told diagnostic_data (λ l. map shown (map fault_of l)) c.loop-fault.found.items c.args.faults.now c.loop-fault.fault-index refl c.loop-fault-test.false c.loop-fault.invariant
