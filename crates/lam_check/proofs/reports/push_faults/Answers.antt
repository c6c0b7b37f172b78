use Rattle.lam_query.specs.Views.{explained_of}
use Rattle.lam_check.specs.Reports.{fault_report}
use Rattle.lam_check.proofs.Writing.{written_more}
use Rattle.lam_check.proofs.reports.push_faults.Goals as goal

pub loop-explained-preserved : goal.loop-explained-preserved
loop-explained-preserved c =
    let written = rw c.explained-item.is at c.in_ok-push_fault.ensures in
    written_more explained_of (fault_report c.args.paint c.args.name.now c.args.doc.now.text) _ _ _ c.args.faults.now c.loop-explained.explained-index c.explained-item.result c.loop-explained-test.true written c.loop-explained.invariant
