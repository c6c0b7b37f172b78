use Rattle.lam_query.specs.Views.{entry_of}
use Rattle.lam_check.specs.Verdicts.{next_entry}
use Rattle.lam_check.proofs.Writing.{written_more}
use Rattle.lam_check.proofs.verdicts.push_others.Goals as goal

pub loop-entry-preserved : goal.loop-entry-preserved
loop-entry-preserved c =
    let written = rw c.entry-item.is at c.in_ok-push_next.ensures in
    written_more entry_of next_entry _ _ _ c.args.entries.now c.loop-entry.entry-index c.entry-item.result c.loop-entry-test.true written c.loop-entry.invariant
