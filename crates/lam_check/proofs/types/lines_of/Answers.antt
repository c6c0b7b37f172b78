use Rattle.lam_query.specs.Views.{command_type_of}
use Rattle.lam_check.specs.Types.{line_of_type}
use Rattle.lam_check.proofs.Writing.{written_more}
use Rattle.lam_check.proofs.types.lines_of.Goals as goal

pub loop-shown-preserved : goal.loop-shown-preserved
loop-shown-preserved c =
    let written = rw c.shown-item.is at c.in_ok-push_line.ensures in
    written_more command_type_of line_of_type _ _ _ c.args.types.now c.loop-shown.shown-index c.shown-item.result c.loop-shown-test.true written c.loop-shown.invariant
