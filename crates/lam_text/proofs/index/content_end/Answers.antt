use Rattle.std.proofs.Common.{arith}
use Rattle.lam_text.proofs.Lookups.{next_start-bounds, content_end-last, content_end-ended}
use Rattle.lam_text.proofs.index.content_end.Goals as goal

pub returns-then-number-marks : goal.returns-then-number-marks
returns-then-number-marks c = content_end-last c.args.text.now c.args.marks.now c.requires.index c.args.number c.if-number-marks.true

pub overflow_sub-marks : goal.overflow_sub-marks
overflow_sub-marks c = (next_start-bounds c.args.text.now c.args.marks.now c.requires.index c.args.number _ (omega arith)).0

pub before_end-requires : goal.before_end-requires
before_end-requires c = (next_start-bounds c.args.text.now c.args.marks.now c.requires.index c.args.number _ (omega arith)).1

pub returns : goal.returns
returns c =
    content_end-ended c.args.text.now c.args.marks.now c.requires.index c.args.number _ _ c.before_end.result (omega arith) c.before_end.ensures
