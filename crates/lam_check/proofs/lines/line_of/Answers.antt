use Rattle.std.proofs.Common.{length, arith, ◌∙◌}
use Rattle.lam_check.proofs.LineEnds.{Slice, slice_of_line}
use Rattle.lam_check.specs.Lines.{line_of}
use Rattle.lam_check.proofs.lines.line_of.Goals as goal
use Rattle.lam_check.proofs.lines.line_of.Goals.{After-offset_of-end}

slice : (c : After-offset_of-end) → Slice c.text-text.result.now c.offset_of-start.result c.offset_of-end.result (line_of c.args.doc.now.text c.args.number)
slice c =
    let here = slice_of_line c.args.doc.now.encoding c.text-text.result.now c.args.number (length c.text-text.result.now) c.text-text.utf8 (omega arith) in
    let start = rw (← c.text-text.ensures) at c.offset_of-start.ensures.value in
    let end = rw (← c.text-text.ensures) at c.offset_of-end.ensures.value in
    rw (start, end, ← c.text-text.ensures) here

pub range-requires-clause-start_le_end : goal.range-requires-clause-start_le_end
range-requires-clause-start_le_end c = (slice (goal.at.range-requires-clause-start_le_end c).After-offset_of-end).ordered

pub returns : goal.returns
returns c = c.range.ensures.value ∙ (slice (goal.at.returns c).After-offset_of-end).is
