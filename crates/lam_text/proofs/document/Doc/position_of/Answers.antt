use Rattle.std.proofs.Common.{◌≡◌, ap, sym, ◌∙◌}
use Rattle.std.proofs.lemmas.Str.{IsAscii-take}
use Rattle.std.specs.Str.{IsCharBoundary}
use Rattle.lam_text.specs.inner.Index.{index_of}
use Rattle.lam_text.proofs.Lookups.{read_before, read_ascii, read_boundary, read_position}
use Rattle.lam_text.proofs.document.Doc.position_of.Goals as goal
use Rattle.lam_text.proofs.document.Doc.position_of.Goals.{After-as_slice-marks}

-- the marks are the index of the text
index : (c : After-as_slice-marks) → c.as_slice-marks.result.now ≡ index_of c.as_str-text.result.now
index c = c.as_slice-marks.ensures.value ∙ (c.self.invariant ∙ ap index_of (sym c.as_str-text.ensures.value))

-- the condition, of the text that is read
boundary : (c : After-as_slice-marks) → IsCharBoundary c.as_str-text.result.now c.args.offset
boundary c = rw (← c.self.view_is, ← c.as_str-text.ensures.value) at c.requires

pub overflow_sub-offset : goal.overflow_sub-offset
overflow_sub-offset c =
    read_before c.as_str-text.result.now c.as_slice-marks.result.now (index (goal.at.overflow_sub-offset c).After-as_slice-marks) c.self.inside.encoding c.args.offset c.line_at-number.result _ c.line_at-number.ensures.within c.line_at-number.ensures.line

pub split_at-requires : goal.split_at-requires
split_at-requires c =
    let here = (goal.at.split_at-requires c).After-as_slice-marks in
    let before = read_before c.as_str-text.result.now c.as_slice-marks.result.now (index here) c.self.inside.encoding c.args.offset c.line_at-number.result _ c.line_at-number.ensures.within c.line_at-number.ensures.line in
    rw c.min.ensures
    (read_boundary c.as_str-text.result.now c.as_slice-marks.result.now (index here) c.args.offset c.line_at-number.result _ c.content-line.result.now c.as_str-text.utf8 (boundary here) c.line_at-number.ensures.within before c.content-line.ensures)

pub units-requires : goal.units-requires
units-requires c =
    let ascii = read_ascii c.as_str-text.result.now c.as_slice-marks.result.now (index (goal.at.units-requires c).After-as_slice-marks) c.line_at-number.result _ c.line_at-number.ensures.within in
    rw (c.split_at.ensures.front, c.content-line.ensures) (λ test. IsAscii-take _ c.min.result (ascii test))

pub returns : goal.returns
returns c =
    rw (← c.self.view_is, ← c.as_str-text.ensures.value)
    (read_position c.as_str-text.result.now c.as_slice-marks.result.now (index (goal.at.returns c).After-as_slice-marks) c.self.inside.encoding c.args.offset c.line_at-number.result _ c.content-line.result.now c.split_at.result.0.now c.units.result
    c.line_at-number.ensures.within c.line_at-number.ensures.line c.content-line.ensures (rw c.min.ensures at c.split_at.ensures.front) c.units.ensures)
