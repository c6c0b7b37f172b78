use Rattle.std.proofs.Common.{◌≡◌, ap, sym, ◌∙◌, arith, false}
use Rattle.lam_text.specs.declared.index.Mark.{Mark}
use Rattle.lam_text.specs.inner.Index.{index_of}
use Rattle.lam_text.proofs.RowLemmas.{offset_of-boundary}
use Rattle.lam_text.proofs.Lookups.{read_offset, read_past, read_ascii}
use Rattle.lam_text.proofs.document.Doc.offset_of.Goals as goal
use Rattle.lam_text.proofs.document.Doc.offset_of.Goals.{After-as_slice-marks}

-- the marks are the index of the text
index : (c : After-as_slice-marks) → c.as_slice-marks.result.now ≡ index_of c.as_str-text.result.now
index c = c.as_slice-marks.ensures.value ∙ (c.self.invariant ∙ ap index_of (sym c.as_str-text.ensures.value))

pub returns-then-marks-position-clause-value : goal.returns-then-marks-position-clause-value
returns-then-marks-position-clause-value c =
    rw (← c.self.view_is, ← c.as_str-text.ensures.value)
    (read_past c.as_str-text.result.now c.as_slice-marks.result.now (index (goal.at.returns-then-marks-position-clause-value c).After-as_slice-marks) c.self.inside.encoding c.args.position c.if-marks-position.true)

pub front_len-requires : goal.front_len-requires
front_len-requires c =
    rw c.content-line.ensures
    (read_ascii c.as_str-text.result.now c.as_slice-marks.result.now (index (goal.at.front_len-requires c).After-as_slice-marks) c.args.position.line _ c.if-marks-position.false)

pub overflow_add-result : goal.overflow_add-result
overflow_add-result c =
    let none : Mark = record { start = 0; ascii = false } in
    let value = read_offset c.as_str-text.result.now c.as_slice-marks.result.now (index (goal.at.overflow_add-result c).After-as_slice-marks) c.self.inside.encoding c.args.position none c.content-line.result.now c.front_len.result c.if-marks-position.false c.content-line.ensures c.front_len.ensures in
    let within = (offset_of-boundary c.self.inside.encoding c.as_str-text.result.now c.args.position c.as_str-text.utf8).0 in
    rw value (omega (arith, within))

pub returns-clause-value : goal.returns-clause-value
returns-clause-value c =
    rw (← c.self.view_is, ← c.as_str-text.ensures.value)
    (read_offset c.as_str-text.result.now c.as_slice-marks.result.now (index (goal.at.returns-clause-value c).After-as_slice-marks) c.self.inside.encoding c.args.position _ c.content-line.result.now c.front_len.result c.if-marks-position.false c.content-line.ensures c.front_len.ensures)

pub returns-clause-boundary : goal.returns-clause-boundary
returns-clause-boundary c =
    let none : Mark = record { start = 0; ascii = false } in
    let value = read_offset c.as_str-text.result.now c.as_slice-marks.result.now (index (goal.at.returns-clause-boundary c).After-as_slice-marks) c.self.inside.encoding c.args.position none c.content-line.result.now c.front_len.result c.if-marks-position.false c.content-line.ensures c.front_len.ensures in
    rw (← c.self.view_is, ← c.as_str-text.ensures.value, value)
    (offset_of-boundary c.self.inside.encoding c.as_str-text.result.now c.args.position c.as_str-text.utf8)
