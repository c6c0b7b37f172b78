use Rattle.std.proofs.Common.{◌≡◌, ◌+◌, length, ◌∙◌, arith}
use Rattle.lam_text.specs.inner.Rows.{line_start, line_content}
use Rattle.lam_text.proofs.RowLemmas.{Row-start_boundary, Row-end_boundary, Row-slice}
use Rattle.lam_text.proofs.Lookups.{read_start, read_row_at}
use Rattle.lam_text.proofs.index.content.Goals as goal
use Rattle.lam_text.proofs.index.content.Goals.{After-content_end-end}

end_is : (c : After-content_end-end) → c.content_end-end.result ≡ line_start c.args.text.now c.args.number + length (line_content c.args.text.now c.args.number)
end_is c = rw c.as_bytes.ensures.value at c.content_end-end.ensures

pub range-requires-clause-start_le_end : goal.range-requires-clause-start_le_end
range-requires-clause-start_le_end c =
    rw (read_start c.args.text.now c.args.marks.now c.requires.index c.args.number _ c.requires.number)
    (omega (arith, end_is (goal.at.range-requires-clause-start_le_end c).After-content_end-end))

pub range-requires-clause-start_boundary : goal.range-requires-clause-start_boundary
range-requires-clause-start_boundary c =
    let row = read_row_at c.args.text.now c.args.marks.now c.requires.index c.args.number c.utf8.text c.requires.number in
    rw (read_start c.args.text.now c.args.marks.now c.requires.index c.args.number _ c.requires.number)
    (λ _. Row-start_boundary c.args.text.now (line_start c.args.text.now c.args.number) (line_content c.args.text.now c.args.number) row)

pub range-requires-clause-end_boundary : goal.range-requires-clause-end_boundary
range-requires-clause-end_boundary c =
    let row = read_row_at c.args.text.now c.args.marks.now c.requires.index c.args.number c.utf8.text c.requires.number in
    rw (end_is (goal.at.range-requires-clause-end_boundary c).After-content_end-end)
    (Row-end_boundary c.args.text.now (line_start c.args.text.now c.args.number) (line_content c.args.text.now c.args.number) row)

pub returns : goal.returns
returns c =
    let row = read_row_at c.args.text.now c.args.marks.now c.requires.index c.args.number c.utf8.text c.requires.number in
    c.range.ensures.value
    ∙ rw (read_start c.args.text.now c.args.marks.now c.requires.index c.args.number _ c.requires.number, end_is (goal.at.returns c).After-content_end-end)
    (Row-slice c.args.text.now (line_start c.args.text.now c.args.number) (line_content c.args.text.now c.args.number) row)
