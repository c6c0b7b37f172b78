use Rattle.std.proofs.Common.{length, sym, ap, ◌∙◌, arith}
use Rattle.lam_query.proofs.PieceAround.{around_in, some_row, number_inside, ends_inside, starts_between, stops_between, piece_is}
use Rattle.lam_query.proofs.SpansInText.{all_bytes_fit}
use Rattle.lam_query.proofs.analyses.Analysis.piece_around.Goals as goal

pub row_around-requires : goal.row_around-requires
row_around-requires c = rw c.deref.ensures.value (all_bytes_fit c.args.text.now c.args.self.now (omega arith) c.requires)

pub unreachable-requires : goal.unreachable-requires
unreachable-requires c = some_row c.args.text.now c.args.self.now c.requires (sym c.deref.ensures.value ∙ c.in_default.ensures.none)

pub index-requires : goal.index-requires
index-requires c =
    let around =
    around_in c.args.text.now c.args.self.now c.args.offset c.in-Some.place c.requires c.deref.result.now c.deref.ensures.value c.in-Some.ensures.some in
    omega (arith, c.deref.ensures.len, ap length c.deref.ensures.value, number_inside c.args.text.now c.args.self.now c.args.offset c.in-Some.place around)

pub overflow_add-end : goal.overflow_add-end
overflow_add-end c =
    let around =
    around_in c.args.text.now c.args.self.now c.args.offset c.in-Some.place c.requires c.deref.result.now c.deref.ensures.value c.in-Some.ensures.some in
    omega (arith, ends_inside c.args.text.now c.args.self.now c.args.offset c.in-Some.place around c.index.result.now _ c.index.ensures)

pub range-requires-clause-start_boundary : goal.range-requires-clause-start_boundary
range-requires-clause-start_boundary c = λ positive.
    let around =
    around_in c.args.text.now c.args.self.now c.args.offset c.in-Some.place c.requires c.deref.result.now c.deref.ensures.value c.in-Some.ensures.some in
    starts_between c.args.text.now c.args.self.now c.args.offset c.in-Some.place around c.index.result.now _ c.index.ensures c.requires.is_text

pub range-requires-clause-end_boundary : goal.range-requires-clause-end_boundary
range-requires-clause-end_boundary c =
    let around =
    around_in c.args.text.now c.args.self.now c.args.offset c.in-Some.place c.requires c.deref.result.now c.deref.ensures.value c.in-Some.ensures.some in
    stops_between c.args.text.now c.args.self.now c.args.offset c.in-Some.place around c.index.result.now _ c.index.ensures c.requires.is_text

pub returns : goal.returns
returns c =
    let around =
    around_in c.args.text.now c.args.self.now c.args.offset c.in-Some.place c.requires c.deref.result.now c.deref.ensures.value c.in-Some.ensures.some in
    piece_is c.args.text.now c.args.self.now c.args.offset _ around c.index.result.now _ c.index.ensures c.requires c.range.ensures.value
