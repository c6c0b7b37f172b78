use Rattle.std.proofs.Common.{arith}
use Rattle.std.proofs.lemmas.Result.{IfOk-weaker}
use Rattle.lam_query.proofs.AnalysisAnswers.{text_items}
use Rattle.lam_query.proofs.LabelInPiece.{piece_fits}
use Rattle.lam_query.proofs.analyses.Analysis.complete.Goals as goal

pub labels-requires-clause-there : goal.labels-requires-clause-there
labels-requires-clause-there c = (c.args.text.now, c.requires, c.piece_around-piece.ensures)

pub labels-requires-clause-fits : goal.labels-requires-clause-fits
labels-requires-clause-fits c = omega (arith, piece_fits c.piece_around-piece.ensures)

pub returns-in-Some : goal.returns-in-Some
returns-in-Some c =
    let some = rw c.in-Some.is at c.in_ok-items.ensures.some in
    text_items c.args.text.now c.args.self.now c.args.offset _ c.requires
    (λ tokens commands are are_commands. some c.args.text.now tokens commands c.requires c.piece_around-piece.ensures are are_commands)

pub returns-in-None : goal.returns-in-None
returns-in-None c =
    let none = rw c.in-None.is at c.in_ok-items.ensures.none in
    IfOk-weaker c.names.result _ _
    (λ items listed.
    text_items c.args.text.now c.args.self.now c.args.offset _ c.requires
    (λ tokens commands are are_commands. listed tokens commands are are_commands (λ l. none c.args.text.now tokens l c.requires c.piece_around-piece.ensures are)))
    c.names.ensures
