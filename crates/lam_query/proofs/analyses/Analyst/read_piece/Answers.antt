use Rattle.std.proofs.Common.{subst, ◌∙◌}
use Rattle.lam_query.specs.inner.Reading.{IsNextPiece}
use Rattle.lam_query.proofs.Analysts.{is_left, left_begins, read_on}
use Rattle.lam_query.proofs.analyses.Analyst.read_piece.Goals as goal

pub range_from-requires : goal.range_from-requires
range_from-requires c = λ positive.
    let at = c.requires.read in
    left_begins at.0 at.1 c.args.text.now at.2 c.args.self.now c.utf8.text at.3

pub read_piece-requires-clause-read : goal.read_piece-requires-clause-read
read_piece-requires-clause-read c = c.requires.read.3.between.nothing_read

pub read_piece-requires-clause-no_piece : goal.read_piece-requires-clause-no_piece
read_piece-requires-clause-no_piece c = c.requires.read.3.between.no_piece

pub returns-clause-read : goal.returns-clause-read
returns-clause-read c ahead s rest h =
    let a = c.args.self.now in
    let reader = c.read_piece.new.self in
    let left = c.range_from.ensures.value ∙ is_left ahead s c.args.text.now rest a h in
    let next = subst (λ bytes. IsNextPiece bytes c.in_ok-end.end reader.piece.items) left c.in_ok-end.ensures.next in
    read_on ahead s c.args.text.now rest a c.end_piece.new.self reader c.in_ok-end.end h next c.in_ok-end.ensures.read
    c.in_ok-end_piece.ensures.dialect c.in_ok-end_piece.ensures.read
