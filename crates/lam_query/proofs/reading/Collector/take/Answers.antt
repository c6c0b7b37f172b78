use Rattle.std.proofs.Common.{sym, ◌∙◌, subst}
use Rattle.std.proofs.lemmas.Result.{on_ok_weaker}
use Rattle.lam_query.specs.inner.Reading.{AreReadBut}
use Rattle.lam_query.proofs.ReadPieces.{semicolon_passed}
use Rattle.lam_query.proofs.reading.Collector.take.Goals as goal

pub returns-then-is_semicolon : goal.returns-then-is_semicolon
returns-then-is_semicolon c =
    let t = c.args.token in
    let ends = sym c.is_semicolon.ensures ∙ c.if-is_semicolon.true in
    let told = c.in_ok-command.ensures in
    let now = c.end_piece.new.self in
    on_ok_weaker c.keep.result
    (λ kept all left h. rw c.keep.ensures.reader (subst (λ cs. AreReadBut all left cs now) (sym kept)
    (semicolon_passed all left _ _ t _ now (λ front done read. told.read front done t ends read) told.none_left h)))
    c.keep.ensures.kept
