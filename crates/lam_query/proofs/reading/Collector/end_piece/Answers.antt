use Rattle.std.proofs.Common.{sym, subst}
use Rattle.std.proofs.lemmas.Result.{on_ok_weaker}
use Rattle.lam_query.specs.inner.Reading.{AreAllRead}
use Rattle.lam_query.proofs.ReadPieces.{none_left}
use Rattle.lam_query.proofs.reading.Collector.end_piece.Goals as goal

pub returns : goal.returns
returns c =
    let now = c.end_piece.new.self in
    on_ok_weaker c.keep.result
    (λ kept all h. rw c.keep.ensures.reader (subst (λ cs. AreAllRead all cs now) (sym kept) (none_left all _ _ _ now c.in_ok-command.ensures.all h)))
    c.keep.ensures.kept
