use Rattle.std.proofs.Common.{ℕ, List, Ok, Err, sym, subst}
use Rattle.std.proofs.lemmas.Result.{err_from_is_err_and}
use Rattle.lam_server.specs.inner.Answer.{AnswersBody}
use Rattle.lam_server.proofs.Answering.{turn_end, turn_unanswered, turn_unread}
use Rattle.lam_frame.specs.Device.{source_of, sink_of}
use Rattle.lam_server.proofs.server.Server.turn.Goals as goal

pub returns-in_err-body-clause-takes : goal.returns-in_err-body-clause-takes
returns-in_err-body-clause-takes g c =
    let told = err_from_is_err_and c.from_residual.result c.from_residual.ensures.1 in
    rw (told.1, told.2, ← c.self.view_is)
    (turn_unread (λ b. b.items) (source_of g.R.Source.coming g.R.Source.failed g.R.Source.gave) (sink_of g.W.Sink.taken g.W.Sink.flushed g.W.Sink.failed) c.self.inside.frames.held c.self.inside.frames.pulls c.self.inside.session _ _ c.in_err-body.field-0.0 _ _ _
    (c.in_err-body.ensures.reads c.self.invariant.0))

pub returns-in_err-answer-clause-takes : goal.returns-in_err-answer-clause-takes
returns-in_err-answer-clause-takes g c =
    let reads = rw c.in-Some.is at (c.in_ok-body.ensures.reads c.self.invariant.0) in
    let told = err_from_is_err_and c.from_residual-in_err-answer.result c.from_residual-in_err-answer.ensures.1 in
    rw (told.1, told.2, ← c.self.view_is)
    (turn_unanswered (λ b. b.items) (source_of g.R.Source.coming g.R.Source.failed g.R.Source.gave) (sink_of g.W.Sink.taken g.W.Sink.flushed g.W.Sink.failed) c.self.inside.frames.held c.self.inside.frames.pulls c.self.inside.session _ _ c.in-Some.body _ _ c.answer.new.session _ _ c.in_err-answer.field-0.0
    reads (subst (λ (l : List ℕ). AnswersBody (sink_of g.W.Sink.taken g.W.Sink.flushed g.W.Sink.failed) c.self.inside.session l c.args.writer.now (Err c.in_err-answer.field-0.0) c.answer.new.session c.answer.new.writer) c.deref.ensures.value c.in_err-answer.ensures))

pub returns-in-Some-ended-clause-takes : goal.returns-in-Some-ended-clause-takes
returns-in-Some-ended-clause-takes g c =
    let reads = rw c.in-Some.is at (c.in_ok-body.ensures.reads c.self.invariant.0) in
    rw (← c.self.view_is)
    (turn_end (λ b. b.items) (source_of g.R.Source.coming g.R.Source.failed g.R.Source.gave) (sink_of g.W.Sink.taken g.W.Sink.flushed g.W.Sink.failed) c.self.inside.frames.held c.self.inside.frames.pulls c.self.inside.session _ _ c.in-Some.body _ _ c.answer.new.session _ _ c.in-Some-ended.status
    reads (subst (λ (l : List ℕ). AnswersBody (sink_of g.W.Sink.taken g.W.Sink.flushed g.W.Sink.failed) c.self.inside.session l c.args.writer.now (Ok tt) c.answer.new.session c.answer.new.writer) c.deref.ensures.value c.in_ok-answer.ensures) (sym c.in-Some-ended.ensures))
