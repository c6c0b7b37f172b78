use Rattle.std.proofs.Common.{List, map, subst}
use Rattle.lam_rpc.specs.Kind.{message_of}
use Rattle.lam_session.specs.Outgoing.{data_of}
use Rattle.lam_session.specs.declared.outgoing.Outgoing.{Outgoing}
use Rattle.lam_server.specs.inner.Answer.{WritesValues}
use Rattle.lam_server.proofs.Answering.{answers_body}
use Rattle.lam_frame.specs.Device.{sink_of}
use Rattle.lam_server.proofs.answer.answer.Goals as goal

pub returns : goal.returns
returns g c =
    answers_body (sink_of g.W.Sink.taken g.W.Sink.flushed g.W.Sink.failed) _ _ _ (message_of c.in_ok-incoming.incoming) (map data_of c.in_ok-sent.sent.items) _ _ _ c.in_ok-incoming.ensures.kind c.in_ok-sent.ensures.answers
    (subst (λ (l : List Outgoing). WritesValues (sink_of g.W.Sink.taken g.W.Sink.flushed g.W.Sink.failed) (map data_of l) c.args.writer.now c.write_outgoing.result c.write_outgoing.new.writer) c.deref.ensures.value c.write_outgoing.ensures)
