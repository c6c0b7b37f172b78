use Rattle.std.proofs.Common.{drop, map}
use Rattle.lam_session.specs.Outgoing.{data_of}
use Rattle.lam_server.proofs.Sending.{SentBefore}
use Rattle.lam_frame.specs.Device.{sink_of}
use Rattle.lam_server.proofs.answer.write_outgoing.Given as goal

abbrev pub invariant-loop-outgoing : goal.invariant-loop-outgoing
invariant-loop-outgoing g l = SentBefore (sink_of g.W.Sink.taken g.W.Sink.flushed g.W.Sink.failed) (map data_of l.sent) (map data_of (drop l.outgoing-index l.sent)) l.initial.writer l.writer
