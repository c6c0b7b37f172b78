use Rattle.lam_frame.specs.Device.{source_of, sink_of}
use Rattle.lam_frame.specs.Next.{work_left}
use Rattle.lam_session.specs.State.{fresh, dialect_of}
use Rattle.lam_server.proofs.Walking.{Walked}
use Rattle.lam_server.proofs.run.run.Given as goal

abbrev pub invariant-loop-next : goal.invariant-loop-next
invariant-loop-next g l = Walked (source_of g.R.Source.coming g.R.Source.failed g.R.Source.gave) (sink_of g.W.Sink.taken g.W.Sink.flushed g.W.Sink.failed) (fresh (dialect_of l.fn.config)) l.initial.reader l.initial.writer l.server l.reader l.writer

abbrev pub decreases-loop-next : goal.decreases-loop-next
decreases-loop-next g l = work_left l.server.pulls l.server.held
