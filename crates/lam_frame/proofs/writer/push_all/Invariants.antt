use Rattle.std.proofs.Common.{◌≡◌, length}
use Rattle.lam_frame.proofs.Writing.{Pushed}
use Rattle.lam_frame.proofs.writer.push_all.Given as goal

abbrev pub invariant-loop-rest : goal.invariant-loop-rest
invariant-loop-rest g l = record {
  pushed : Pushed (g.W.Sink.taken l.initial.sink) (g.W.Sink.taken l.sink) l.bytes l.rest;
  unflushed : g.W.Sink.flushed l.sink ≡ g.W.Sink.flushed l.initial.sink;
  unfailed : g.W.Sink.failed l.sink ≡ g.W.Sink.failed l.initial.sink;
}

abbrev pub decreases-loop-rest : goal.decreases-loop-rest
decreases-loop-rest g l = length l.rest
