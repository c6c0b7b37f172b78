use Rattle.std.specs.Io.KnownBytes.{Keeps}
use Rattle.lam_frame.proofs.streams.flush_through.Given as goal

-- the calls so far changed nothing
abbrev pub invariant-loop : goal.invariant-loop
invariant-loop g l = Keeps (g.W.Write.contents l.initial.writer) (g.W.Write.contents l.writer)
