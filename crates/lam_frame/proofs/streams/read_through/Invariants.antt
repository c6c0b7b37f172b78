use Rattle.std.specs.Io.KnownBytes.{Keeps}
use Rattle.lam_frame.proofs.streams.read_through.Given as goal

-- the calls so far gave nothing
abbrev pub invariant-loop : goal.invariant-loop
invariant-loop g l = Keeps (g.R.Read.remaining l.initial.reader) (g.R.Read.remaining l.reader)
