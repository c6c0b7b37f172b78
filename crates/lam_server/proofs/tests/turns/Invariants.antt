use Rattle.std.proofs.Common.{◌≡◌}
use Rattle.lam_server.proofs.tests.turns.Given as goal

abbrev pub invariant-loop-count : goal.invariant-loop-count
invariant-loop-count l = l.writer.failures ≡ 0
