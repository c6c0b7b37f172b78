use Rattle.std.proofs.Common.{◌≡◌, replicate, None}
use Rattle.lam_query.proofs.entries.unbound.Given as goal

abbrev pub invariant-loop : goal.invariant-loop
invariant-loop l = l.entries.items ≡ replicate l.counter None
