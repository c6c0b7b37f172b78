use Rattle.std.proofs.Common.{◌≡◌, ◌++◌, replicate}
use Rattle.lam_query.proofs.wrong_steps.push_each.Given as goal

abbrev pub invariant-loop : goal.invariant-loop
invariant-loop l = l.pending.items ≡ l.fn.pending.items ++ replicate l.counter l.each
