use Rattle.std.proofs.Common.{◌≡◌, ◌+◌, drop}
use Rattle.lam_syntax.specs.inner.Reads.{run_len}
use Rattle.lam_syntax.proofs.splitting.run_len.Given as goal

-- the run goes on behind the tokens so far
abbrev pub invariant-loop-n : goal.invariant-loop-n
invariant-loop-n l = l.n + run_len (drop l.n l.tokens) ≡ run_len l.tokens
