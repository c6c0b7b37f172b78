use Rattle.std.proofs.Common.{◌≡◌, length, ◌≤◌}
use Rattle.lam_syntax.specs.inner.Run.{InPath, after_atom, ended_asc, run, look}
use Rattle.lam_syntax.specs.Views.{term_of}
use Rattle.lam_syntax.proofs.parse_terms.parse_suffixes.Given as goal

-- the run goes on behind the path so far
abbrev pub invariant-loop-after : goal.invariant-loop-after
invariant-loop-after l = record {
  read : (k : InPath) → run l.fn.tokens (after_atom (term_of l.fn.atom) k) ≡ look l.rest (λ o. ended_asc o (term_of l.path) k);
  shorter : length l.rest ≤ length l.fn.tokens;
}

abbrev pub decreases-loop-after : goal.decreases-loop-after
decreases-loop-after l = length l.rest
