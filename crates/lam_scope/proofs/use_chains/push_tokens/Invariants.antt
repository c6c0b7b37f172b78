use Rattle.std.proofs.Common.{◌≡◌, ◌++◌, List, map}
use Rattle.lam_token.specs.declared.span.Span.{Span}
use Rattle.lam_scope.specs.Tables.{use_tokens}
use Rattle.lam_scope.specs.TableViews.{text_use}
use Rattle.lam_scope.specs.inner.UseChains.{IsChain}
use Rattle.lam_scope.proofs.use_chains.push_tokens.Given as goal

abbrev pub invariant-loop-left : goal.invariant-loop-left
invariant-loop-left l = record {
  rest : List Span;
  chain : IsChain l.uses l.chains.nexts.items l.left rest;
  tokens : l.tokens.items ++ rest ≡ l.initial.tokens.items ++ use_tokens l.binder (map text_use l.uses);
}

abbrev pub decreases-loop-left : goal.decreases-loop-left
decreases-loop-left l = l.left
