use Rattle.std.proofs.Common.{◌∷◌, ap, sym, ◌∙◌}
use Rattle.lam_scope.proofs.UseChains.{chain_rest, tokens_more}
use Rattle.lam_scope.proofs.use_chains.push_tokens.Goals as goal

pub loop-left-preserved : goal.loop-left-preserved
loop-left-preserved c =
    let step = chain_rest c.index-left-in-loop-left.result.now c.loop-left-test.true c.index-left-in-loop-left.ensures c.loop-left.invariant.chain in
    record {
      rest = step.0;
      chain = step.2;
      tokens = tokens_more c.loop-left.tokens.items _ step.0 c.loop-left.invariant.rest _ _ c.in_ok-push.ensures.items
          (step.1 c.index-uses-uses.result ∙ ap (λ u. u.token ∷ step.0) (sym c.index-uses-uses.is)) c.loop-left.invariant.tokens;
    }
