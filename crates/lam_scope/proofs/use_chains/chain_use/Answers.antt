use Rattle.std.proofs.Common.{rules, ap, sym, ◌∙◌}
use Rattle.lam_scope.proofs.UseChains.{chains_unbound, chains_past, chains_put}
use Rattle.lam_scope.proofs.use_chains.chain_use.Goals as goal

pub returns-in_default-clause-chains : goal.returns-in_default-clause-chains
returns-in_default-clause-chains c =
    chains_unbound c.args.chains.now.firsts.items c.args.chains.now.nexts.items _ _ c.args.uses.now c.args.index c.index-uses-index.result c.requires.index (ap (λ u. u.bound) (sym c.index-uses-index.is) ∙ c.in_default.is) c.in_ok-push.ensures.items c.requires.later

pub returns-in_ok-push-2-clause-chains : goal.returns-in_ok-push-2-clause-chains
returns-in_ok-push-2-clause-chains c =
    chains_put c.args.chains.now.firsts.items c.args.chains.now.nexts.items _ c.args.uses.now c.args.index c.index.result.now _ c.in-Some.bound c.index-uses-index.result c.requires.index (ap (λ u. u.bound) (sym c.index-uses-index.is) ∙ c.in-Some.is) (search rules)
    c.index.ensures c.in_ok-push-2.ensures.items (search rules) c.requires.later

pub returns-in_ok-push-3-clause-chains : goal.returns-in_ok-push-3-clause-chains
returns-in_ok-push-3-clause-chains c =
    chains_past c.args.chains.now.firsts.items c.args.chains.now.nexts.items _ _ c.args.uses.now c.args.index c.in-Some.bound c.index-uses-index.result c.requires.index (ap (λ u. u.bound) (sym c.index-uses-index.is) ∙ c.in-Some.is) (search rules)
    c.in_ok-push-3.ensures.items c.requires.later
