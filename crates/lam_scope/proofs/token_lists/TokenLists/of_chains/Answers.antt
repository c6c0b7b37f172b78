use Rattle.std.proofs.Common.{rules, length, map}
use Rattle.lam_scope.specs.Slices.{sliced}
use Rattle.lam_scope.specs.TableViews.{text_use, list_start, listed}
use Rattle.lam_scope.proofs.TokenLists.{list-pushed, starts-more, lists_more, lists_all}
use Rattle.lam_scope.proofs.token_lists.TokenLists.of_chains.Goals as goal

pub loop-binder-preserved : goal.loop-binder-preserved
loop-binder-preserved c =
    let order = c.loop-binder.invariant.in_order in
    record {
      in_order = starts-more _ _ _ _ _ _ order c.in_ok-push.ensures.items c.in_ok-push_tokens.ensures (search rules);
      lists = lists_more (sliced list_start listed c.loop-binder.tokens.items c.loop-binder.starts.items) _ _ c.loop-binder.binder (length c.args.chains.now.firsts.items) (map text_use c.args.uses.now)
          (search rules) (list-pushed _ _ _ _ _ _ order c.in_ok-push.ensures.items c.in_ok-push_tokens.ensures (search rules)) c.loop-binder.invariant.lists;
    }

pub returns : goal.returns
returns c =
    lists_all (sliced list_start listed c.loop-binder.tokens.items c.loop-binder.starts.items) _ c.loop-binder.binder (length c.args.chains.now.firsts.items) (map text_use c.args.uses.now) (search rules)
    c.loop-binder.invariant.lists
