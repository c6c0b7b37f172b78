use Rattle.std.proofs.Common.{rules, ◌-◌, length, arith}
use Rattle.std.proofs.lemmas.List.{drop_all}
use Rattle.lam_scope.proofs.UseChains.{chains_none}
use Rattle.lam_scope.proofs.use_chains.chains_of.Goals as goal

pub loop-i-init : goal.loop-i-init
loop-i-init c = record {
  binders = search rules;
  uses = search rules;
  chains = chains_none _ c.new-firsts.result.items _ c.args.uses.now _ _ _ c.in_ok-resize.ensures.items c.new-firsts.ensures.items (drop_all (length c.args.uses.now - 0) c.args.uses.now (omega arith));
}
