use Rattle.std.proofs.Common.{◌≡◌, ◌-◌, length, drop}
use Rattle.lam_scope.specs.inner.UseChains.{AreChains}
use Rattle.lam_scope.proofs.use_chains.chains_of.Given as goal

abbrev pub invariant-loop-i : goal.invariant-loop-i
invariant-loop-i l = record {
  binders : length l.chains.firsts.items ≡ l.binders;
  uses : length l.chains.nexts.items ≡ l.i;
  chains : AreChains l.chains.firsts.items l.chains.nexts.items l.uses (drop (length l.uses - l.i) l.uses);
}
