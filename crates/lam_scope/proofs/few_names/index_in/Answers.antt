use Rattle.std.proofs.Common.{sym, ◌∙◌}
use Rattle.lam_scope.proofs.FewNames.{found_here, found_further, found_nowhere}
use Rattle.lam_scope.proofs.few_names.index_in.Goals as goal

pub returns-then-is_named : goal.returns-then-is_named
returns-then-is_named c =
    sym (c.loop-between.invariant ∙ found_here c.args.name.now c.args.stack.now c.loop-between.between _ c.loop-between-test.true c.item_under-binder.ensures (sym c.is_named.ensures ∙ c.if-is_named.true))

pub loop-between-preserved : goal.loop-between-preserved
loop-between-preserved c =
    c.loop-between.invariant
    ∙ found_further c.args.name.now c.args.stack.now c.loop-between.between _ c.loop-between-test.true c.item_under-binder.ensures (sym c.is_named.ensures ∙ c.if-is_named.false)

pub returns : goal.returns
returns c = sym (c.loop-between.invariant ∙ found_nowhere c.args.name.now c.args.stack.now c.loop-between.between c.loop-between-test.false)
