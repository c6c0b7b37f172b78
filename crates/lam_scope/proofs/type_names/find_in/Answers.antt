use Rattle.std.proofs.Common.{sym, ◌∙◌}
use Rattle.lam_scope.proofs.TypeNames.{sought_here, sought_further, sought_in_vain}
use Rattle.lam_scope.proofs.type_names.find_in.Goals as goal

pub returns-then-eq : goal.returns-then-eq
returns-then-eq c =
    sym (c.loop-i.invariant ∙ sought_here c.args.name.now c.args.stack.now c.loop-i.i _ c.loop-i-test.true c.item_under-seen.ensures (sym c.eq.ensures ∙ c.if-eq.true))

pub loop-i-preserved : goal.loop-i-preserved
loop-i-preserved c =
    c.loop-i.invariant ∙ sought_further c.args.name.now c.args.stack.now c.loop-i.i _ c.loop-i-test.true c.item_under-seen.ensures (sym c.eq.ensures ∙ c.if-eq.false)

pub returns : goal.returns
returns c = sym (c.loop-i.invariant ∙ sought_in_vain c.args.name.now c.args.stack.now c.loop-i.i c.loop-i-test.false)
