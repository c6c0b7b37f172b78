use Rattle.lam_rules.proofs.TypeShapes.{copied_more, copied_all}
use Rattle.std.proofs.Common.{arith}
use Rattle.lam_rules.proofs.types.copy_of_fields.Goals as goal

pub loop-i-preserved : goal.loop-i-preserved
loop-i-preserved c =
    copied_more c.loop-i.copies.items c.push.new.self.items c.args.fields.now c.loop-i.i c.index-fields-i.result c.in_ok-label.label c.in_ok-ty.ty _
    c.loop-i-test.true c.index-fields-i.is c.in_ok-push.ensures.items c.in_ok-label.ensures.cases c.in_ok-ty.ensures c.loop-i.invariant

pub returns : goal.returns
returns c = grind (arith, copied_all)
