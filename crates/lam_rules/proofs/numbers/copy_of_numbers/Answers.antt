use Rattle.lam_rules.proofs.ShapeKeys.{copied_number}
use Rattle.lam_rules.proofs.numbers.copy_of_numbers.Goals as goal

pub loop-i-preserved : goal.loop-i-preserved
loop-i-preserved c =
    copied_number _ _ _ _ c.index-fields-i.result c.in_ok-label.label c.loop-i.invariant c.loop-i-test.true c.index-fields-i.is c.in_ok-push.ensures.items c.in_ok-label.ensures.cases
