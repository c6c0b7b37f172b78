use Rattle.lam_rules.proofs.TableFields.{copied_next}
use Rattle.lam_rules.proofs.numbers.owned_fields.Goals as goal

pub loop-i-preserved : goal.loop-i-preserved
loop-i-preserved c = copied_next _ _ _ _ _ _ c.loop-i.invariant c.loop-i-test.true c.in_ok-push.ensures.items c.in_ok-label.ensures.ok
