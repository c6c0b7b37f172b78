use Rattle.lam_query.proofs.Flat.{side_listed}
use Rattle.lam_query.proofs.steps.list_side.Goals as goal

pub returns-in_ok-push-in-Some : goal.returns-in_ok-push-in-Some
returns-in_ok-push-in-Some c = λ start ps listed.
    let grows = rw c.deref.ensures at c.in_ok-last-in-Some.ensures.steps in
    let last = rw c.deref.ensures at c.in_ok-last-in-Some.ensures.last in
    rw (c.in-Some.is, c.in_ok-push-in-Some.ensures.items)
    (side_listed start c.args.steps.now.items c.list_sub.new.steps.items ps c.args.premises.now.items _ _ listed grows last)
