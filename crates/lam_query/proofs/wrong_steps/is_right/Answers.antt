use Rattle.std.proofs.Common.{length, map}
use Rattle.lam_query.specs.Views.{step_of}
use Rattle.lam_query.specs.declared.wrong_steps.Pending.TheVariants as pending
use Rattle.lam_query.specs.inner.Backwards.{said_at}
use Rattle.lam_query.proofs.PendingProofs.{each_known, each_left, for_dialect, on_ok, known_below}
use Rattle.lam_query.proofs.wrong_steps.is_right.Goals as goal

pub returns-in_ok-push_each-in-Nothing-clause-known : goal.returns-in_ok-push_each-in-Nothing-clause-known
returns-in_ok-push_each-in-Nothing-clause-known c =
    rw c.in_ok-push_each-in-Nothing.ensures
    (each_known c.args.state.now.entries.items c.args.state.now.pending.items pending.Nothing (length c.premises_of-premises.result.now) (known_below c.args.state.now.entries.items c.args.state.now.pending.items _ c.requires.known) tt tt)

pub returns-in_ok-push_each-in-Nothing-clause-left : goal.returns-in_ok-push_each-in-Nothing-clause-left
returns-in_ok-push_each-in-Nothing-clause-left c =
    rw (c.in_ok-push_each-in-Nothing.ensures, c.premises_of-premises.ensures, c.in-Nothing.is)
    (each_left c.args.state.now.entries.items c.args.state.now.pending.items pending.Nothing (said_at (map step_of c.args.steps.now)) (step_of c.args.step.now).premises)

pub returns-in_ok-push_each-in-Subtyping-clause-known : goal.returns-in_ok-push_each-in-Subtyping-clause-known
returns-in_ok-push_each-in-Subtyping-clause-known c = on_ok c.is_right_sub.result
    (rw c.in_ok-push_each-in-Subtyping.ensures
    (each_known c.args.state.now.entries.items c.args.state.now.pending.items pending.Subtyping (length c.premises_of-premises.result.now) (known_below c.args.state.now.entries.items c.args.state.now.pending.items _ c.requires.known) tt tt))

pub returns-in_ok-push_each-in-Subtyping-clause-left : goal.returns-in_ok-push_each-in-Subtyping-clause-left
returns-in_ok-push_each-in-Subtyping-clause-left c = on_ok c.is_right_sub.result
    (rw (c.in_ok-push_each-in-Subtyping.ensures, c.premises_of-premises.ensures, c.in-Subtyping.is)
    (each_left c.args.state.now.entries.items c.args.state.now.pending.items pending.Subtyping (said_at (map step_of c.args.steps.now)) (step_of c.args.step.now).premises))

pub returns-in-Typing-clause-right : goal.returns-in-Typing-clause-right
returns-in-Typing-clause-right c =
    rw (c.in-Typing.is, ← c.premises_of-premises.ensures) (for_dialect _ c.is_right_typing.result c.args.dialect c.is_right_typing.ensures.right)
