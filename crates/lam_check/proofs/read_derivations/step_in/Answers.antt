use Rattle.serde_json.specs.View.{view}
use Rattle.lam_check.specs.Unreadable.{in_typing, in_subtyping}
use Rattle.lam_check.proofs.ReadValues.{unread_through}
use Rattle.lam_check.proofs.read_derivations.step_in.Goals as goal

pub returns-in-Some-clause-unread : goal.returns-in-Some-clause-unread
returns-in-Some-clause-unread c =
    let m = c.in-Some in
    unread_through c.typing_in.result (λ reason wrong. in_typing (view m.from.now) (view m.range.now) (view m.rule.now) (view m.ty.now) m.ensures.some wrong) c.typing_in.ensures.unread

pub returns-clause-unread : goal.returns-clause-unread
returns-clause-unread c =
    let m = c.in-Some-four_members in
    unread_through c.subtyping_in.result (λ reason wrong. in_subtyping (view m.from.now) (view m.lower.now) (view m.rule.now) (view m.upper.now) m.ensures.some wrong) c.subtyping_in.ensures.unread
