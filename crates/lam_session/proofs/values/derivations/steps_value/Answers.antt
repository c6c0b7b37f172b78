use Rattle.std.proofs.Common.{map, refl, ap, ◌∙◌}
use Rattle.serde_json.specs.Data.{array}
use Rattle.serde_json.specs.View.{items_of}
use Rattle.serde_json.proofs.Views.{view-Array}
use Rattle.lam_query.specs.Views.{step_of}
use Rattle.lam_session.specs.Derivations.{step_value}
use Rattle.lam_session.proofs.ValueLists.{value_more, all_shown}
use Rattle.lam_session.proofs.values.derivations.steps_value.Goals as goal

pub loop-step-preserved : goal.loop-step-preserved
loop-step-preserved c =
    value_more step_of (step_value c.args.doc.now.encoding c.args.doc.now.text) c.loop-step.values.items _ c.in_ok-step_value.field-0 c.args.steps.now c.loop-step.step-index c.step-item.result c.loop-step-test.true (c.in_ok-step_value.ensures ∙ ap (λ x. step_value c.args.doc.now.encoding c.args.doc.now.text (step_of x)) c.step-item.is) c.in_ok-push.ensures.items c.loop-step.invariant

pub returns : goal.returns
returns c =
    view-Array c.loop-step.values
    ∙ ap (λ l. array (items_of l)) (all_shown (λ l. map (step_value c.args.doc.now.encoding c.args.doc.now.text) (map step_of l)) c.loop-step.values.items c.args.steps.now c.loop-step.step-index refl c.loop-step-test.false c.loop-step.invariant)
