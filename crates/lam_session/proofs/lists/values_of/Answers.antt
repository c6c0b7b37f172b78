use Rattle.std.proofs.Common.{map, refl, ap, ◌∙◌}
use Rattle.lam_session.proofs.ValueLists.{number_more, all_shown}
use Rattle.lam_session.proofs.lists.values_of.Goals as goal

pub loop-element-preserved : goal.loop-element-preserved
loop-element-preserved g c =
    let shown = g.S.Shape.shown c.args.shape.now in
    number_more shown c.loop-element.values.items _ c.in_ok-value_of.field-0 c.args.elements.now c.loop-element.element-index c.element-item.result c.loop-element-test.true
    (c.in_ok-value_of.ensures ∙ ap shown c.element-item.is) c.in_ok-push.ensures.items c.loop-element.invariant

pub returns : goal.returns
returns g c = all_shown (map (g.S.Shape.shown c.args.shape.now)) c.loop-element.values.items c.args.elements.now c.loop-element.element-index refl c.loop-element-test.false c.loop-element.invariant
