use Rattle.std.proofs.Common.{map, refl, ap, ◌∙◌}
use Rattle.serde_json.specs.Data.{array}
use Rattle.serde_json.specs.View.{items_of}
use Rattle.serde_json.proofs.Views.{view-Array}
use Rattle.lam_query.specs.Views.{item_of}
use Rattle.lam_session.specs.Completions.{item_value}
use Rattle.lam_session.proofs.ValueLists.{value_more, all_shown}
use Rattle.lam_session.proofs.completion.items_value.Goals as goal

pub loop-item-preserved : goal.loop-item-preserved
loop-item-preserved c =
    value_more item_of item_value c.loop-item.values.items _ c.in_ok-item_value.field-0 c.args.items.now c.loop-item.item-index c.item-item.result c.loop-item-test.true (c.in_ok-item_value.ensures ∙ ap (λ x. item_value (item_of x)) c.item-item.is) c.in_ok-push.ensures.items c.loop-item.invariant

pub returns : goal.returns
returns c =
    let all = all_shown (λ items. map item_value (map item_of items)) c.loop-item.values.items c.args.items.now c.loop-item.item-index refl c.loop-item-test.false c.loop-item.invariant in
    view-Array c.loop-item.values ∙ ap (λ l. array (items_of l)) all
