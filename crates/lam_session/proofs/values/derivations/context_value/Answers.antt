use Rattle.std.proofs.Common.{map, refl, ap, ◌∙◌}
use Rattle.serde_json.specs.Data.{array}
use Rattle.serde_json.specs.View.{items_of}
use Rattle.serde_json.proofs.Views.{view-Array}
use Rattle.lam_query.specs.Views.{entry_of}
use Rattle.lam_session.specs.Derivations.{entry_value}
use Rattle.lam_session.proofs.ValueLists.{value_more, all_shown}
use Rattle.lam_session.proofs.values.derivations.context_value.Goals as goal

pub loop-entry-preserved : goal.loop-entry-preserved
loop-entry-preserved c =
    value_more entry_of entry_value c.loop-entry.values.items _ c.in_ok-entry_value.field-0 c.args.entries.now c.loop-entry.entry-index c.entry-item.result c.loop-entry-test.true (c.in_ok-entry_value.ensures ∙ ap (λ x. entry_value (entry_of x)) c.entry-item.is) c.in_ok-push.ensures.items c.loop-entry.invariant

pub returns : goal.returns
returns c =
    view-Array c.loop-entry.values
    ∙ ap (λ l. array (items_of l)) (all_shown (λ l. map entry_value (map entry_of l)) c.loop-entry.values.items c.args.entries.now c.loop-entry.entry-index refl c.loop-entry-test.false c.loop-entry.invariant)
