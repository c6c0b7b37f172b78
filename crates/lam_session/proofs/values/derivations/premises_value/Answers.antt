use Rattle.std.proofs.Common.{map, refl, ap, ◌∙◌}
use Rattle.serde_json.specs.Data.{array, number, unsigned}
use Rattle.serde_json.specs.View.{items_of}
use Rattle.serde_json.proofs.Views.{view-Array}
use Rattle.lam_session.proofs.ValueLists.{number_more, all_shown}
use Rattle.lam_session.proofs.values.derivations.premises_value.Goals as goal

pub loop-number-preserved : goal.loop-number-preserved
loop-number-preserved c =
    number_more (λ n. number (unsigned n)) c.loop-number.values.items _ c.from.result c.args.premises.now c.loop-number.number-index _ c.loop-number-test.true c.from.ensures c.in_ok-push.ensures.items c.loop-number.invariant

pub returns : goal.returns
returns c =
    view-Array c.loop-number.values
    ∙ ap (λ l. array (items_of l)) (all_shown (map (λ n. number (unsigned n))) c.loop-number.values.items c.args.premises.now c.loop-number.number-index refl c.loop-number-test.false c.loop-number.invariant)
