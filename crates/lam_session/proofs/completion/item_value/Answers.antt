use Rattle.std.proofs.lemmas.Result.{IfOk-weaker}
use Rattle.std.proofs.Common.{◌∙◌}
use Rattle.lam_query.specs.Views.{item_of}
use Rattle.lam_session.proofs.CompletionLaws.{item_built}
use Rattle.lam_session.proofs.completion.item_value.Goals as goal

pub returns : goal.returns
returns c =
    IfOk-weaker c.finish.result _ _ (λ value told. told ∙ item_built (item_of c.args.item.now) _ c.deref.ensures)
    (c.finish.ensures _ (c.text.ensures _ (c.value.ensures _ _ c.with_detail.ensures (rw c.item_kind.ensures at c.from.ensures))))
