use Rattle.std.proofs.Common.{refl, ap, ◌∙◌}
use Rattle.std.proofs.lemmas.Result.{IfOk-weaker}
use Rattle.serde_json.specs.Data.{array}
use Rattle.serde_json.specs.Written.{has_float}
use Rattle.lam_check.proofs.json.faults_value.Goals as goal

pub returns : goal.returns
returns c =
    let values = c.from.ensures ∙ ap array (c.in_ok-values.ensures.values) in
    let built = c.text.ensures _ (c.value.ensures _ _ c.new.ensures c.from.ensures) in
    record {
      value = c.finish.ensures _ (c.text.ensures _ (c.value.ensures _ _ c.new.ensures values));
      no_float = IfOk-weaker c.finish.result _ _ (λ value told. ap has_float told ∙ rw c.in_ok-values.ensures.no_float refl) (c.finish.ensures _ built);
    }
