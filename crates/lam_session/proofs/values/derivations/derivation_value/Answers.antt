use Rattle.std.proofs.Common.{Some, ap, ◌∙◌}
use Rattle.std.proofs.lemmas.Result.{IfOk-weaker}
use Rattle.serde_json.specs.Written.{has_float}
use Rattle.lam_query.specs.Views.{derivation_of}
use Rattle.lam_session.proofs.Floatless.{derivation_floatless}
use Rattle.lam_session.proofs.values.derivations.derivation_value.Goals as goal

pub returns : goal.returns
returns c =
    let context = rw c.deref.ensures.value at c.context_value.ensures in
    let steps = rw c.deref-2.ensures.value at c.steps_value.ensures in
    let is = c.finish.ensures _ (c.value-2.ensures _ _ (c.value.ensures _ _ c.new.ensures context) steps) in
    let floatless = derivation_floatless c.args.doc.now.encoding c.args.doc.now.text (Some (derivation_of c.in-Some.derivation)) in
    record {
      value = rw c.in-Some.is is;
      no_float = IfOk-weaker c.finish.result _ _ (λ value told. ap has_float told ∙ floatless) is;
    }
