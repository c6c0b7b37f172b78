use Rattle.std.proofs.Common.{map, ap, ◌∙◌}
use Rattle.std.proofs.lemmas.Result.{IfOk-weaker}
use Rattle.serde_json.specs.View.{items_of}
use Rattle.serde_json.specs.Written.{items_have_float}
use Rattle.lam_query.specs.Views.{fault_of}
use Rattle.lam_session.specs.Outgoing.{diagnostic_data}
use Rattle.lam_session.proofs.Floatless.{diagnostics_floatless}
use Rattle.lam_session.proofs.values.diagnostics.diagnostic_values.Goals as goal

pub returns : goal.returns
returns c =
    let told = ap (map diagnostic_data) c.deref.ensures.value ∙ c.in_ok-found.ensures in record {
      values = IfOk-weaker c.values_of.result _ _ (λ values is. ap items_of (is ∙ told)) c.values_of.ensures;
      no_float = IfOk-weaker c.values_of.result _ _
          (λ values is. ap (λ l. items_have_float (items_of l)) (is ∙ told) ∙ diagnostics_floatless c.args.doc.now.encoding c.args.doc.now.text (map fault_of c.args.faults.now)) c.values_of.ensures;
    }
