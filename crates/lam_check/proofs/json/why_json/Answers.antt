use Rattle.std.proofs.Common.{ap, ◌∙◌}
use Rattle.lam_query.specs.Views.{derivation_of}
use Rattle.lam_check.specs.Json.{json_line}
use Rattle.lam_check.proofs.json.why_json.Goals as goal

pub returns : goal.returns
returns c = record {
  derived = derivation_of c.in-Some.derived;
  right = rw c.in-Some.is at c.in_ok-derived.ensures.derived;
  shown = c.in_ok-json_line.ensures c.in_ok-value.ensures.no_float ∙ ap json_line (rw (c.in_ok-doc.ensures.encoding, c.in_ok-doc.ensures.text) at c.in_ok-value.ensures.value);
}
