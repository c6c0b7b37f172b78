use Rattle.std.proofs.Common.{map, ap, ◌∙◌, arith}
use Rattle.std.proofs.lemmas.List.{length-map}
use Rattle.lam_query.specs.Views.{fault_of}
use Rattle.lam_check.specs.Json.{json_line}
use Rattle.lam_check.proofs.json.faults_json.Goals as goal

pub returns : goal.returns
returns c =
    let found = map fault_of c.in_ok-found.found.items in
    record {
      faults = found;
      are_faults = c.in_ok-found.ensures.faults;
      shown = c.in_ok-json_line.ensures c.in_ok-value.ensures.no_float ∙ ap json_line (rw (c.in_ok-doc.ensures.encoding, c.in_ok-doc.ensures.text, c.deref.ensures.value) at c.in_ok-value.ensures.value);
      counted = omega (arith, length-map c.in_ok-found.found.items fault_of);
    }
