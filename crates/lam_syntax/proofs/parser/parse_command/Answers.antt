use Rattle.lam_syntax.proofs.Steps.{reads_all_same, name_alone}
use Rattle.lam_syntax.proofs.parser.parse_command.Goals as goal

pub returns-in_default-take-2 : goal.returns-in_default-take-2
returns-in_default-take-2 c =
    reads_all_same c.parse_evaluation.result _ _ (name_alone c.in-Some.first.now _ _ c.in-Some.ensures.cases.0 c.in-Name.ensures c.in_default-take.ensures.takes c.in_default-take-2.ensures.takes) c.parse_evaluation.ensures
