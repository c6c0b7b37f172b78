use Rattle.lam_scope.proofs.FreeNamesDecide.{same_expansion, same_faults, same_command_faults, same_command_limit, alike_forms, alike_statements}
use Rattle.lam_scope.proofs.laws.free_names_decide.Goals as goal

pub returns : goal.returns
returns c = record { expansions = same_expansion; faults = same_faults; command_faults = same_command_faults; command_limits = same_command_limit; forms = alike_forms; statements = alike_statements }
