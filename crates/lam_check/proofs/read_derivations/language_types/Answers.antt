use Rattle.lam_check.proofs.LanguageTypes.{depth-nodes, names_readable}
use Rattle.lam_check.proofs.read_derivations.language_types.Goals as goal

pub returns-clause-labels : goal.returns-clause-labels
returns-clause-labels c = names_readable

pub returns-clause-levels : goal.returns-clause-levels
returns-clause-levels c = depth-nodes
