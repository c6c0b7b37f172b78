use Rattle.std.proofs.Common.{arith}
use Rattle.lam_rules.proofs.Contexts.{contexts}
use Rattle.lam_rules.proofs.typing.is_given_entry.Goals as goal

pub returns-then-context-index : goal.returns-then-context-index
returns-then-context-index c = grind (arith, contexts)

pub returns : goal.returns
returns c = grind (arith, contexts)
