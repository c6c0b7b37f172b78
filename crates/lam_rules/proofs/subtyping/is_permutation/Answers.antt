use Rattle.std.proofs.Common.{arith}
use Rattle.lam_rules.proofs.Permutations.{permutations}
use Rattle.lam_rules.proofs.subtyping.is_permutation.Goals as goal

pub returns-then-not-includes : goal.returns-then-not-includes
returns-then-not-includes c = grind (arith, permutations)

pub returns : goal.returns
returns c = grind (arith, permutations)
