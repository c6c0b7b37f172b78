use Rattle.std.proofs.Common.{arith}
use Rattle.lam_check.proofs.PlainTypes.{has_depth}
use Rattle.lam_check.proofs.plain_types.+readable.Goals as goal

pub is_readable-returns-then-levels-eq0 : goal.is_readable-returns-then-levels-eq0
is_readable-returns-then-levels-eq0 t c = grind (arith, has_depth)
