use Rattle.lam_rules.proofs.SortedSizes.{one_size}
use Rattle.lam_rules.proofs.laws.types_below_each_other_have_one_size.Goals as goal

pub returns : goal.returns
returns c = one_size
