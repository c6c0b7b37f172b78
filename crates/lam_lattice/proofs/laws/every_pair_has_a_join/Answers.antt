use Rattle.lam_lattice.proofs.Existing.{joins_exist}
use Rattle.lam_lattice.proofs.laws.every_pair_has_a_join.Goals as goal

pub returns : goal.returns
returns c = joins_exist
