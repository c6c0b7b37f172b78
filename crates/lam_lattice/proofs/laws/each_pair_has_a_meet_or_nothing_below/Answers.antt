use Rattle.lam_lattice.proofs.Existing.{meets_decided}
use Rattle.lam_lattice.proofs.laws.each_pair_has_a_meet_or_nothing_below.Goals as goal

pub returns : goal.returns
returns c = meets_decided
