use Rattle.lam_lattice.proofs.OneInOrder.{joins_are_one, meets_are_one}
use Rattle.lam_lattice.proofs.laws.bounds_in_order_are_one.Goals as goal

pub returns-clause-joins : goal.returns-clause-joins
returns-clause-joins c = joins_are_one

pub returns-clause-meets : goal.returns-clause-meets
returns-clause-meets c = meets_are_one
