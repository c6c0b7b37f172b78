use Rattle.lam_query.proofs.Faultless.{faultless_is_well_typed}
use Rattle.lam_query.proofs.laws.no_fault_is_well_typed.Goals as goal

pub returns : goal.returns
returns c = λ commands found d. faultless_is_well_typed commands d found
