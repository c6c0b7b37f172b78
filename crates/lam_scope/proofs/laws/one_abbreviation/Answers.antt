use Rattle.lam_scope.proofs.ToldAbbreviations.{stated_after, told_bound, told_unbound}
use Rattle.lam_scope.proofs.UnboundTypeNames.{fault_told}
use Rattle.lam_scope.proofs.laws.one_abbreviation.Goals as goal

pub returns : goal.returns
returns c = record { stated = stated_after; bound = told_bound; unbound = told_unbound; faults = fault_told }
