use Rattle.std.proofs.Common.{◌≡◌, map, drop}
use Rattle.lam_scope.specs.inner.Found.{seek}
use Rattle.lam_scope.specs.Views.{statement_of}
use Rattle.lam_scope.proofs.PlaceTerms.{terms_in}
use Rattle.lam_scope.proofs.resolved.find_stated.Given as goal

abbrev pub invariant-loop-i : goal.invariant-loop-i
invariant-loop-i l = seek (terms_in (map statement_of l.statements)) l.number ≡ seek (terms_in (map statement_of (drop l.i l.statements))) l.left
