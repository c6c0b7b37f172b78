use Rattle.std.proofs.Common.{sym}
use Rattle.lam_scope.proofs.PlaceCounts.{as_many_places}
use Rattle.lam_scope.proofs.SeenOrigins.{visible_origins}
use Rattle.lam_scope.proofs.laws.one_sight.Goals as goal

pub returns : goal.returns
returns c = record { places = λ cs. sym (as_many_places cs); sights = visible_origins }
