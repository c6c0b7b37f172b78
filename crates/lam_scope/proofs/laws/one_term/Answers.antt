use Rattle.lam_scope.proofs.PlacedRows.{row_told, as_many_rows}
use Rattle.lam_scope.proofs.PlacedPlaces.{same_places}
use Rattle.lam_scope.proofs.laws.one_term.Goals as goal

pub returns : goal.returns
returns c = record { rows = row_told; as_many = as_many_rows; places = same_places }
