use Rattle.lam_scope.proofs.PlacelessForms.{forms_elsewhere}
use Rattle.lam_scope.proofs.laws.forms_have_no_places.Goals as goal

pub returns : goal.returns
returns c = forms_elsewhere
