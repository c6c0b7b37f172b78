use Rattle.lam_typing.proofs.Documents.{typed_where_unblamed}
use Rattle.lam_typing.proofs.laws.typed_where_unblamed.Goals as goal

pub returns : goal.returns
returns c = λ statements d wf. typed_where_unblamed d statements wf
