use Rattle.std.proofs.lemmas.Result.{IfOk-weaker}
use Rattle.lam_typing.proofs.NotedParts.{leaf_done}
use Rattle.lam_typing.proofs.noting.note_leaf.Goals as goal

pub returns : goal.returns
returns c = λ e leaf. IfOk-weaker c.note_here.result _ _ (λ place one. leaf_done c.args.notes.now c.note_here.new.notes e place.0 leaf one) c.note_here.ensures
