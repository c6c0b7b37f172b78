use Rattle.lam_typing.proofs.MovedBlames.{blamed_moved, shown_moved, stopped_moved}
use Rattle.lam_typing.proofs.laws.blames_move_with_places.Goals as goal

pub returns-clause-blamed : goal.returns-clause-blamed
returns-clause-blamed c = blamed_moved

pub returns-clause-shown : goal.returns-clause-shown
returns-clause-shown c = shown_moved

pub returns-clause-stopped : goal.returns-clause-stopped
returns-clause-stopped c = stopped_moved
