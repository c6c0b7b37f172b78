use Rattle.lam_syntax.proofs.RespelledTrees.{command_is_respelled}
use Rattle.lam_syntax.proofs.RespelledPieces.{pieces_respelled, taken_respelled}
use Rattle.lam_syntax.proofs.laws.letters_and_places_are_free.Goals as goal

pub returns : goal.returns
returns c = record { commands = command_is_respelled; pieces = pieces_respelled; taken = taken_respelled }
