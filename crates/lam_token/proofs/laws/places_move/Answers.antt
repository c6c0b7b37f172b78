use Rattle.lam_token.proofs.MovedTokens.{moved_further, moved_back, moved_anywhere, ends_moved}
use Rattle.lam_token.proofs.laws.places_move.Goals as goal

pub returns-clause-further : goal.returns-clause-further
returns-clause-further c = moved_further

pub returns-clause-back : goal.returns-clause-back
returns-clause-back c = moved_back

pub returns-clause-anywhere : goal.returns-clause-anywhere
returns-clause-anywhere c = moved_anywhere

pub returns-clause-ends : goal.returns-clause-ends
returns-clause-ends c = ends_moved
