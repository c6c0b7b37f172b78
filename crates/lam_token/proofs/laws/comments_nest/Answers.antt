use Rattle.lam_token.proofs.Comments.{inside_read}
use Rattle.lam_token.proofs.laws.comments_nest.Goals as goal

pub returns : goal.returns
returns c = inside_read
