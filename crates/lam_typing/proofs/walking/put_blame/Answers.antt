use Rattle.lam_typing.proofs.Glue.{blames_push}
use Rattle.lam_typing.proofs.walking.put_blame.Goals as goal

pub returns : goal.returns
returns c = rw (c.in_ok-push.ensures.items, c.in-Some.is) (blames_push c.args.blames.now.items _)
