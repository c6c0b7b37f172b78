use Rattle.std.proofs.Common.{refl, arith}
use Rattle.lam_typing.proofs.Glue.{settle_grows, up_to_same}
use Rattle.lam_typing.proofs.walking.settle.Goals as goal

pub returns-clause-grows : goal.returns-clause-grows
returns-clause-grows c =
    settle_grows c.args.walk.now c.push.new.self _ c.args.found c.requires.sound c.requires.stands c.in_ok-push.ensures.items
    (up_to_same c.args.walk.now.last _ _ (omega (arith, c.len.ensures)) (c.if-is_behind.ensures.within refl))
