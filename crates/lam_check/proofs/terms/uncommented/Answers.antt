use Rattle.std.proofs.Common.{arith}
use Rattle.std.proofs.lemmas.Iterator.{YieldsList-from_chars}
use Rattle.std.proofs.lemmas.Iterator.Consumers.{YieldsList-turn, YieldsList-end}
use Rattle.std.proofs.lemmas.List.{length_push}
use Rattle.std.specs.Str.{chars}
use Rattle.lam_check.proofs.Uncommented.{kept_more, kept_all, next_depth_small}
use Rattle.lam_check.proofs.terms.uncommented.Goals as goal

pub loop-c-preserved : goal.loop-c-preserved
loop-c-preserved c =
    let turn = YieldsList-turn (YieldsList-from_chars c.args.text.now c.utf8.text cc) c.loop-c.yielded _ c.loop-c.yielded_by _ _ c.in-Some.c c.in-Some.is c.next.ensures.steps in
    rw (length_push c.loop-c.yielded c.in-Some.c, c.next_depth-depth.ensures, c.next_before-before.ensures) (
      omega (arith, next_depth_small c.loop-c.depth c.loop-c.before c.in-Some.c, c.loop-c.invariant.0),
      kept_more _ _ _ (chars c.args.text.now) _ _ _ c.in-Some.c turn c.in_ok-push_kept.ensures c.loop-c.invariant.1,
    )

pub returns : goal.returns
returns c =
    let end = YieldsList-end (YieldsList-from_chars c.args.text.now c.utf8.text cc) c.loop-c.yielded _ c.loop-c.yielded_by _ _ c.in-None.is c.next.ensures.steps in
    kept_all _ _ (chars c.args.text.now) _ _ _ (omega (arith, end.1)) c.loop-c.invariant.1
