use Rattle.std.proofs.Common.{length, take, arith}
use Rattle.std.proofs.lemmas.Iterator.{YieldsList-from_chars, YieldsList-from_take}
use Rattle.std.proofs.lemmas.Iterator.Consumers.{YieldsList-turn, YieldsList-end}
use Rattle.std.proofs.lemmas.List.{length_push}
use Rattle.std.specs.Str.{chars}
use Rattle.lam_check.specs.Lines.{blank}
use Rattle.lam_check.proofs.Writing.{each_more, each_all}
use Rattle.lam_check.proofs.lines.push_blanks.Goals as goal

pub loop-c-preserved : goal.loop-c-preserved
loop-c-preserved c =
    let turn = YieldsList-turn (YieldsList-from_take c.args.count (YieldsList-from_chars c.args.line.now c.utf8.line cc) cc) c.loop-c.yielded _ c.loop-c.yielded_by _ _ c.in-Some.c c.in-Some.is c.next.ensures.steps in
    rw (length_push c.loop-c.yielded c.in-Some.c)
    (each_more blank _ _ _ (take c.args.count (chars c.args.line.now)) _ c.in-Some.c turn (rw c.blank.ensures at c.in_ok-push_str.ensures.bytes) c.loop-c.invariant)

pub returns : goal.returns
returns c =
    let end = YieldsList-end (YieldsList-from_take c.args.count (YieldsList-from_chars c.args.line.now c.utf8.line cc) cc) c.loop-c.yielded _ c.loop-c.yielded_by _ _ c.in-None.is c.next.ensures.steps in
    each_all blank _ _ (take c.args.count (chars c.args.line.now)) (length c.loop-c.yielded) (omega (arith, end.1)) c.loop-c.invariant
