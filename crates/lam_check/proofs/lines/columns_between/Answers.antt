use Rattle.std.proofs.Common.{◌≡◌, ◌+◌, length, drop, take, arith}
use Rattle.std.proofs.lemmas.Iterator.{YieldsList-from_chars, YieldsList-from_take}
use Rattle.std.proofs.lemmas.Iterator.Adapters.{YieldsList-from_skip}
use Rattle.std.proofs.lemmas.Iterator.Consumers.{YieldsList-turn, YieldsList-end}
use Rattle.std.proofs.lemmas.List.{length_push}
use Rattle.std.specs.List.{sum_by}
use Rattle.std.specs.Str.{chars}
use Rattle.lam_check.specs.Lines.{columns, columns_between}
use Rattle.lam_check.proofs.Columns.{sum_more, sum_all, columns_between-few}
use Rattle.lam_check.proofs.lines.columns_between.Goals as goal
use Rattle.lam_check.proofs.lines.columns_between.Goals.{After-columns-sum}

-- the columns with those of the next character, and those of the characters behind it, are all
next : (c : After-columns-sum)
    → c.loop-c.sum + c.columns-sum.result + sum_by columns (drop (length c.loop-c.yielded + 1) (drop c.args.start (take c.args.end (chars c.args.line.now))))
    ≡ columns_between c.args.start c.args.end c.args.line.now
next c =
    let turn = YieldsList-turn (YieldsList-from_skip c.args.start (YieldsList-from_take c.args.end (YieldsList-from_chars c.args.line.now c.utf8.line cc) cc) cc) c.loop-c.yielded _ c.loop-c.yielded_by _ _ c.in-Some.c c.in-Some.is c.next.ensures.steps in
    rw c.columns-sum.ensures
    (sum_more columns c.loop-c.sum _ (drop c.args.start (take c.args.end (chars c.args.line.now))) _ c.in-Some.c turn c.loop-c.invariant)

pub overflow_add-sum : goal.overflow_add-sum
overflow_add-sum c = omega (arith, next c, columns_between-few c.args.start c.args.end c.args.line.now)

pub loop-c-preserved : goal.loop-c-preserved
loop-c-preserved c = rw (length_push c.loop-c.yielded c.in-Some.c) (next c)

pub returns : goal.returns
returns c =
    let end = YieldsList-end (YieldsList-from_skip c.args.start (YieldsList-from_take c.args.end (YieldsList-from_chars c.args.line.now c.utf8.line cc) cc) cc) c.loop-c.yielded _ c.loop-c.yielded_by _ _ c.in-None.is c.next.ensures.steps in
    sum_all columns _ _ (drop c.args.start (take c.args.end (chars c.args.line.now))) (length c.loop-c.yielded) (omega (arith, end.1)) c.loop-c.invariant
