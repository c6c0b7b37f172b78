use Rattle.std.proofs.Common.{◌≡◌, ◌<◌, length, arith}
use Rattle.std.proofs.lemmas.Bool.Decides.{nat_tests}
use Rattle.lam_frame.proofs.Walk.{walked_more, walked_whole, walked_unfinished, walked_spoiled, walked_shorter}
use Rattle.lam_frame.proofs.header.scan_header.Goals as goal

pub returns-in-Unfinished : goal.returns-in-Unfinished
returns-in-Unfinished c = walked_unfinished _ _ _ c.loop-line.invariant c.in-Unfinished.ensures

pub returns-in-Spoiled : goal.returns-in-Spoiled
returns-in-Spoiled c = walked_spoiled _ _ _ c.loop-line.invariant c.in-Spoiled.ensures

pub returns-then-is_empty : goal.returns-then-is_empty
returns-then-is_empty c =
    let none : length c.in-Whole.line.now ≡ 0 = grind (arith, nat_tests) in
    walked_whole _ _ _ _ _ c.loop-line.invariant (c.in-Whole.ensures).0 (c.in-Whole.ensures).1 none

pub loop-line-smaller : goal.loop-line-smaller
loop-line-smaller c = walked_shorter _ _ (c.in-Whole.ensures).1

pub loop-line-preserved : goal.loop-line-preserved
loop-line-preserved c =
    let some : 0 < length c.in-Whole.line.now = grind (arith, nat_tests) in
    walked_more _ _ _ _ _ _ c.loop-line.invariant (c.in-Whole.ensures).0 (c.in-Whole.ensures).1 some c.with_line-body.ensures
