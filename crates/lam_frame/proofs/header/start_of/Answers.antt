use Rattle.std.proofs.Common.{◌≤◌, take, length, sym, take-append-drop, length-take, arith}
use Rattle.lam_frame.proofs.Starts.{start_spoiled, start_long, start_faulty, start_whole}
use Rattle.lam_frame.proofs.header.start_of.Goals as goal

pub returns-in-Spoiled : goal.returns-in-Spoiled
returns-in-Spoiled c = start_spoiled _ _ _ (sym (take-append-drop c.min.result c.args.bytes.now)) c.in-Spoiled.ensures

pub returns-then-window-eq-HEADER_LIMIT : goal.returns-then-window-eq-HEADER_LIMIT
returns-then-window-eq-HEADER_LIMIT c =
    start_long _ _ _ (sym (take-append-drop c.min.result c.args.bytes.now)) c.in-Unfinished.ensures c.if-window-eq-HEADER_LIMIT.true

pub returns-in-Ok : goal.returns-in-Ok
returns-in-Ok c =
    let short : length (take c.min.result c.args.bytes.now) ≤ 4096 = omega (arith, length-take c.min.result c.args.bytes.now) in
    start_whole _ _ _ _ _ _ (sym (take-append-drop c.min.result c.args.bytes.now)) short c.in-Ok.is c.in-Whole.ensures

pub returns-in-Err : goal.returns-in-Err
returns-in-Err c =
    let short : length (take c.min.result c.args.bytes.now) ≤ 4096 = omega (arith, length-take c.min.result c.args.bytes.now) in
    start_faulty _ _ _ _ _ _ (sym (take-append-drop c.min.result c.args.bytes.now)) short c.in-Err.is c.in-Whole.ensures
