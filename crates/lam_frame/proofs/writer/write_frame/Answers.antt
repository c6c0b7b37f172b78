use Rattle.lam_frame.proofs.Writing.{frame_of_header, frame_of_body, frame_whole, frame_unflushed, on_err}
use Rattle.lam_frame.proofs.writer.write_frame.Goals as goal

pub returns-in_err-push_all-clause-front : goal.returns-in_err-push_all-clause-front
returns-in_err-push_all-clause-front g c =
    let known = g.W.Sink.taken in
    on_err _ _ (frame_of_header (known c.args.sink.now) (known c.push_all.new.sink) (known c.push_all.new.sink) (known c.push_all.new.sink) c.write_header-start.new.room c.args.body.now c.write_header-start.result
    c.write_header-start.array_long c.write_header-start.ensures.text c.in_err-push_all.ensures.front)

pub returns-in_err-push_all-2-clause-front : goal.returns-in_err-push_all-2-clause-front
returns-in_err-push_all-2-clause-front g c =
    let known = g.W.Sink.taken in
    on_err _ _ (frame_of_body (known c.args.sink.now) (known c.push_all.new.sink) (known c.push_all-2.new.sink) (known c.push_all-2.new.sink) c.write_header-start.new.room c.args.body.now c.write_header-start.result
    c.write_header-start.array_long c.write_header-start.ensures.text c.in_ok-push_all.ensures.taken c.in_err-push_all-2.ensures.front)

pub returns-in-Ok-clause-taken : goal.returns-in-Ok-clause-taken
returns-in-Ok-clause-taken g c =
    let known = g.W.Sink.taken in
    frame_whole (known c.args.sink.now) (known c.push_all.new.sink) (known c.push_all-2.new.sink) (known c.flush.new.self) c.write_header-start.new.room c.args.body.now c.write_header-start.result
    c.write_header-start.array_long c.write_header-start.ensures.text c.in_ok-push_all.ensures.taken c.in_ok-push_all-2.ensures.taken c.in-Ok.ensures.kept

pub returns-in-Err-clause-front : goal.returns-in-Err-clause-front
returns-in-Err-clause-front g c =
    let known = g.W.Sink.taken in
    frame_unflushed (known c.args.sink.now) (known c.push_all.new.sink) (known c.push_all-2.new.sink) (known c.flush.new.self) c.write_header-start.new.room c.args.body.now c.write_header-start.result
    c.write_header-start.array_long c.write_header-start.ensures.text c.in_ok-push_all.ensures.taken c.in_ok-push_all-2.ensures.taken c.in-Err.ensures.kept
