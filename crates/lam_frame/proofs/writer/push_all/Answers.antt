use Rattle.std.proofs.Common.{◌∙◌}
use Rattle.lam_frame.proofs.Writing.{pushed_more, some_taken}
use Rattle.lam_frame.proofs.writer.push_all.Goals as goal

pub loop-rest-preserved : goal.loop-rest-preserved
loop-rest-preserved g c =
    let known = g.W.Sink.taken in
    record {
      pushed = rw c.split_at.ensures.back (pushed_more (known c.args.sink.now) (known c.loop-rest.sink) (known c.push.new.self) _ _ _ c.loop-rest.invariant.pushed c.in-Ok.ensures.appended);
      unflushed = c.in-Ok.ensures.unflushed ∙ c.loop-rest.invariant.unflushed;
      unfailed = c.in-Ok.ensures.counted ∙ some_taken _ _ _ c.if-count-eq0.false ∙ c.loop-rest.invariant.unfailed;
    }
