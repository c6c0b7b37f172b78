use Rattle.std.proofs.Common.{◌∙◌}
use Rattle.std.proofs.lemmas.Result.{err_from_is_err_and}
use Rattle.lam_server.proofs.Sending.{counts_failure, failed_at, sent_at}
use Rattle.lam_frame.specs.Device.{sink_of}
use Rattle.lam_server.proofs.answer.write_outgoing.Goals as goal

pub returns-in_err-write_frame : goal.returns-in_err-write_frame
returns-in_err-write_frame g c =
    let same = err_from_is_err_and c.from_residual-in_err-write_frame.result c.from_residual-in_err-write_frame.ensures.1 in
    rw (same.1, same.2, c.in_err-write_frame.ensures.fault)
    (failed_at (sink_of g.W.Sink.taken g.W.Sink.flushed g.W.Sink.failed) c.args.sent.now c.loop-outgoing.outgoing-index c.outgoing-item.result c.as_bytes.result.now _ _ _ c.loop-outgoing-test.true c.outgoing-item.is
    c.requires.plain (λ plain. c.as_bytes.ensures.value ∙ c.in_ok-text.ensures plain) c.loop-outgoing.invariant c.in_err-write_frame.ensures.front
    (counts_failure (Unit {0}) c.in_err-write_frame.field-0.0 _ _ c.in_err-write_frame.ensures.fault c.in_err-write_frame.ensures.failures))

pub loop-outgoing-preserved : goal.loop-outgoing-preserved
loop-outgoing-preserved g c =
    sent_at (sink_of g.W.Sink.taken g.W.Sink.flushed g.W.Sink.failed) c.args.sent.now c.loop-outgoing.outgoing-index c.outgoing-item.result c.as_bytes.result.now _ _ _ c.loop-outgoing-test.true c.outgoing-item.is
    c.requires.plain (λ plain. c.as_bytes.ensures.value ∙ c.in_ok-text.ensures plain) c.loop-outgoing.invariant c.in_ok-write_frame.ensures.taken c.in_ok-write_frame.ensures.told c.in_ok-write_frame.ensures.flushed
    c.in_ok-write_frame.ensures.failures
