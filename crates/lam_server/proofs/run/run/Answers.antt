use Rattle.std.proofs.Common.{refl}
use Rattle.std.proofs.lemmas.Result.{err_from_is_err_and}
use Rattle.lam_session.specs.State.{fresh, dialect_of}
use Rattle.lam_server.proofs.FailedPulls.{failed_pull}
use Rattle.lam_server.proofs.Growing.{output_grows}
use Rattle.lam_server.proofs.OneOutput.{has_one_output}
use Rattle.lam_server.proofs.Telling.{run_told}
use Rattle.lam_server.proofs.Walking.{no_run, no_walk, walk_on, walk_to_end, walk_to_fault}
use Rattle.lam_frame.specs.Device.{source_of, sink_of}
use Rattle.lam_server.proofs.run.run.Goals as goal

pub returns-in_err-server-clause-runs : goal.returns-in_err-server-clause-runs
returns-in_err-server-clause-runs g c =
    let same = err_from_is_err_and c.from_residual.result c.from_residual.ensures.1 in
    rw (same.1, same.2)
    (no_run (source_of g.R.Source.coming g.R.Source.failed g.R.Source.gave) (sink_of g.W.Sink.taken g.W.Sink.flushed g.W.Sink.failed) (fresh (dialect_of c.args.config)) _ _ refl)

pub returns-in_err-server-clause-told : goal.returns-in_err-server-clause-told
returns-in_err-server-clause-told g c =
    let same = err_from_is_err_and c.from_residual.result c.from_residual.ensures.1 in
    rw (same.1, same.2)
    (run_told (source_of g.R.Source.coming g.R.Source.failed g.R.Source.gave) (sink_of g.W.Sink.taken g.W.Sink.flushed g.W.Sink.failed) (fresh (dialect_of c.args.config)) _ _ _ _ _ refl (no_run (source_of g.R.Source.coming g.R.Source.failed g.R.Source.gave) (sink_of g.W.Sink.taken g.W.Sink.flushed g.W.Sink.failed) (fresh (dialect_of c.args.config)) _ _ refl))

pub loop-next-init : goal.loop-next-init
loop-next-init g c = rw c.in_ok-server.ensures (no_walk (source_of g.R.Source.coming g.R.Source.failed g.R.Source.gave) (sink_of g.W.Sink.taken g.W.Sink.flushed g.W.Sink.failed) (fresh (dialect_of c.args.config)) _ _ refl)

pub turn-requires-clause-source : goal.turn-requires-clause-source
turn-requires-clause-source g c = rw c.loop-next.invariant.unfailed c.requires.source

pub loop-next-preserved : goal.loop-next-preserved
loop-next-preserved g c =
    walk_on (source_of g.R.Source.coming g.R.Source.failed g.R.Source.gave) (sink_of g.W.Sink.taken g.W.Sink.flushed g.W.Sink.failed) (fresh (dialect_of c.args.config)) _ _ _ _ _ c.loop-next.invariant c.in-More.next _ _
    (rw c.in-More.is at c.in_ok-next.ensures.takes)

pub returns-in-End-clause-runs : goal.returns-in-End-clause-runs
returns-in-End-clause-runs g c =
    walk_to_end (source_of g.R.Source.coming g.R.Source.failed g.R.Source.gave) (sink_of g.W.Sink.taken g.W.Sink.flushed g.W.Sink.failed) (fresh (dialect_of c.args.config)) _ _ _ _ _ c.loop-next.invariant c.in-End.status _ _
    (rw c.in-End.is at c.in_ok-next.ensures.takes)

pub returns-in-End-clause-told : goal.returns-in-End-clause-told
returns-in-End-clause-told g c =
    run_told (source_of g.R.Source.coming g.R.Source.failed g.R.Source.gave) (sink_of g.W.Sink.taken g.W.Sink.flushed g.W.Sink.failed) (fresh (dialect_of c.args.config)) _ _ _ _ _ refl
    (walk_to_end (source_of g.R.Source.coming g.R.Source.failed g.R.Source.gave) (sink_of g.W.Sink.taken g.W.Sink.flushed g.W.Sink.failed) (fresh (dialect_of c.args.config)) _ _ _ _ _ c.loop-next.invariant c.in-End.status _ _
    (rw c.in-End.is at c.in_ok-next.ensures.takes))

pub returns-in_err-next-clause-runs : goal.returns-in_err-next-clause-runs
returns-in_err-next-clause-runs g c =
    let same = err_from_is_err_and c.from_residual-in_err-next.result c.from_residual-in_err-next.ensures.1 in
    rw (same.1, same.2)
    (walk_to_fault (source_of g.R.Source.coming g.R.Source.failed g.R.Source.gave) (sink_of g.W.Sink.taken g.W.Sink.flushed g.W.Sink.failed) (fresh (dialect_of c.args.config)) _ _ _ _ _ c.loop-next.invariant c.in_err-next.field-0.0 _ _ c.in_err-next.ensures.takes)

pub returns-in_err-next-clause-told : goal.returns-in_err-next-clause-told
returns-in_err-next-clause-told g c =
    let same = err_from_is_err_and c.from_residual-in_err-next.result c.from_residual-in_err-next.ensures.1 in
    rw (same.1, same.2)
    (run_told (source_of g.R.Source.coming g.R.Source.failed g.R.Source.gave) (sink_of g.W.Sink.taken g.W.Sink.flushed g.W.Sink.failed) (fresh (dialect_of c.args.config)) _ _ _ _ _ refl
    (walk_to_fault (source_of g.R.Source.coming g.R.Source.failed g.R.Source.gave) (sink_of g.W.Sink.taken g.W.Sink.flushed g.W.Sink.failed) (fresh (dialect_of c.args.config)) _ _ _ _ _ c.loop-next.invariant c.in_err-next.field-0.0 _ _ c.in_err-next.ensures.takes))

pub returns-in_err-server-clause-one_output : goal.returns-in_err-server-clause-one_output
returns-in_err-server-clause-one_output g c = has_one_output (fresh (dialect_of c.args.config))

pub returns-in_err-server-clause-grows : goal.returns-in_err-server-clause-grows
returns-in_err-server-clause-grows g c = output_grows (fresh (dialect_of c.args.config))

pub returns-in-End-clause-one_output : goal.returns-in-End-clause-one_output
returns-in-End-clause-one_output g c = has_one_output (fresh (dialect_of c.args.config))

pub returns-in-End-clause-grows : goal.returns-in-End-clause-grows
returns-in-End-clause-grows g c = output_grows (fresh (dialect_of c.args.config))

pub returns-in_err-next-clause-one_output : goal.returns-in_err-next-clause-one_output
returns-in_err-next-clause-one_output g c = has_one_output (fresh (dialect_of c.args.config))

pub returns-in_err-next-clause-grows : goal.returns-in_err-next-clause-grows
returns-in_err-next-clause-grows g c = output_grows (fresh (dialect_of c.args.config))

pub returns-in_err-server-clause-failed_pull : goal.returns-in_err-server-clause-failed_pull
returns-in_err-server-clause-failed_pull g c =
    let same = err_from_is_err_and c.from_residual.result c.from_residual.ensures.1 in
    rw (same.1, same.2)
    (failed_pull (source_of g.R.Source.coming g.R.Source.failed g.R.Source.gave) (sink_of g.W.Sink.taken g.W.Sink.flushed g.W.Sink.failed) (fresh (dialect_of c.args.config)) _ _ _ _ _ (no_run (source_of g.R.Source.coming g.R.Source.failed g.R.Source.gave) (sink_of g.W.Sink.taken g.W.Sink.flushed g.W.Sink.failed) (fresh (dialect_of c.args.config)) _ _ refl))

pub returns-in-End-clause-failed_pull : goal.returns-in-End-clause-failed_pull
returns-in-End-clause-failed_pull g c =
    failed_pull (source_of g.R.Source.coming g.R.Source.failed g.R.Source.gave) (sink_of g.W.Sink.taken g.W.Sink.flushed g.W.Sink.failed) (fresh (dialect_of c.args.config)) _ _ _ _ _
    (walk_to_end (source_of g.R.Source.coming g.R.Source.failed g.R.Source.gave) (sink_of g.W.Sink.taken g.W.Sink.flushed g.W.Sink.failed) (fresh (dialect_of c.args.config)) _ _ _ _ _ c.loop-next.invariant c.in-End.status _ _
    (rw c.in-End.is at c.in_ok-next.ensures.takes))

pub returns-in_err-next-clause-failed_pull : goal.returns-in_err-next-clause-failed_pull
returns-in_err-next-clause-failed_pull g c =
    let same = err_from_is_err_and c.from_residual-in_err-next.result c.from_residual-in_err-next.ensures.1 in
    rw (same.1, same.2)
    (failed_pull (source_of g.R.Source.coming g.R.Source.failed g.R.Source.gave) (sink_of g.W.Sink.taken g.W.Sink.flushed g.W.Sink.failed) (fresh (dialect_of c.args.config)) _ _ _ _ _
    (walk_to_fault (source_of g.R.Source.coming g.R.Source.failed g.R.Source.gave) (sink_of g.W.Sink.taken g.W.Sink.flushed g.W.Sink.failed) (fresh (dialect_of c.args.config)) _ _ _ _ _ c.loop-next.invariant c.in_err-next.field-0.0 _ _ c.in_err-next.ensures.takes))
