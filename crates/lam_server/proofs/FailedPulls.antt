-- When a pull fails, all that was due is answered; the count of the source's failures rises in a run in no other way.
use Rattle.std.proofs.Common.{◌≡◌, ◌<◌, ℕ, [], Result, Ok, Err, refl, ap, arith}
use Rattle.lam_frame.specs.Device.{SourceView, SinkView}
use Rattle.lam_frame.proofs.Pulls.{PulledWhile-failed}
use Rattle.lam_session.specs.State.{State}
use Rattle.lam_server.specs.Laws.{FailedPullFindsAllAnswered, FindsAllAnswered}
use Rattle.lam_server.specs.Output.{IsAnsweredIn}
use Rattle.lam_server.specs.Run.{DeviceEnds, Runs}
use Rattle.lam_server.specs.Run.DeviceEnds.{at_pull, at_limit, at_sink}
use Rattle.lam_server.specs.declared.faults.RunFault.{RunFault}
use Rattle.lam_server.specs.declared.faults.RunFault.TheVariants.{Header, Device, Memory}

module _ {S W : Type 0} (from : SourceView S) (to : SinkView W) where
  module _ (start : State) (source : S) (sink : W) (source_after : S) (sink_after : W) (rose : from.failed source < from.failed source_after) where
    -- if the source is the one that was left by the pieces, no pull failed
    no_failure : (answer : Result ℕ RunFault) → (r : Runs from to start source sink answer source_after sink_after) → r.last ≡ source_after → ⊥
    no_failure answer r same =
        let pulled : from.failed r.last ≡ from.failed source = PulledWhile-failed from (IsAnsweredIn start r.out) [] source r.last r.pieces r.needed in
        omega (arith, rose, pulled, ap from.failed same)

    at_device : (r : Runs from to start source sink (Err Device) source_after sink_after)
        → DeviceEnds from to start r.pieces r.last sink r.out source_after sink_after
        → FindsAllAnswered from to start source sink (Err Device) source_after sink_after
    at_device r (at_pull awaits room failure sends) = record {
      pieces = r.pieces;
      last = r.last;
      out = r.out;
      pulled = r.needed;
      failed = failure;
      owed = awaits.0;
      sent = sends;
      faulted = refl;
    }
    at_device r (at_limit awaits limit same sends) = absurd (no_failure (Err Device) r same)
    at_device r (at_sink front in_answer appended counted same) = absurd (no_failure (Err Device) r same)

    finds : (answer : Result ℕ RunFault) → Runs from to start source sink answer source_after sink_after
        → FindsAllAnswered from to start source sink answer source_after sink_after
    finds (Ok status) r = absurd (no_failure (Ok status) r r.says.1.1)
    finds (Err (Header fault)) r = absurd (no_failure (Err (Header fault)) r r.says.1.1)
    finds (Err Device) r = at_device r r.says
    finds (Err Memory) r = absurd (no_failure (Err Memory) r r.says.same)

  pub failed_pull : (start : State) (source : S) (sink : W) (answer : Result ℕ RunFault) (source_after : S) (sink_after : W)
      → Runs from to start source sink answer source_after sink_after
      → FailedPullFindsAllAnswered from to start source sink answer source_after sink_after
  failed_pull start source sink answer source_after sink_after r = λ rose. finds start source sink source_after sink_after rose answer r
