-- Laws of outputs: every input has exactly one, except for which derivation is given, and it grows with the input. And a law of runs: when a pull fails, all that was due
-- is answered.
use Rattle.std.specs.Prelude.{◌≡◌, ◌<◌, List, [], ℕ, ◌++◌, Result, Err}
use Rattle.std.specs.List.{concat}
use Rattle.serde_json.specs.Data.{Data}
use Rattle.lam_frame.specs.Device.{FailedPull, SourceView, SinkView}
use Rattle.lam_frame.specs.Frame.{HasFrame}
use Rattle.lam_frame.specs.Next.{PulledWhile}
use Rattle.lam_rpc.specs.Kind.{Message, IsKindOf}
use Rattle.lam_session.specs.OneAnswer.{AreAlike}
use Rattle.lam_session.specs.Step.{Steps}
use Rattle.lam_session.specs.State.{State}
use Rattle.lam_server.specs.Device.{Sends}
use Rattle.lam_server.specs.Output.{Outcome, IsAllowed, IsAnsweredIn, IsAwaiting, IsFront, frames_of}
use Rattle.lam_server.specs.declared.faults.RunFault.{RunFault}
use Rattle.lam_server.specs.declared.faults.RunFault.TheVariants.{Device}

-- two outputs for the same bytes that are alike message by message
pub data AreAlikeOutputs : State → List ℕ → List ℕ → List ℕ → Type 0 where
  both_end : {s : State} {bytes : List ℕ} → AreAlikeOutputs s bytes [] []
  both_answer : {s next : State} {bytes body left rest others : List ℕ} {message : Message} {values sent : List Data}
      → HasFrame bytes body left → IsKindOf body message → Steps s message values next → AreAlike s message values sent
      → AreAlikeOutputs next left rest others
      → AreAlikeOutputs s bytes (frames_of values ++ rest) (frames_of sent ++ others)

-- There are an output and an outcome that are allowed for the input, and any two outputs that are allowed are alike, with the same outcome.
pub record HasOneOutput (start : State) (input : List ℕ) : Type 0 where
  pub out : List ℕ
  pub outcome : Outcome
  pub allowed : IsAllowed start input out outcome
  pub alone : (one other : List ℕ) (end after : Outcome) → IsAllowed start input one end → IsAllowed start input other after
      → AreAlikeOutputs start input one other × (end ≡ after)

-- A prefix of an output for these bytes is also one for any extension of them.
pub record OutputGrows (start : State) (bytes : List ℕ) : Type 0 where
  pub grows : (more out : List ℕ) → IsFront start bytes out → IsFront start (bytes ++ more) out

-- After these pieces a pull failed: all that was due for them is accepted and flushed, and the sink has not failed.
pub record FindsAllAnswered {S W : Type 0} (from : SourceView S) (to : SinkView W)
    (start : State) (source : S) (sink : W) (answer : Result ℕ RunFault) (source_after : S) (sink_after : W) : Type 0 where
  pub pieces : List (List ℕ)
  pub last : S
  pub out : List ℕ
  pub pulled : PulledWhile from (IsAnsweredIn start out) [] source pieces last
  pub failed : FailedPull from last source_after
  pub owed : IsAwaiting start (concat pieces) out
  pub sent : Sends to sink out sink_after
  pub faulted : answer ≡ Err Device

-- If a pull fails in a run, all that was due is answered. A run that batches its answers violates this with a source that fails once and a sink that fails from then on.
abbrev pub FailedPullFindsAllAnswered : {S W : Type 0} → SourceView S → SinkView W → State → S → W → Result ℕ RunFault → S → W → Type 0
FailedPullFindsAllAnswered from to start source sink answer source_after sink_after =
    from.failed source < from.failed source_after
    → FindsAllAnswered from to start source sink answer source_after sink_after
