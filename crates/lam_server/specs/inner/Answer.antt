-- The effect of answering one body on the session and the sink. For private functions only.
use Rattle.std.specs.Prelude.{◌≡◌, ℕ, List, Result, Ok, Err}
use Rattle.serde_json.specs.Data.{Data}
use Rattle.lam_rpc.specs.Kind.{Message, IsKindOf}
use Rattle.lam_session.specs.State.{Snapshot}
use Rattle.lam_session.specs.Step.{Answers}
use Rattle.lam_server.specs.Device.{Sends, FailsToSend, StopsSending}
use Rattle.lam_server.specs.Output.{frames_of}
use Rattle.lam_server.specs.declared.faults.RunFault.{RunFault}
use Rattle.lam_frame.specs.Device.{SinkView}
use Rattle.lam_server.specs.declared.faults.RunFault.TheVariants.{Header, Device, Memory}

-- The frames of these values are written, or some prefix of them before an error.
abbrev pub WritesValues : {W : Type 0} → SinkView W → List Data → W → Result (Unit {0}) RunFault → W → Type 0
WritesValues to values sink (Ok _) sink_after = Sends to sink (frames_of values) sink_after
WritesValues to values sink (Err Device) sink_after = FailsToSend to sink (frames_of values) sink_after
WritesValues to values sink (Err Memory) sink_after = StopsSending to sink values sink_after
WritesValues to values sink (Err (Header _)) sink_after = ⊥

-- The session handles the message in the body.
pub record StepsBody (old : Snapshot) (body : List ℕ) (values : List Data) (new : Snapshot) : Type 0 where
  pub message : Message
  pub kind : IsKindOf body message
  pub answers : Answers old message values new

-- An allocation failed before anything was sent, or while sending.
pub data StopsAnswering {W : Type 0} (to : SinkView W) (old : Snapshot) (body : List ℕ) (sink : W) (new : Snapshot) (sink_after : W) : Type 0 where
  before_sending : sink ≡ sink_after → StopsAnswering to old body sink new sink_after
  while_sending : (values : List Data) → StepsBody old body values new → StopsSending to sink values sink_after
      → StopsAnswering to old body sink new sink_after

-- One body is answered, perhaps not completely.
abbrev pub AnswersBody : {W : Type 0} → SinkView W → Snapshot → List ℕ → W → Result (Unit {0}) RunFault → Snapshot → W → Type 0
AnswersBody to old body sink (Ok _) new sink_after =
    (values : List Data) × StepsBody old body values new × Sends to sink (frames_of values) sink_after
AnswersBody to old body sink (Err Device) new sink_after =
    (values : List Data) × StepsBody old body values new × FailsToSend to sink (frames_of values) sink_after
AnswersBody to old body sink (Err Memory) new sink_after = StopsAnswering to old body sink new sink_after
AnswersBody to old body sink (Err (Header _)) new sink_after = ⊥
