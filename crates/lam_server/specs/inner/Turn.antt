-- The effect of a turn: on the bytes held and pulled, on the session, and on the sink.
use Rattle.std.specs.Prelude.{◌≡◌, ◌≢◌, ℕ, ◌+◌, ◌^◌, ◌<◌, ◌≤◌, List, [], ◌++◌, length, Some, Result, Ok, Err}
use Rattle.std.specs.List.{concat}
use Rattle.lam_frame.specs.Device.{FailedPull, SourceView, SinkView}
use Rattle.lam_frame.specs.Frame.{HasFault, IsOpen}
use Rattle.lam_frame.specs.Next.{EndsEmpty, OnlyLastEmpty, PulledWhile}
use Rattle.lam_frame.specs.declared.fault.FrameFault.{FrameFault}
use Rattle.lam_frame.specs.declared.fault.FrameFault.TheVariants.{NoLength, BadLength, TooLong, BadHeader, Truncated}
use Rattle.lam_session.specs.State.{State, ended_status}
use Rattle.lam_server.specs.Device.{Sends, FailsToSend, StopsSending}
use Rattle.lam_server.specs.Output.{Takes, IsLive}
use Rattle.lam_server.specs.inner.Waiting.{Waiting, HasLessWork}
use Rattle.lam_server.specs.declared.faults.RunFault.{RunFault}
use Rattle.lam_server.specs.declared.faults.RunFault.TheVariants.{Header, Device, Memory}
use Rattle.lam_server.specs.declared.server.Turn.{Turn}
use Rattle.lam_server.specs.declared.server.Turn.TheVariants.{More, End}

-- One more pull is due: the bytes are open, and no empty piece marked the end.
abbrev pub WantsMore : List ℕ → List (List ℕ) → Type 0
WantsMore bytes pieces = IsOpen bytes × (EndsEmpty pieces → ⊥)

-- The bytes cannot begin with a frame, because of one of the five errors of headers and ends; the end is marked by an empty piece.
abbrev pub IsBroken : List ℕ → List (List ℕ) → FrameFault → Type 0
IsBroken bytes pieces NoLength = HasFault bytes NoLength
IsBroken bytes pieces BadLength = HasFault bytes BadLength
IsBroken bytes pieces TooLong = HasFault bytes TooLong
IsBroken bytes pieces BadHeader = HasFault bytes BadHeader
IsBroken bytes pieces Truncated = IsOpen bytes × ((bytes ≢ []) × EndsEmpty pieces)
IsBroken bytes pieces _ = ⊥

-- One message is taken from these bytes and completely answered.
pub record AnswersOne {W : Type 0} (to : SinkView W)
    (s : State) (heard : List ℕ) (sink : W) (next : State) (left : List ℕ) (sink_after : W) : Type 0 where
  pub out : List ℕ
  pub takes : Takes s heard out next left
  pub sends : Sends to sink out sink_after

-- The session continues after that message.
pub record GoesOn {W : Type 0} (to : SinkView W)
    (old : Waiting) (heard : List ℕ) (pieces : List (List ℕ)) (sink : W) (new : Waiting) (sink_after : W) : Type 0 where
  pub answers : AnswersOne to old.state heard sink new.state new.held sink_after
  pub live : IsLive new.state
  pub counted : new.pulls ≡ old.pulls + length pieces

-- The session ends with that message, or the input has ended.
pub data Ends {W : Type 0} (to : SinkView W)
    (s : State) (heard : List ℕ) (pieces : List (List ℕ)) (sink : W) (status : ℕ) (sink_after : W) : Type 0 where
  by_message : (next : State) (left : List ℕ) → AnswersOne to s heard sink next left sink_after
      → ended_status next.life ≡ Some status → Ends to s heard pieces sink status sink_after
  by_silence : heard ≡ [] → EndsEmpty pieces → status ≡ 1 → sink ≡ sink_after → Ends to s heard pieces sink status sink_after

-- A pull that was due failed, or would have exceeded the limit, or the sink failed while it was given the answer.
pub data DeviceStops {S W : Type 0} (from : SourceView S) (to : SinkView W)
    (old : Waiting) (heard : List ℕ) (pieces : List (List ℕ)) (last : S) (sink : W) (source_after : S) (sink_after : W) : Type 0 where
  at_pull : WantsMore heard pieces → old.pulls + length pieces < 2 ^ 48 → FailedPull from last source_after → sink ≡ sink_after
      → DeviceStops from to old heard pieces last sink source_after sink_after
  at_limit : WantsMore heard pieces → old.pulls + length pieces ≡ 2 ^ 48 → last ≡ source_after → sink ≡ sink_after
      → DeviceStops from to old heard pieces last sink source_after sink_after
  at_sink : (out : List ℕ) (next : State) (left : List ℕ) → Takes old.state heard out next left → last ≡ source_after → FailsToSend to sink out sink_after
      → DeviceStops from to old heard pieces last sink source_after sink_after

-- Nothing was sent, or the text of a value of the answer could not be allocated.
pub data MemoryStops {W : Type 0} (to : SinkView W)
    (s : State) (heard : List ℕ) (sink sink_after : W) : Type 0 where
  before_sending : sink ≡ sink_after → MemoryStops to s heard sink sink_after
  while_sending : (out : List ℕ) (next : State) (left : List ℕ) → (takes : Takes s heard out next left)
      → StopsSending to sink takes.values sink_after → MemoryStops to s heard sink sink_after

-- what the result of a turn means for the bytes heard
abbrev pub TurnSays : {S W : Type 0} → SourceView S → SinkView W → Waiting → List ℕ → List (List ℕ) → S → W → Result Turn RunFault → S → W → Type 0
TurnSays from to old heard pieces last sink (Ok (More server)) source_after sink_after =
    GoesOn to old heard pieces sink server sink_after × (last ≡ source_after)
TurnSays from to old heard pieces last sink (Ok (End status)) source_after sink_after =
    Ends to old.state heard pieces sink status sink_after × (last ≡ source_after)
TurnSays from to old heard pieces last sink (Err (Header fault)) source_after sink_after =
    IsBroken heard pieces fault × ((last ≡ source_after) × (sink ≡ sink_after))
TurnSays from to old heard pieces last sink (Err Device) source_after sink_after =
    DeviceStops from to old heard pieces last sink source_after sink_after
TurnSays from to old heard pieces last sink (Err Memory) source_after sink_after =
    MemoryStops to old.state heard sink sink_after × (last ≡ source_after)

-- A turn: pulls while the bytes are open and no empty piece marked the end, and then the result.
pub record TakesTurn {S W : Type 0} (from : SourceView S) (to : SinkView W)
    (old : Waiting) (source : S) (sink : W) (answer : Result Turn RunFault) (source_after : S) (sink_after : W) : Type 0 where
  pub pieces : List (List ℕ)
  pub last : S
  pub needed : PulledWhile from IsOpen old.held source pieces last
  pub stopped : OnlyLastEmpty pieces
  pub few : old.pulls + length pieces ≤ 2 ^ 48
  pub says : TurnSays from to old (old.held ++ concat pieces) pieces last sink answer source_after sink_after

-- The remaining work decreases if the session continues.
abbrev pub ShrinksWork : Waiting → Result Turn RunFault → Type 0
ShrinksWork old (Ok (More server)) = HasLessWork server old
ShrinksWork old (Ok (End status)) = Unit {0}
ShrinksWork old (Err fault) = Unit {0}
