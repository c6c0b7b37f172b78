-- The answer to the bytes of a client: the frames of the values sent for each message, message by message.
use Rattle.std.specs.Prelude.{◌≡◌, ℕ, List, [], ◌∷◌, ◌++◌, Option, Some, None, Result, Ok, Err}
use Rattle.serde_json.specs.Data.{Data}
use Rattle.serde_json.specs.Written.{compact_text}
use Rattle.lam_frame.specs.Frame.{HasFrame, IsOpen, IsRest, frame_text}
use Rattle.lam_frame.specs.declared.fault.FrameFault.{FrameFault}
use Rattle.lam_rpc.specs.Kind.{Message, IsKindOf}
use Rattle.lam_session.specs.State.{State, ended_status}
use Rattle.lam_session.specs.Step.{Steps}

-- ---- one message

-- a frame with the text of each value, one after another
abbrev pub frames_of : List Data → List ℕ
frames_of [] = []
frames_of (d ∷ ds) = frame_text (compact_text d) ++ frames_of ds

-- A message is at the start of the bytes: these frames answer it, this is the state after it, and these bytes remain.
pub record Takes (s : State) (bytes out : List ℕ) (next : State) (left : List ℕ) : Type 0 where
  pub body : List ℕ
  pub message : Message
  pub values : List Data
  pub frame : HasFrame bytes body left
  pub kind : IsKindOf body message
  pub steps : Steps s message values next
  pub frames : out ≡ frames_of values

-- ---- several messages

-- The session has not ended.
abbrev pub IsLive : State → Type 0
IsLive s = ended_status s.life ≡ None

-- Some messages at the start of the bytes are answered by these frames while the session has not ended, which leads to this state and leaves these bytes.
pub data Turns (start : State) (bytes : List ℕ) : List ℕ → State → List ℕ → Type 0 where
  no_turn : Turns start bytes [] start bytes
  next_turn : {done first : List ℕ} {s next : State} {left after : List ℕ}
      → Turns start bytes done s left → IsLive s → Takes s left first next after
      → Turns start bytes (done ++ first) next after

-- ---- whole runs

-- the outcome of a run: an exit status, or the error in the bytes that remain
abbrev pub Outcome : Type 0
Outcome = Result ℕ FrameFault

-- The session has ended with this status; or no frame remains, where a clean end without an `exit` has status 1.
abbrev pub ComesTo : Option ℕ → List ℕ → Outcome → Type 0
ComesTo (Some status) left outcome = outcome ≡ Ok status
ComesTo None left (Ok status) = IsRest left None × (status ≡ 1)
ComesTo None left (Err fault) = IsRest left (Some fault)

-- The output is allowed for the input, with this outcome.
pub record IsAllowed (start : State) (input out : List ℕ) (outcome : Outcome) : Type 0 where
  pub state : State
  pub left : List ℕ
  pub turns : Turns start input out state left
  pub comes_to : ComesTo (ended_status state.life) left outcome

-- ---- parts of runs

-- The output is a prefix of one that is allowed for the bytes.
pub record IsFront (start : State) (bytes out : List ℕ) : Type 0 where
  pub rest : List ℕ
  pub outcome : Outcome
  pub allowed : IsAllowed start bytes (out ++ rest) outcome

-- Every complete message in the bytes is completely answered, the session has not ended, and the bytes that remain are still open.
pub record IsAwaiting (start : State) (bytes out : List ℕ) : Type 0 where
  pub state : State
  pub left : List ℕ
  pub turns : Turns start bytes out state left
  pub live : IsLive state
  pub undecided : IsOpen left

-- Every complete message in the bytes is answered at the start of the output, the session has not ended, and the bytes that remain are still open.
pub record IsAnsweredIn (start : State) (out bytes : List ℕ) : Type 0 where
  pub done : List ℕ
  pub more : List ℕ
  pub awaiting : IsAwaiting start bytes done
  pub begins : out ≡ done ++ more

-- Some first messages are completely answered, followed by a prefix of the answer to the next one.
pub record EndsInAnswer (start : State) (bytes out : List ℕ) : Type 0 where
  pub done : List ℕ
  pub state : State
  pub left : List ℕ
  pub turns : Turns start bytes done state left
  pub live : IsLive state
  pub answer : List ℕ
  pub next : State
  pub after : List ℕ
  pub takes : Takes state left answer next after
  pub front : List ℕ
  pub rest : List ℕ
  pub split : answer ≡ front ++ rest
  pub begins : out ≡ done ++ front

-- Some first messages are completely answered, perhaps followed by the frames of the first values of the answer to the next one.
pub data EndsInFrames (start : State) (bytes out : List ℕ) : Type 0 where
  behind_message : {state : State} {left : List ℕ} → Turns start bytes out state left → IsLive state → EndsInFrames start bytes out
  behind_value : {done answer : List ℕ} {state next : State} {left after : List ℕ} → Turns start bytes done state left → IsLive state
      → (takes : Takes state left answer next after) → (front others : List Data) → takes.values ≡ front ++ others → out ≡ done ++ frames_of front
      → EndsInFrames start bytes out
