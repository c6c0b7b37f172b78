-- A whole run, from the first turn to the last.
use Rattle.std.specs.Prelude.{◌≡◌, ℕ, ◌+◌, ◌^◌, ◌<◌, ◌≤◌, List, [], ◌++◌, length, Option, Some, None, Result, Ok, Err}
use Rattle.std.specs.List.{concat}
use Rattle.std.specs.Io.KnownBytes.{Appends}
use Rattle.lam_frame.specs.Device.{FailedPull, SourceView, SinkView}
use Rattle.lam_frame.specs.Next.{EndsEmpty, OnlyLastEmpty, PulledWhile}
use Rattle.lam_session.specs.State.{State}
use Rattle.lam_server.specs.Device.{Sends}
use Rattle.lam_server.specs.Output.{Outcome, IsAllowed, IsFront, IsAwaiting, IsAnsweredIn, EndsInAnswer, EndsInFrames}
use Rattle.lam_server.specs.declared.faults.RunFault.{RunFault}
use Rattle.lam_server.specs.declared.faults.RunFault.TheVariants.{Header, Device, Memory}

-- ---- by the pieces that the source returned

-- bytes that may follow these pieces: none if an empty piece marked the end
abbrev pub MayFollow : List (List ℕ) → List ℕ → Type 0
MayFollow pieces more = EndsEmpty pieces → more ≡ []

-- Whatever follows the bytes read, this output is allowed, with this outcome.
abbrev pub IsSettled : State → List (List ℕ) → List ℕ → Outcome → Type 0
IsSettled start pieces out outcome = (more : List ℕ) → MayFollow pieces more → IsAllowed start (concat pieces ++ more) out outcome

-- One more pull is due: every complete message is answered, and no empty piece marked the end.
abbrev pub AwaitsMore : State → List (List ℕ) → List ℕ → Type 0
AwaitsMore start pieces out = IsAwaiting start (concat pieces) out × (EndsEmpty pieces → ⊥)

-- A pull that was due failed, or would have exceeded the limit, or the sink failed during the answer to one message.
pub data DeviceEnds {S W : Type 0} (from : SourceView S) (to : SinkView W)
    (start : State) (pieces : List (List ℕ)) (last : S) (sink : W) (out : List ℕ) (source_after : S) (sink_after : W) : Type 0 where
  at_pull : AwaitsMore start pieces out → length pieces < 2 ^ 48 → FailedPull from last source_after → Sends to sink out sink_after
      → DeviceEnds from to start pieces last sink out source_after sink_after
  at_limit : AwaitsMore start pieces out → length pieces ≡ 2 ^ 48 → last ≡ source_after → Sends to sink out sink_after
      → DeviceEnds from to start pieces last sink out source_after sink_after
  at_sink : IsFront start (concat pieces) out → EndsInAnswer start (concat pieces) out → Appends (to.taken sink) (to.taken sink_after) out → to.failed sink_after ≡ to.failed sink + 1 → last ≡ source_after
      → DeviceEnds from to start pieces last sink out source_after sink_after

-- An allocation failed: whole answers and whole frames of the next one are sent, all flushed.
pub record MemoryEnds {S W : Type 0} (to : SinkView W)
    (start : State) (pieces : List (List ℕ)) (last : S) (sink : W) (out : List ℕ) (source_after : S) (sink_after : W) : Type 0 where
  pub front : IsFront start (concat pieces) out
  pub frames : EndsInFrames start (concat pieces) out
  pub sends : Sends to sink out sink_after
  pub same : last ≡ source_after

-- what the result of a run means for the pieces and the bytes sent
abbrev pub RunSays : {S W : Type 0} → SourceView S → SinkView W → State → List (List ℕ) → S → W → List ℕ → Result ℕ RunFault → S → W → Type 0
RunSays from to start pieces last sink out (Ok status) source_after sink_after =
    IsSettled start pieces out (Ok status) × (Sends to sink out sink_after × (last ≡ source_after))
RunSays from to start pieces last sink out (Err (Header fault)) source_after sink_after =
    IsSettled start pieces out (Err fault) × (Sends to sink out sink_after × (last ≡ source_after))
RunSays from to start pieces last sink out (Err Device) source_after sink_after =
    DeviceEnds from to start pieces last sink out source_after sink_after
RunSays from to start pieces last sink out (Err Memory) source_after sink_after =
    MemoryEnds to start pieces last sink out source_after sink_after

-- A run: the pieces pulled, each while the input had not ended, the bytes sent, which begin with the answers to all complete messages before each pull, and what the
-- result means for both.
pub record Runs {S W : Type 0} (from : SourceView S) (to : SinkView W)
    (start : State) (source : S) (sink : W) (answer : Result ℕ RunFault) (source_after : S) (sink_after : W) : Type 0 where
  pub pieces : List (List ℕ)
  pub last : S
  pub out : List ℕ
  pub needed : PulledWhile from (IsAnsweredIn start out) [] source pieces last
  pub stopped : OnlyLastEmpty pieces
  pub few : length pieces ≤ 2 ^ 48
  pub says : RunSays from to start pieces last sink out answer source_after sink_after

-- ---- by the observable bytes of the source

-- The sink accepted an output that is allowed for the input, with this outcome.
pub record AnswersInput (start : State) (input : List ℕ) (outcome : Outcome) (taken taken_after : Option (List ℕ)) : Type 0 where
  pub out : List ℕ
  pub allowed : IsAllowed start input out outcome
  pub appended : Appends taken taken_after out

-- Every message that was complete before a last piece of these bytes is answered, and that piece has at most 65,536 bytes.
pub record AnswersAllButOnePiece (start : State) (read out : List ℕ) : Type 0 where
  pub earlier : List ℕ
  pub piece : List ℕ
  pub split : read ≡ earlier ++ piece
  pub small : length piece ≤ 65536
  pub answered : IsAnsweredIn start out earlier

-- The sink accepted a prefix of an output that is allowed for the bytes read, with the answers to all messages that were complete before such a last piece.
pub record AnswersFront (start : State) (input left : List ℕ) (taken taken_after : Option (List ℕ)) : Type 0 where
  pub read : List ℕ
  pub out : List ℕ
  pub split : input ≡ read ++ left
  pub front : IsFront start read out
  pub answered : AnswersAllButOnePiece start read out
  pub appended : Appends taken taken_after out

-- what the sink accepted, by the result of a run on this input: a whole output, or a prefix of one if a device or an allocation failed
abbrev pub AnswersTold : State → List ℕ → List ℕ → Result ℕ RunFault → Option (List ℕ) → Option (List ℕ) → Type 0
AnswersTold start input left (Ok status) taken taken_after = AnswersInput start input (Ok status) taken taken_after
AnswersTold start input left (Err (Header fault)) taken taken_after = AnswersInput start input (Err fault) taken taken_after
AnswersTold start input left (Err Device) taken taken_after = AnswersFront start input left taken taken_after
AnswersTold start input left (Err Memory) taken taken_after = AnswersFront start input left taken taken_after

-- the same, if the bytes of the source are observable
abbrev pub AnswersWhereTold : State → Option (List ℕ) → Option (List ℕ) → Result ℕ RunFault → Option (List ℕ) → Option (List ℕ) → Type 0
AnswersWhereTold start None left answer taken taken_after = Unit {0}
AnswersWhereTold start (Some input) None answer taken taken_after = ⊥
AnswersWhereTold start (Some input) (Some left) answer taken taken_after = AnswersTold start input left answer taken taken_after
