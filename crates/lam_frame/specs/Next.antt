-- The effect of a reading call: the pieces that it pulls, and what its result means for the bytes.
use Rattle.std.specs.Prelude.{◌≡◌, ◌≢◌, ℕ, ◌+◌, ◌-◌, ◌*◌, ◌^◌, ◌<◌, ◌≤◌, List, [], ◌∷◌, ◌++◌, length, Option, Some, None, Result, Ok, Err}
use Rattle.std.specs.List.{concat}
use Rattle.lam_frame.specs.Device.{Gave, FailedPull, SourceView}
use Rattle.lam_frame.specs.Frame.{HasFrame, HasFault, IsOpen, IsRest}
use Rattle.lam_frame.specs.declared.fault.FrameFault.{FrameFault}
use Rattle.lam_frame.specs.declared.fault.FrameFault.TheVariants.{Truncated, Device, Memory, TooManyTurns, Spent}
use Rattle.lam_frame.specs.declared.reader.State.{State}
use Rattle.lam_frame.specs.declared.reader.State.TheVariants.{Reading, Ended, Spent as SpentState}

-- The progress of a reader: the bytes held, the number of pulls so far, and whether it can still read.
pub record Progress : Type 0 where
  pub held : List ℕ
  pub pulls : ℕ
  pub state : State

-- ---- the pulls

-- Pulls returned these pieces, and before each pull P held of the bytes so far. A piece has at most 65,536 bytes, since a reader requests no more; `work_left` relies on
-- that.
abbrev pub PulledWhile : {S : Type 0} → SourceView S → (List ℕ → Type 0) → List ℕ → S → List (List ℕ) → S → Type 0
PulledWhile from P held source [] last = source ≡ last
PulledWhile {S} from P held source (piece ∷ pieces) last =
    P held × (length piece ≤ 65536) × ((middle : S) × Gave from source piece middle × PulledWhile from P (held ++ piece) middle pieces last)

-- The last piece is empty, as at the end of the source.
abbrev pub EndsEmpty : List (List ℕ) → Type 0
EndsEmpty pieces = (front : List (List ℕ)) × (pieces ≡ front ++ ([] ∷ []))

-- Each piece before the last is nonempty: there is no pull after an empty one.
abbrev pub OnlyLastEmpty : List (List ℕ) → Type 0
OnlyLastEmpty [] = Unit {0}
OnlyLastEmpty (_ ∷ []) = Unit {0}
OnlyLastEmpty (piece ∷ next ∷ pieces) = (0 < length piece) × OnlyLastEmpty (next ∷ pieces)

-- the results for which a pull failed or was not made
abbrev pub IsCutOff : {V : Type 0} → Result V FrameFault → Type 0
IsCutOff (Err Device) = Unit {0}
IsCutOff (Err TooManyTurns) = Unit {0}
IsCutOff _ = ⊥

-- After the pieces there was no pull, or the one that failed.
abbrev pub After : {S V : Type 0} → SourceView S → S → Result V FrameFault → S → Type 0
After from last (Err Device) new = FailedPull from last new
After from last _ new = last ≡ new

-- A call that pulls while the bytes are open, and whose result relates the bytes held before, the pieces, and the bytes held after.
pub record Reads {S V : Type 0} (from : SourceView S)
    (Open : List ℕ → Type 0) (Said : List ℕ → List (List ℕ) → Result V FrameFault → List ℕ → Type 0)
    (held : List ℕ) (pulls : ℕ) (source : S) (answer : Result V FrameFault) (held_after : List ℕ) (pulls_after : ℕ) (source_after : S) : Type 0 where
  pub pieces : List (List ℕ)
  pub last : S
  pub needed : PulledWhile from Open held source pieces last
  pub stopped : OnlyLastEmpty pieces
  pub onward : IsCutOff answer → EndsEmpty pieces → ⊥
  pub after : After from last answer source_after
  pub says : Said (held ++ concat pieces) pieces answer held_after
  pub counted : pulls_after ≡ pulls + length pieces
  pub few : pulls_after ≤ 2 ^ 48
  pub room : answer ≡ Err Device → pulls_after < 2 ^ 48
  pub limit : answer ≡ Err TooManyTurns → pulls_after ≡ 2 ^ 48

-- ---- what a result of `next` means

-- for the bytes held before the call and pulled in it, and for those held after it
abbrev pub Says : {V : Type 0} → (V → List ℕ) → List ℕ → List (List ℕ) → Result (Option V) FrameFault → List ℕ → Type 0
Says items heard pieces (Ok (Some body)) held = HasFrame heard (items body) held
Says items heard pieces (Ok None) held = (heard ≡ []) × EndsEmpty pieces
Says items heard pieces (Err Truncated) held = IsOpen heard × ((heard ≢ []) × EndsEmpty pieces)
Says items heard pieces (Err Device) held = IsOpen heard
Says items heard pieces (Err TooManyTurns) held = IsOpen heard
Says items heard pieces (Err Memory) held = Unit {0}
Says items heard pieces (Err Spent) held = ⊥
Says items heard pieces (Err fault) held = HasFault heard fault

-- for all bytes, held and to come, before the call and after it
abbrev pub Answers : {V : Type 0} → (V → List ℕ) → List ℕ → Result (Option V) FrameFault → List ℕ → Type 0
Answers items bytes (Ok (Some body)) left = HasFrame bytes (items body) left
Answers items bytes (Ok None) left = bytes ≡ []
Answers items bytes (Err Device) left = Unit {0}
Answers items bytes (Err TooManyTurns) left = Unit {0}
Answers items bytes (Err Memory) left = Unit {0}
Answers items bytes (Err Spent) left = ⊥
Answers items bytes (Err fault) left = IsRest bytes (Some fault)

-- the same, if the bytes to come are observable
abbrev pub ReadsWhereTold : {V : Type 0} → (V → List ℕ) → List ℕ → Option (List ℕ) → Result (Option V) FrameFault → List ℕ → Option (List ℕ) → Type 0
ReadsWhereTold items held None answer held_after left = Unit {0}
ReadsWhereTold items held (Some coming) answer held_after None = ⊥
ReadsWhereTold items held (Some coming) answer held_after (Some left) = Answers items (held ++ coming) answer (held_after ++ left)

-- the number of failures, which is one more if the device failed
abbrev pub failures_after : {V : Type 0} → Result V FrameFault → ℕ → ℕ
failures_after (Err Device) failures = failures + 1
failures_after _ failures = failures

-- A reader can still read only after it returned a body.
abbrev pub state_after : {V : Type 0} → Result (Option V) FrameFault → State
state_after (Ok (Some _)) = Reading
state_after (Ok None) = Ended
state_after (Err _) = SpentState

-- a number that decreases with each body: the remaining pulls, of at most 65,536 bytes each, and the bytes held
abbrev pub work_left : ℕ → List ℕ → ℕ
work_left pulls held = 65537 * (2 ^ 48 - pulls) + length held
