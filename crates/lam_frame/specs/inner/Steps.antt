-- The steps of a reading call. For private functions only.
use Rattle.std.specs.Prelude.{◌≡◌, ◌≢◌, ℕ, ◌+◌, ◌^◌, ◌<◌, ◌≤◌, List, [], ◌∷◌, ◌++◌, length, drop, Option, Some, None, Result, Ok, Err}
use Rattle.std.specs.List.{AllByRecursion}
use Rattle.lam_frame.specs.Device.{Gave, FailedPull, SourceView}
use Rattle.lam_frame.specs.Frame.{HasFault, IsOpen}
use Rattle.lam_frame.specs.Header.{HasHeader, IsUnfinished, body_length, header_limit}
use Rattle.lam_frame.specs.Next.{EndsEmpty}
use Rattle.lam_frame.specs.declared.device.DeviceFault.{DeviceFault}
use Rattle.lam_frame.specs.declared.fault.FrameFault.{FrameFault}
use Rattle.lam_frame.specs.declared.fault.FrameFault.TheVariants.{Truncated, Device, Memory, TooManyTurns, NoLength, BadLength, TooLong, BadHeader}
use Rattle.lam_frame.specs.declared.header.Start.{Start}
use Rattle.lam_frame.specs.declared.header.Start.TheVariants.{Whole, Open, Faulty}

-- the errors that the bytes themselves can have in a header part
abbrev pub IsByteFault : FrameFault → Type 0
IsByteFault NoLength = Unit {0}
IsByteFault BadLength = Unit {0}
IsByteFault TooLong = Unit {0}
IsByteFault BadHeader = Unit {0}
IsByteFault _ = ⊥

-- The bytes begin with a header part of `len` bytes, for a body of this size.
pub record StartsBody (bytes : List ℕ) (len size : ℕ) : Type 0 where
  pub lines : List (List ℕ)
  pub header : HasHeader bytes lines (drop len bytes)
  pub says : body_length lines ≡ Ok size
  pub within : len ≤ length bytes

-- The bytes begin with a header part, an incomplete one, or an error.
abbrev pub IsStart : List ℕ → Start → Type 0
IsStart bytes (Whole len size) = StartsBody bytes len size
IsStart bytes Open = IsUnfinished bytes × (length bytes < header_limit)
IsStart bytes (Faulty fault) = HasFault bytes fault × IsByteFault fault

-- one pull, whose piece is appended to the bytes held
pub record PulledPiece {S : Type 0} (from : SourceView S) (held : List ℕ) (source : S) (n : ℕ) (held_after : List ℕ) (source_after : S) : Type 0 where
  pub piece : List ℕ
  pub given : Gave from source piece source_after
  pub counted : length piece ≡ n
  pub small : n ≤ 65536
  pub added : held_after ≡ held ++ piece

-- a pull that appends to the bytes held, or fails
abbrev pub PullsBehind : {S : Type 0} → SourceView S → List ℕ → S → Result ℕ DeviceFault → List ℕ → S → Type 0
PullsBehind from held source (Ok n) held_after source_after = PulledPiece from held source n held_after source_after
PullsBehind from held source (Err _) held_after source_after = FailedPull from source source_after

-- the same with the number of pulls and its limit
abbrev pub PullsMore : {S : Type 0} → SourceView S → List ℕ → ℕ → S → Result ℕ FrameFault → List ℕ → ℕ → S → Type 0
PullsMore from held pulls source (Ok n) held_after pulls_after source_after =
    PulledPiece from held source n held_after source_after × ((pulls_after ≡ pulls + 1) × (pulls < 2 ^ 48))
PullsMore from held pulls source (Err Device) held_after pulls_after source_after =
    FailedPull from source source_after × ((pulls_after ≡ pulls) × (pulls < 2 ^ 48))
PullsMore from held pulls source (Err TooManyTurns) held_after pulls_after source_after =
    (source ≡ source_after) × ((pulls_after ≡ pulls) × (pulls ≡ 2 ^ 48))
PullsMore from held pulls source (Err _) held_after pulls_after source_after = ⊥

-- No piece is empty.
abbrev pub NoneEmpty : List (List ℕ) → Type 0
NoneEmpty pieces = AllByRecursion (λ (piece : List ℕ). 0 < length piece) pieces

-- A header part was read, which is followed by a body of this size.
pub record HeaderIsRead (heard : List ℕ) (size : ℕ) (held : List ℕ) : Type 0 where
  pub lines : List (List ℕ)
  pub header : HasHeader heard lines held
  pub says : body_length lines ≡ Ok size

-- the result of reading a header part: the size of the body, the clean end, or an error
abbrev pub SaysHeader : List ℕ → List (List ℕ) → Result (Option ℕ) FrameFault → List ℕ → Type 0
SaysHeader heard pieces (Ok (Some size)) held = HeaderIsRead heard size held × NoneEmpty pieces
SaysHeader heard pieces (Ok None) held = (heard ≡ []) × EndsEmpty pieces
SaysHeader heard pieces (Err Truncated) held = IsOpen heard × ((heard ≢ []) × EndsEmpty pieces)
SaysHeader heard pieces (Err Device) held = IsOpen heard
SaysHeader heard pieces (Err TooManyTurns) held = IsOpen heard
SaysHeader heard pieces (Err fault) held = HasFault heard fault × IsByteFault fault

-- the result of reading a body
abbrev pub SaysBody : {V : Type 0} → (V → List ℕ) → ℕ → List ℕ → List (List ℕ) → Result V FrameFault → List ℕ → Type 0
SaysBody items size heard pieces (Ok body) held = (heard ≡ items body ++ held) × (length (items body) ≡ size)
SaysBody items size heard pieces (Err Truncated) held = (length heard < size) × EndsEmpty pieces
SaysBody items size heard pieces (Err Device) held = length heard < size
SaysBody items size heard pieces (Err TooManyTurns) held = length heard < size
SaysBody items size heard pieces (Err Memory) held = Unit {0}
SaysBody items size heard pieces (Err _) held = ⊥

-- Bytes move from the front of the buffer to the end of the body, up to its size.
pub record Moved (body held : List ℕ) (size : ℕ) (body_after held_after : List ℕ) : Type 0 where
  pub same : body_after ++ held_after ≡ body ++ held
  pub within : length body_after ≤ size
  pub rest : length body_after < size → held_after ≡ []

-- the result when the source ends before a header part is complete
abbrev pub end_after : List ℕ → Result (Option ℕ) FrameFault
end_after [] = Ok None
end_after (_ ∷ _) = Err Truncated
