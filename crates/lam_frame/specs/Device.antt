-- The effect of a pull, a push and a flush on a device: on its bytes, if they are observable, and on the number of its failed calls.
use Rattle.std.specs.Prelude.{◌≡◌, ℕ, ◌+◌, ◌<◌, ◌≤◌, ◌&&◌, if◌then◌else◌, ◌==◌, nat_lt, List, [], ◌++◌, length, take, Option, Some, IsSome, Result, Ok, Err}
use Rattle.std.specs.Io.KnownBytes.{Keeps, Appends, Consumes, IsAtEnd}
use Rattle.lam_frame.specs.declared.device.DeviceFault.{DeviceFault}

-- ---- the observable parts of a device

-- A source: the bytes to come if they are observable, the number of calls that have failed so far, and which source is left when one returns a piece.
pub record SourceView (S : Type 0) : Type 1 where
  pub coming : S → Option (List ℕ)
  pub failed : S → ℕ
  pub gave : S → List ℕ → S → Type 0

abbrev pub source_of : {S : Type 0} → (S → Option (List ℕ)) → (S → ℕ) → (S → List ℕ → S → Type 0) → SourceView S
source_of coming failed gave = record { coming = coming; failed = failed; gave = gave }

-- A sink: the bytes accepted and how many of them are flushed, each if observable, and the number of calls that have failed so far.
pub record SinkView (W : Type 0) : Type 0 where
  pub taken : W → Option (List ℕ)
  pub flushed : W → Option ℕ
  pub failed : W → ℕ

abbrev pub sink_of : {W : Type 0} → (W → Option (List ℕ)) → (W → Option ℕ) → (W → ℕ) → SinkView W
sink_of taken flushed failed = record { taken = taken; flushed = flushed; failed = failed }

-- ---- sources

-- A source returns this piece: it is one of its steps, not a failure, and the piece is the front of the bytes to come.
pub record Gave {S : Type 0} (from : SourceView S) (old : S) (piece : List ℕ) (new : S) : Type 0 where
  pub step : from.gave old piece new
  pub unfailed : from.failed new ≡ from.failed old
  pub bytes : Consumes (from.coming old) (from.coming new) piece
  pub ended : piece ≡ [] → IsAtEnd (from.coming new)

-- A pull fails: it is counted, and the bytes to come stay the same.
pub record FailedPull {S : Type 0} (from : SourceView S) (old new : S) : Type 0 where
  pub counted : from.failed new ≡ from.failed old + 1
  pub kept : Keeps (from.coming old) (from.coming new)

-- the outcome of a pull into a buffer with room: a piece at the front of the buffer, or a failure
abbrev pub Pulls : {S : Type 0} → SourceView S → S → Result ℕ DeviceFault → List ℕ → S → Type 0
Pulls from old (Ok n) into new = (n ≤ length into) × (0 < length into → Gave from old (take n into) new)
Pulls from old (Err _) into new = FailedPull from old new

-- ---- sinks

-- the number of failures after a push, which counts as failed if it accepts none of a nonempty slice
abbrev pub failures_after_push : ℕ → List ℕ → ℕ → ℕ
failures_after_push failures bytes n = if n == 0 && nat_lt 0 (length bytes) then failures + 1 else failures

-- A sink accepts the first n of these bytes, and the flushed ones stay the same.
pub record Took {S : Type 0} (to : SinkView S) (bytes : List ℕ) (n : ℕ) (old new : S) : Type 0 where
  pub within : n ≤ length bytes
  pub counted : to.failed new ≡ failures_after_push (to.failed old) bytes n
  pub appended : Appends (to.taken old) (to.taken new) (take n bytes)
  pub unflushed : to.flushed new ≡ to.flushed old

-- A push or a flush fails: it is counted, and the accepted and the flushed bytes stay the same.
pub record FailedPush {S : Type 0} (to : SinkView S) (old new : S) : Type 0 where
  pub counted : to.failed new ≡ to.failed old + 1
  pub kept : Keeps (to.taken old) (to.taken new)
  pub unflushed : to.flushed new ≡ to.flushed old

-- the outcome of a push: it accepts some of the bytes, or fails
abbrev pub Pushes : {S : Type 0} → SinkView S → S → Result ℕ DeviceFault → List ℕ → S → Type 0
Pushes to old (Ok n) bytes new = Took to bytes n old new
Pushes to old (Err _) bytes new = FailedPush to old new

-- All bytes accepted so far are flushed, if both they and the number of flushed ones are observable.
abbrev pub IsFlushed : Option (List ℕ) → Option ℕ → Type 0
IsFlushed (Some bytes) (Some count) = count ≡ length bytes
IsFlushed _ _ = Unit {0}

-- A sink accepts nothing, and flushes all its bytes. If the number of flushed bytes was observable, it still is.
pub record Flushed {S : Type 0} (to : SinkView S) (old new : S) : Type 0 where
  pub unfailed : to.failed new ≡ to.failed old
  pub kept : Keeps (to.taken old) (to.taken new)
  pub told : IsSome (to.flushed old) → IsSome (to.flushed new)
  pub all : IsFlushed (to.taken new) (to.flushed new)

-- the outcome of a flush: all bytes are flushed, or it fails
abbrev pub Flushes : {S : Type 0} → SinkView S → S → Result (Unit {0}) DeviceFault → S → Type 0
Flushes to old (Ok _) new = Flushed to old new
Flushes to old (Err _) new = FailedPush to old new

-- A prefix of these bytes, or all of them, was accepted.
pub record AppendsFront (old new : Option (List ℕ)) (bytes : List ℕ) : Type 0 where
  pub front : List ℕ
  pub rest : List ℕ
  pub split : bytes ≡ front ++ rest
  pub appended : Appends old new front
