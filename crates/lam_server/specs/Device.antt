-- The effect of sending on a sink.
use Rattle.std.specs.Prelude.{◌≡◌, ℕ, ◌+◌, List, [], ◌∷◌, ◌++◌, IsSome}
use Rattle.std.specs.Io.KnownBytes.{Appends}
use Rattle.serde_json.specs.Data.{Data}
use Rattle.lam_frame.specs.Device.{AppendsFront, IsFlushed, SinkView}
use Rattle.lam_server.specs.Output.{frames_of}

-- After these bytes all is flushed; if there are none, the sink is unchanged.
abbrev pub IsFlushedAfter : {W : Type 0} → SinkView W → W → List ℕ → W → Type 0
IsFlushedAfter to old [] new = old ≡ new
IsFlushedAfter to old (_ ∷ _) new = IsFlushed (to.taken new) (to.flushed new)

-- The sink accepts exactly these bytes, all are flushed, and no call fails. If the number of flushed bytes was observable, it still is.
pub record Sends {W : Type 0} (to : SinkView W) (old : W) (out : List ℕ) (new : W) : Type 0 where
  pub appended : Appends (to.taken old) (to.taken new) out
  pub told : IsSome (to.flushed old) → IsSome (to.flushed new)
  pub flushed_all : IsFlushedAfter to old out new
  pub unfailed : to.failed new ≡ to.failed old

-- The sink accepts a prefix of these bytes, and then one of its calls fails.
pub record FailsToSend {W : Type 0} (to : SinkView W) (old : W) (out : List ℕ) (new : W) : Type 0 where
  pub front : AppendsFront (to.taken old) (to.taken new) out
  pub counted : to.failed new ≡ to.failed old + 1

-- The frames of the first of these values are sent, and nothing of the others.
pub record StopsSending {W : Type 0} (to : SinkView W) (old : W) (values : List Data) (new : W) : Type 0 where
  pub done : List Data
  pub others : List Data
  pub split : values ≡ done ++ others
  pub sends : Sends to old (frames_of done) new
