-- The model of an in-memory sink.
use Rattle.std.specs.Prelude.{ℕ, List}

-- the bytes accepted, how many of them are flushed, and how many calls have failed
pub record Output : Type 0 where
  pub bytes : List ℕ
  pub flushed : ℕ
  pub failures : ℕ
