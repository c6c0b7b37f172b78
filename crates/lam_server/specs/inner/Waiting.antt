-- A server between two messages.
use Rattle.std.specs.Prelude.{ℕ, ◌<◌, List}
use Rattle.lam_frame.specs.Next.{work_left}
use Rattle.lam_session.specs.State.{State}

-- the bytes held for later, the number of pulls so far, and the state of the session
pub record Waiting : Type 0 where
  pub held : List ℕ
  pub pulls : ℕ
  pub state : State

-- The first has less work left than the second: remaining pulls, and bytes held.
abbrev pub HasLessWork : Waiting → Waiting → Type 0
HasLessWork new old = work_left new.pulls new.held < work_left old.pulls old.held
