-- The model of `Session`.
use Rattle.std.specs.Prelude.{◌≡◌, true, false, None}
use Rattle.lam_rules.specs.declared.rules.Dialect.TheVariants.{One}
use Rattle.lam_session.specs.declared.session.Condition.{Condition}
use Rattle.lam_session.specs.declared.session.Condition.TheVariants.{Going, GaveUp}
use Rattle.lam_session.specs.declared.states.Lifecycle.{Lifecycle}
use Rattle.lam_session.specs.State.{State, fresh, Snapshot, ended_status}

-- The state of a session that gave up: only the lifecycle state is kept, and all else is that of a new session of the first dialect.
abbrev pub left : Lifecycle → State
left life = record (fresh One) { life = life }

-- the observable value of a session
abbrev pub snapshot_of : Condition → Snapshot
snapshot_of (Going state) = record { state = state; gave_up = false }
snapshot_of (GaveUp life) = record { state = left life; gave_up = true }

-- A session gives up only before it has ended.
abbrev pub IsWhole : Condition → Type 0
IsWhole (Going state) = Unit {0}
IsWhole (GaveUp life) = ended_status life ≡ None
