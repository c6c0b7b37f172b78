-- The exit status of the program, by the result of its run and by its arguments.
use Rattle.std.specs.Prelude.{◌≡◌, ℕ, List, Result, Ok, Err}
use Rattle.lam_session.specs.State.{State, dialect_of, fresh}
use Rattle.lam_session.specs.declared.states.Config.{Config}
use Rattle.lam_server.specs.Program.{status_of}
use Rattle.lam_server.specs.Run.{AnswersWhereTold, Runs}
use Rattle.lam_server.specs.Words.{ReadsWords}
use Rattle.lam_server.specs.declared.args.ArgsFault.{ArgsFault}
use Rattle.lam_server.specs.declared.args.ArgsFault.TheVariants.{Help, Usage, Memory}
use Rattle.lam_frame.specs.Device.{SourceView, SinkView}
use Rattle.lam_server.specs.declared.faults.RunFault.{RunFault}

-- ---- a run

-- the status that a run returned, or that of its error
abbrev pub status_after : Result ℕ RunFault → ℕ
status_after (Ok status) = status
status_after (Err fault) = status_of fault

-- The status is that of a run from this state with this source and this sink.
pub record EndsAsRun {S W : Type 0} (from : SourceView S) (to : SinkView W)
    (start : State) (source : S) (sink : W) (status : ℕ) (source_after : S) (sink_after : W) : Type 0 where
  pub answer : Result ℕ RunFault
  pub told : AnswersWhereTold start (from.coming source) (from.coming source_after) answer (to.taken sink) (to.taken sink_after)
  pub runs : Runs from to start source sink answer source_after sink_after
  pub ends : status ≡ status_after answer

-- The status is that of a run from this state with some source and some sink, neither of which had failed before.
pub record EndsAsSomeRun {S W : Type 0} (from : SourceView S) (to : SinkView W) (start : State) (status : ℕ) : Type 0 where
  pub source : S
  pub sink : W
  pub source_after : S
  pub sink_after : W
  pub source_new : from.failed source ≡ 0
  pub sink_new : to.failed sink ≡ 0
  pub run : EndsAsRun from to start source sink status source_after sink_after

-- ---- by the arguments

-- by the parsed arguments: a run in their dialect ends with this status; 0 after the help, 2 after a usage error, 5 after a failed allocation
abbrev pub EndsAsRead : (State → ℕ → Type 0) → Result Config ArgsFault → ℕ → Type 0
EndsAsRead Run (Ok config) status = Run (fresh (dialect_of config)) status
EndsAsRead Run (Err (Help text)) status = status ≡ 0
EndsAsRead Run (Err (Usage text)) status = status ≡ 2
EndsAsRead Run (Err Memory) status = status ≡ 5

-- The status is that of the arguments as they are parsed.
pub record EndsByWords (Run : State → ℕ → Type 0) (words : List (List ℕ)) (status : ℕ) : Type 0 where
  pub read : Result Config ArgsFault
  pub reads : ReadsWords words read
  pub ends : EndsAsRead Run read status
