-- The state of a session between two messages.
use Rattle.std.specs.Prelude.{ℕ, List, [], Bool, Option, Some, None}
use Rattle.lam_rules.specs.declared.rules.Dialect.{Dialect}
use Rattle.lam_session.specs.declared.states.Config.{Config}
use Rattle.lam_session.specs.declared.states.Lifecycle.{Lifecycle}
use Rattle.lam_session.specs.declared.states.Lifecycle.TheVariants.{Fresh, Running, Down, Over}
use Rattle.lam_text.specs.declared.units.Encoding.{Encoding}
use Rattle.lam_text.specs.declared.units.Encoding.TheVariants.{Utf16}
use Rattle.lam_session.specs.Documents.{OpenDocument, OpenDocuments}

-- the dialect in a configuration
abbrev pub dialect_of : Config → Dialect
dialect_of config = config.dialect

-- The lifecycle state, the encoding of columns, the dialect, and the open documents in the order of opening.
pub record State : Type 0 where
  pub life : Lifecycle
  pub encoding : Encoding
  pub dialect : Dialect
  pub documents : List OpenDocument

-- the documents that are open in a state
abbrev pub open_in : State → OpenDocuments
open_in s = record { encoding = s.encoding; dialect = s.dialect; documents = s.documents }

-- the state before the first message
abbrev pub fresh : Dialect → State
fresh dialect = record { life = Fresh; encoding = Utf16; dialect = dialect; documents = [] }

-- the exit status of a session that has ended
abbrev pub ended_status : Lifecycle → Option ℕ
ended_status Fresh = None
ended_status Running = None
ended_status Down = None
ended_status (Over status) = Some status

-- A state, and whether an allocation failed in a step, after which the session answers nothing more.
pub record Snapshot : Type 0 where
  pub state : State
  pub gave_up : Bool
