-- Parsing of the command-line arguments.
use Rattle.std.specs.Prelude.{◌≡◌, ◌≢◌, ◌↔◌, ℕ, List, [], codes, Some, Result, Ok, Err}
use Rattle.clap.specs.Faults.{fault_of}
use Rattle.clap.specs.Kinds.{Kinds, IsAmong}
use Rattle.clap.specs.Simple.{matches_of}
use Rattle.clap.specs.Walk.{Rule, first_of}
use Rattle.clap.specs.declared.error.kind.ErrorKind.{ErrorKind}
use Rattle.clap.specs.declared.error.kind.ErrorKind.TheVariants.{DisplayHelp, OutOfMemory}
use Rattle.lam_rules.specs.declared.rules.Dialect.TheVariants.{Two}
use Rattle.lam_session.specs.State.{dialect_of}
use Rattle.lam_session.specs.declared.states.Config.{Config}
use Rattle.lam_server.specs.CommandLine.{IsDialect, command_line, named_words}
use Rattle.lam_server.specs.declared.args.ArgsFault.{ArgsFault}
use Rattle.lam_server.specs.declared.args.ArgsFault.TheVariants.{Help, Usage, Memory}

-- The error is of the kind that clap returns. If allocation failed, its text may be cut short, so it is not used.
abbrev pub TellsKind : ErrorKind → ArgsFault → Type 0
TellsKind kind (Help text) = kind ≡ DisplayHelp
TellsKind kind (Usage text) = (kind ≢ DisplayHelp) × (kind ≢ OutOfMemory)
TellsKind kind Memory = Unit {0}

-- For this command, clap finds errors of these kinds in the arguments.
pub record FindsFaults (words : List (List ℕ)) (P : Kinds → Type 0) : Type 0 where
  pub rule : Rule
  pub dialect_rule : IsDialect rule
  pub says : P (fault_of (command_line rule) (named_words words))

-- Some error is not a request for help.
abbrev pub HasMistake : Kinds → Type 0
HasMistake kinds = (kind : ErrorKind) × IsAmong kind kinds × (kind ≢ DisplayHelp)

-- The dialect is Two exactly if `--dialect` has the value 2 in clap's own matches of the arguments.
pub record ChoosesDialect (words : List (List ℕ)) (config : Config) : Type 0 where
  pub rule : Rule
  pub dialect_rule : IsDialect rule
  pub chosen : (dialect_of config ≡ Two) ↔ (first_of (codes "dialect") (matches_of (command_line rule) (named_words words)) ≡ Some (codes "2"))

-- a configuration if the arguments have no error, otherwise help or a usage error
abbrev pub ReadsWords : List (List ℕ) → Result Config ArgsFault → Type 0
ReadsWords words (Ok config) = FindsFaults words (λ kinds. kinds ≡ []) × ChoosesDialect words config
ReadsWords words (Err (Help text)) = FindsFaults words (IsAmong DisplayHelp)
ReadsWords words (Err (Usage text)) = FindsFaults words HasMistake
ReadsWords words (Err Memory) = Unit {0}
