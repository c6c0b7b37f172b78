-- The command line as a clap command: the dialect, and two options that editors pass and that have no effect.
use Rattle.std.specs.Prelude.{◌≡◌, ℕ, List, [], ◌∷◌, map, codes, if◌then◌else◌, Option, None, Some}
use Rattle.std.specs.Str.{bytes_eq}
use Rattle.std.specs.Borrow.{Bor}
use Rattle.clap.specs.Simple.{App, app_of, new_app, new_rule, with_rule}
use Rattle.clap.specs.Walk.{Rule}
use Rattle.clap.specs.declared.builder.action.ArgAction.TheVariants.{SetTrue}
use Rattle.clap.specs.declared.builder.command.Command.{Command}
use Rattle.lam_rules.specs.declared.rules.Dialect.{Dialect}
use Rattle.lam_rules.specs.declared.rules.Dialect.TheVariants.{One, Two}
use Rattle.clap.specs.declared.builder.value_parser.ValueParser.TheVariants.{Names}

-- a flag without effect
abbrev pub stdio : Rule
stdio = record (new_rule (codes "stdio")) { long = Some (codes "stdio"); action = Some SetTrue }

-- an option with any text, without effect
abbrev pub client : Rule
client = record (new_rule (codes "clientProcessId")) { long = Some (codes "clientProcessId"); value_names = 1 }

-- an option with one of some values, by default 1
abbrev pub dialect : Bor (List (Bor (List ℕ))) → Rule
dialect names = record (new_rule (codes "dialect")) { long = Some (codes "dialect"); value_names = 1; defaults = codes "1" ∷ []; parser = Some (Names names) }

-- The values are the names of the dialects.
abbrev pub AreDialects : Bor (List (Bor (List ℕ))) → Type 0
AreDialects names = map (λ name. name.now) names.now ≡ codes "1" ∷ codes "2" ∷ []

-- The rule is the option with exactly these values.
pub record IsDialect (rule : Rule) : Type 0 where
  pub names : Bor (List (Bor (List ℕ)))
  pub dialects : AreDialects names
  pub is : rule ≡ dialect names

-- the program with its three options, where `rule` is the dialect
abbrev pub command_line : Rule → App
command_line rule = with_rule (with_rule (with_rule (new_app (codes "lam_server")) stdio) client) rule

-- The command is that program.
pub record IsCommandLine (command : Command) : Type 0 where
  pub rule : Rule
  pub dialect_rule : IsDialect rule
  pub is : app_of command ≡ command_line rule

-- the arguments, where none at all count as the program's name
abbrev pub named_words : List (List ℕ) → List (List ℕ)
named_words [] = codes "lam_server" ∷ []
named_words (word ∷ words) = word ∷ words

-- the dialect that a value of the option names: Two for `2`, otherwise One
abbrev pub dialect_named : Option (List ℕ) → Dialect
dialect_named None = One
dialect_named (Some word) = if bytes_eq word (codes "2") then Two else One
