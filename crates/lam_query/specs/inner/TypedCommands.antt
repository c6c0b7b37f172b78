-- One command in nameless form, in an environment of its own. For private functions only.
use Rattle.std.specs.Prelude.{◌≡◌, List, [], Option}
use Rattle.lam_rules.specs.Types.{Typ}
use Rattle.lam_rules.specs.Typing.{Context}
use Rattle.lam_rules.specs.declared.numbers.TyNo.{TyNo}
use Rattle.lam_syntax.specs.Trees.{CommandTree}
use Rattle.lam_scope.specs.Expansions.{Abbreviation}
use Rattle.lam_scope.specs.FreeNames.{each_once, free_in_command, free_type_names_in_command}
use Rattle.lam_scope.specs.InternedViews.{interned_statement, StandInStatement}
use Rattle.lam_scope.specs.declared.interned.InternedStatement.{InternedStatement}
use Rattle.lam_scope.specs.declared.interned.InternedStatement.TheVariants as interned
use Rattle.lam_scope.specs.Nameless.{statement, written_in_command, faults_in}
use Rattle.lam_scope.specs.Names.{Name}
use Rattle.lam_typing.specs.Answers.{AllStandIn, context_under}
use Rattle.lam_query.specs.declared.bound.Bound.{Bound}
use Rattle.lam_query.specs.declared.typed_commands.Stated.{Stated}
use Rattle.lam_query.specs.inner.Bound.{found_over}
use Rattle.lam_query.specs.inner.Entered.{entered, names_onto, entries_onto, abbreviations_onto}

-- the free type names of a command that are bound, each entered once with what it is bound to
abbrev pub types_around : List Typ → Bound → CommandTree → List Abbreviation
types_around ts b c = abbreviations_onto [] (entered (found_over ts b.type_names) (each_once (free_type_names_in_command c)))

-- its free names that are bound
abbrev pub names_around : List Typ → Bound → CommandTree → List (Option Name)
names_around ts b c = names_onto [] (entered (found_over ts b.names) (each_once (free_in_command c)))

-- the entries of its free names
abbrev pub entries_around : List Typ → Bound → CommandTree → Context
entries_around ts b c = entries_onto [] (entered (found_over ts b.names) (each_once (free_in_command c)))

-- The statement of the command in that environment, with the entries of its names and the diagnostics of its written types. The type ids in it stand for types of another
-- table.
pub record IsStatedBy (ts : List Typ) (b : Bound) (c : CommandTree) (us : List Typ) (s : Stated) : Type 0 where
  pub states : interned_statement us s.statement ≡ statement (types_around ts b c) (names_around ts b c) c
  pub entries : context_under us s.entries.items ≡ entries_around ts b c
  pub faults : s.faults.items ≡ faults_in (types_around ts b c) (written_in_command c)
  pub statement_stands : StandInStatement us s.statement
  pub entries_stand : AllStandIn us s.entries.items

-- the type id that a statement binds: that of an abbreviation's type, otherwise this entry
abbrev pub bound_number : InternedStatement → Option TyNo → Option TyNo
bound_number (interned.Abbreviation number) entry = number
bound_number s entry = entry
