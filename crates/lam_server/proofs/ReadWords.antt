-- The command line is one whose faults clap defines.
use Rattle.std.proofs.Common.{◌≡◌, ◌⊎◌, ◌↔◌, inl, inr, ℕ, List, codes, Err, Bool, true, false, cond, true≢false, Option, None, Some, refl, sym, ap, ◌∙◌, subst}
use Rattle.std.specs.Str.{bytes_eq}
use Rattle.std.proofs.lemmas.Bool.{and_parts}
use Rattle.std.proofs.lemmas.Slice.Eq.{bytes_eq-Decides}
use Rattle.clap.specs.Faults.{fault_of, is_simple_and_free, is_free_app}
use Rattle.clap.specs.Kinds.{Kinds, IsAmong}
use Rattle.clap.specs.Simple.{App, HasMatchesOf, app_of, built, is_simple, matches_of}
use Rattle.clap.specs.Matches.{first_value, found_of}
use Rattle.clap.specs.Walk.{first_of}
use Rattle.clap.specs.declared.parser.matches.ArgMatches.{ArgMatches}
use Rattle.clap.proofs.WalkLemmas.{first_value-rows}
use Rattle.lam_rules.specs.declared.rules.Dialect.TheVariants.{One, Two}
use Rattle.lam_session.specs.State.{dialect_of}
use Rattle.lam_session.specs.declared.states.Config.{Config}
use Rattle.clap.specs.declared.builder.command.Command.{Command}
use Rattle.clap.specs.declared.error.kind.ErrorKind.{ErrorKind}
use Rattle.clap.specs.declared.error.kind.ErrorKind.TheVariants.{DisplayHelp, OutOfMemory}
use Rattle.clap.proofs.OnLiterals.{clap_on_literals}
use Rattle.std.specs.Borrow.{Bor}
use Rattle.lam_server.specs.CommandLine.{IsCommandLine, command_line, dialect, dialect_named, named_words}
use Rattle.lam_server.specs.Words.{ChoosesDialect, FindsFaults, HasMistake, ReadsWords, TellsKind}
use Rattle.lam_server.specs.declared.args.ArgsFault.{ArgsFault}
use Rattle.lam_server.specs.declared.args.ArgsFault.TheVariants.{Help, Usage, Memory}

is_simple_line : (names : Bor (List (Bor (List ℕ)))) → is_simple_and_free (command_line (dialect names)) ≡ true
unfolding clap_on_literals
is_simple_line names = refl

pub finds_faults : (P : Kinds → Type 0) (command : Command) (given words : List (List ℕ)) → IsCommandLine command → given ≡ named_words words
    → (is_simple_and_free (app_of command) ≡ true → P (fault_of (app_of command) given)) → FindsFaults words P
finds_faults P command given words c same says =
    let app : app_of command ≡ command_line (dialect c.dialect_rule.names) = c.is ∙ ap command_line c.dialect_rule.is in
    let simple : is_simple_and_free (app_of command) ≡ true = ap is_simple_and_free app ∙ is_simple_line c.dialect_rule.names in
    record {
      rule = c.rule;
      dialect_rule = c.dialect_rule;
      says = subst (λ (a : App). P (fault_of a (named_words words))) c.is (subst (λ (l : List (List ℕ)). P (fault_of (app_of command) l)) same (says simple));
    }

is_help : (kind : ErrorKind) (kinds : Kinds) → kind ≡ DisplayHelp → (kind ≡ OutOfMemory) ⊎ IsAmong kind kinds → IsAmong DisplayHelp kinds
is_help kind kinds e (inl m) = let clash : DisplayHelp ≡ OutOfMemory = sym e ∙ m in cc
is_help kind kinds e (inr a) = subst (λ (k : ErrorKind). IsAmong k kinds) e a

is_mistake : (kind : ErrorKind) (kinds : Kinds) → ¬ (kind ≡ DisplayHelp) → ¬ (kind ≡ OutOfMemory) → (kind ≡ OutOfMemory) ⊎ IsAmong kind kinds → HasMistake kinds
is_mistake kind kinds h m (inl o) = absurd (m o)
is_mistake kind kinds h m (inr a) = (kind, a, h)

pub tells_fault : (words : List (List ℕ)) (kind : ErrorKind) (fault : ArgsFault) → TellsKind kind fault → FindsFaults words (λ kinds. (kind ≡ OutOfMemory) ⊎ IsAmong kind kinds) → ReadsWords words (Err fault)
tells_fault words kind (Help text) t f = record { rule = f.rule; dialect_rule = f.dialect_rule; says = is_help kind (fault_of (command_line f.rule) (named_words words)) t f.says }
tells_fault words kind (Usage text) t f = record { rule = f.rule; dialect_rule = f.dialect_rule; says = is_mistake kind (fault_of (command_line f.rule) (named_words words)) t.0 t.1 f.says }
tells_fault words kind Memory t f = tt

-- ---- the dialect

second : (o : Option (List ℕ)) → (dialect_named o ≡ Two) ↔ (o ≡ Some (codes "2"))
second None = ((λ e. let clash : One ≡ Two = e in cc), (λ e. cc))
second (Some word) = by (bytes_eq word (codes "2")) refl
  where
    by : (b : Bool) → bytes_eq word (codes "2") ≡ b → (cond b Two One ≡ Two) ↔ (Some word ≡ Some (codes "2"))
    by true is = ((λ e. ap Some ((bytes_eq-Decides word (codes "2")).0 is)), (λ e. refl))
    by false is = ((λ e. let clash : One ≡ Two = e in cc), (λ e. let same : word ≡ codes "2" = cc in absurd (true≢false (sym ((bytes_eq-Decides word (codes "2")).1 same) ∙ is))))

pub chooses : (command : Command) (given words : List (List ℕ)) (m : ArgMatches) (config : Config) → IsCommandLine command → given ≡ named_words words → HasMatchesOf (app_of command) given m
    → dialect_of config ≡ dialect_named (first_value (found_of m) (codes "dialect")) → ChoosesDialect words config
chooses command given words m config c same has named =
    let app : app_of command ≡ command_line (dialect c.dialect_rule.names) = c.is ∙ ap command_line c.dialect_rule.is in
    let simple : is_simple_and_free (app_of command) ≡ true = ap is_simple_and_free app ∙ is_simple_line c.dialect_rule.names in
    let rows = (has (and_parts (is_simple (app_of command)) (is_free_app (built (app_of command))) simple).0).0 in
    let value : first_value (found_of m) (codes "dialect") ≡ first_of (codes "dialect") (matches_of (command_line c.rule) (named_words words)) =
    first_value-rows (found_of m) (codes "dialect") ∙ ap (first_of (codes "dialect")) (rows ∙ ap (λ (a : App). matches_of a given) c.is ∙ ap (matches_of (command_line c.rule)) same) in
    let is = named ∙ ap dialect_named value in
    let two = second (first_of (codes "dialect") (matches_of (command_line c.rule) (named_words words))) in
    record { rule = c.rule; dialect_rule = c.dialect_rule; chosen = ((λ e. two.0 (sym is ∙ e)), (λ e. is ∙ two.1 e)) }
