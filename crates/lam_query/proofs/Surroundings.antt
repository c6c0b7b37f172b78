-- What a command states in an environment of its own, and that it sees there what it sees behind others.
use Rattle.std.proofs.Common.{◌≡◌, List, Result, Err, ap, sym, subst, ◌∙◌}
use Rattle.lam_rules.specs.Types.{Typ}
use Rattle.lam_rules.specs.Typing.{Context, IsWellFormedContext}
use Rattle.lam_rules.specs.Numbers.{Keeps}
use Rattle.lam_syntax.specs.Trees.{CommandTree}
use Rattle.lam_scope.specs.declared.scope_fault.ScopeFault.{ScopeFault}
use Rattle.lam_scope.specs.Environments.{names_seen, abbreviations_seen, TypeNamesStand}
use Rattle.lam_scope.specs.Expansions.{Abbreviation}
use Rattle.lam_scope.specs.FreeNames.{each_once, free_in_command, free_type_names_in_command}
use Rattle.lam_scope.specs.InternedViews.{interned_statement, StandInStatement}
use Rattle.lam_scope.specs.Meanings.{StandForTheSame}
use Rattle.lam_scope.specs.Nameless.{statement, written_in_command, faults_in, first_over_limit}
use Rattle.lam_scope.specs.Views.{IsLimit}
use Rattle.lam_typing.specs.Answers.{AllStandIn, context_under}
use Rattle.lam_typing.proofs.Growing.{context_keep, all_stand_keep}
use Rattle.lam_query.specs.declared.bound.Bound.{Bound}
use Rattle.lam_query.specs.declared.bound.Surroundings.{Surroundings}
use Rattle.lam_query.specs.declared.typed_commands.Stated.{Stated}
use Rattle.lam_query.specs.inner.Analysts.{IsBoundAs}
use Rattle.lam_query.specs.inner.Bound.{found_over, IsSurroundedBy}
use Rattle.lam_query.specs.inner.Checked.{IsEnvironmentFor}
use Rattle.lam_query.specs.inner.Entered.{Lookup}
use Rattle.lam_query.specs.inner.Rows.{AgreeOn, SeesAs, types_of}
use Rattle.lam_query.specs.inner.TypedCommands.{types_around, names_around, entries_around, IsStatedBy}
use Rattle.lam_query.proofs.EachOnce.{once_there, there_once}
use Rattle.lam_query.proofs.Meanings.{entered_stand, environment_entered}

-- ---- what it states; the table of types is reached through another reference

module _ (ts t : List Typ) (same_table : t ≡ ts) (b : Bound) (c : CommandTree) (s : Surroundings) (around : IsSurroundedBy ts b c s) where
  seen_types : abbreviations_seen t s.environment ≡ types_around ts b c
  seen_types = ap (λ us. abbreviations_seen us s.environment) same_table ∙ around.type_names

  pub seen_names_stand : TypeNamesStand t s.environment
  seen_names_stand = subst (λ us. TypeNamesStand us s.environment) (sym same_table) around.type_names_stand

  -- the first written type that is too large
  pub seen_limit : first_over_limit (types_around ts b c) (written_in_command c) ≡ first_over_limit (abbreviations_seen t s.environment) (written_in_command c)
  seen_limit = ap (λ bs. first_over_limit bs (written_in_command c)) (sym seen_types)

  -- it is refused
  pub seen_limit_err : {T : Type 0} (x : ScopeFault) (answer : Result T ScopeFault) → answer ≡ Err x
      → IsLimit {T = T} (first_over_limit (abbreviations_seen t s.environment) (written_in_command c)) (Err x)
      → IsLimit (first_over_limit (types_around ts b c) (written_in_command c)) answer
  seen_limit_err {T} x answer is limit =
      subst (IsLimit (first_over_limit (types_around ts b c) (written_in_command c))) (sym is)
      (subst (λ o. IsLimit {T = T} o (Err x)) (sym seen_limit) limit)

  pub is_stated : (us : List Typ) (stated : Stated) → Keeps t us → stated.entries.items ≡ s.entries.items
      → interned_statement us stated.statement ≡ statement (abbreviations_seen t s.environment) (names_seen s.environment) c
      → StandInStatement us stated.statement → stated.faults.items ≡ faults_in (abbreviations_seen t s.environment) (written_in_command c)
      → IsStatedBy ts b c us stated
  is_stated us stated keeps entries states stand faults =
      let kept = subst (λ old. Keeps old us) same_table keeps in
      record {
        states = states ∙ ap (λ bs. statement bs (names_seen s.environment) c) seen_types ∙ ap (λ xs. statement (types_around ts b c) xs c) around.names;
        entries = ap (context_under us) entries ∙ context_keep ts us s.entries.items kept around.entries_stand ∙ around.entries;
        faults = faults ∙ ap (λ bs. faults_in bs (written_in_command c)) seen_types;
        statement_stands = stand;
        entries_stand = subst (AllStandIn us) (sym entries) (all_stand_keep ts us s.entries.items kept around.entries_stand);
      }

-- ---- where names and type names mean this

module _ (names others : Lookup) (ts : List Typ) (b : Bound) (c : CommandTree) (bound : IsBoundAs names others ts b) where
  -- its type names stand for what they stand for among other abbreviations
  pub types_same : (bs : List Abbreviation) → AgreeOn (free_type_names_in_command c) others (types_of bs)
      → StandForTheSame (free_type_names_in_command c) bs (types_around ts b c)
  types_same bs agree =
      let free = free_type_names_in_command c in
      entered_stand free (each_once free) (found_over ts b.type_names) bs (once_there free) (λ x there. bound.types x ∙ agree x (there_once free x there))

  -- its names have the entries that they have behind these commands
  pub environment_around : (done : List CommandTree) (g : Context) → IsWellFormedContext g → SeesAs c names others done g
      → IsEnvironmentFor c done g (types_around ts b c) (names_around ts b c) (entries_around ts b c)
  environment_around done g wf sees =
      let free = free_in_command c in
      let types = free_type_names_in_command c in
      environment_entered c done g (found_over ts b.names) (found_over ts b.type_names) (each_once free) (each_once types) wf
      (once_there free) (λ x there. bound.names x ∙ sees.names x (there_once free x there))
      (once_there types) (λ x there. bound.types x ∙ sees.types x (there_once types x there))
