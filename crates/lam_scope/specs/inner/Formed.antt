-- What resolving a term and a command adds to what was found before.
use Rattle.std.specs.Prelude.{◌≡◌, List, ◌++◌, Result, IfOk, OnOk}
use Rattle.lam_rules.specs.declared.terms.Core.{Core}
use Rattle.lam_rules.specs.TermViews.{term_of}
use Rattle.lam_syntax.specs.Trees.{TermNode, CommandTree}
use Rattle.lam_scope.specs.declared.scope_fault.ScopeFault.{ScopeFault}
use Rattle.lam_scope.specs.declared.nameless.Forming.{Forming}
use Rattle.lam_scope.specs.declared.resolver.Resolver.{Resolver}
use Rattle.lam_scope.specs.Indexed.{indexed_node, past_node, past_command}
use Rattle.lam_scope.specs.Expansions.{Abbreviation}
use Rattle.lam_scope.specs.Nameless.{abbreviations_after, written_in_node, written_in_command, faults_in, first_over_limit}
use Rattle.lam_scope.specs.Views.{abbreviations_of, IsLimit}

-- The answer is the nameless form of a term under these abbreviations: it consumed the term's uses, the first of those left, and appended the diagnostics of its written
-- types. It is an error if one of the written types is over the size limit, naming the first, or if allocation fails.
pub record IsFormed (bs : List Abbreviation) (n : TermNode) (old new : Forming) (answer : Result Core ScopeFault) : Type 0 where
  pub form : IfOk answer (λ e. term_of e ≡ indexed_node bs n old.uses)
  pub uses : OnOk answer (new.uses ≡ past_node n old.uses)
  pub faults : OnOk answer (new.faults.items ≡ old.faults.items ++ faults_in bs (written_in_node n))
  pub limit : IsLimit (first_over_limit bs (written_in_node n)) answer

-- A command was resolved: the type name that it binds is in scope, its uses are consumed, and the diagnostics of its written types are appended. It is an error if one of
-- the written types is over the size limit, naming the first, or if allocation fails.
pub record IsPassed {T : Type 0} (c : CommandTree) (old new : Resolver) (answer : Result T ScopeFault) : Type 0 where
  pub abbreviations : OnOk answer (abbreviations_of new.abbreviations ≡ abbreviations_after (abbreviations_of old.abbreviations) c)
  pub uses : OnOk answer (new.forming.uses ≡ past_command c old.forming.uses)
  pub faults : OnOk answer (new.forming.faults.items ≡ old.forming.faults.items ++ faults_in (abbreviations_of old.abbreviations) (written_in_command c))
  pub limit : IsLimit (first_over_limit (abbreviations_of old.abbreviations) (written_in_command c)) answer
