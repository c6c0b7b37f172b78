-- The types of a few commands. For private functions only.
use Rattle.std.specs.Prelude.{◌≡◌, List, [], map, None}
use Rattle.lam_rules.specs.declared.rules.Dialect.{Dialect}
use Rattle.lam_syntax.specs.Trees.{CommandTree}
use Rattle.lam_scope.specs.declared.resolved.Resolved.{Resolved}
use Rattle.lam_scope.specs.Nameless.{first_too_large, faults}
use Rattle.lam_scope.specs.Tables.{table}
use Rattle.lam_scope.specs.Views.{statements_of, origins_of, faults_of}
use Rattle.lam_typing.specs.declared.typing.Typing.{Typing}
use Rattle.lam_typing.specs.Typings.{IsAnalysis, IsTypingOf, AreEntries, dialect_of}
use Rattle.lam_query.specs.declared.typings.Types.{Types}
use Rattle.lam_query.specs.Sizes.{places_in}
use Rattle.lam_query.specs.WellTypedDocuments.{statements_in}

-- the nameless form and the types are those of these commands
pub record AreFoundOf (commands : List CommandTree) (resolved : Resolved) (typing : Typing) (d : Dialect) : Type 0 where
  pub statements : statements_of resolved ≡ statements_in commands
  pub faults : faults_of resolved ≡ faults [] commands
  pub none_too_large : first_too_large [] commands ≡ None
  pub typed : IsAnalysis (places_in commands) typing d
  pub origins : origins_of resolved ≡ map (λ b. b.origin) (table commands).binders
  pub types_of_it : IsTypingOf (statements_of resolved) typing
  pub entries : AreEntries (statements_of resolved) (origins_of resolved) typing
  pub dialect : dialect_of typing ≡ d

-- the same for both together
abbrev pub AreTypesOf : List CommandTree → Types → Dialect → Type 0
AreTypesOf commands types d = AreFoundOf commands types.resolved types.typing d
