-- Documents without type diagnostics.
use Rattle.std.specs.Prelude.{List, []}
use Rattle.lam_rules.specs.declared.rules.Dialect.{Dialect}
use Rattle.lam_syntax.specs.Trees.{CommandTree}
use Rattle.lam_scope.specs.Places.{Statement}
use Rattle.lam_scope.specs.Nameless.{statements}
use Rattle.lam_scope.specs.Expanded.{IsExpanded}
use Rattle.lam_typing.specs.WellTyped.{AreTyped}
use Rattle.lam_query.specs.Sizes.{IsSmall}

-- the nameless form of the commands
abbrev pub statements_in : List CommandTree → List Statement
statements_in commands = statements [] [] commands

-- each written type stands for a type, each definition and evaluation has a type, and none is over the size limit
pub record IsWellTyped (commands : List CommandTree) (d : Dialect) : Type 0 where
  pub expanded : IsExpanded (statements_in commands)
  pub typed : AreTyped [] (statements_in commands) d
  pub small : IsSmall commands d
