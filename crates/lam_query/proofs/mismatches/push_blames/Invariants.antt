use Rattle.std.proofs.Common.{List, map}
use Rattle.lam_rules.specs.declared.rules.Dialect.{Dialect}
use Rattle.lam_syntax.specs.Trees.{CommandTree}
use Rattle.lam_scope.specs.Views.{AreScopesOf}
use Rattle.lam_query.specs.Views.{explained_of}
use Rattle.lam_query.specs.inner.Typings.{AreTypesOf}
use Rattle.lam_query.proofs.ExplainedLists.{AreToldSoFar}
use Rattle.lam_query.proofs.mismatches.push_blames.Given as goal

abbrev pub invariant-loop-i : goal.invariant-loop-i
invariant-loop-i l =
    (commands : List CommandTree) (d : Dialect) → AreScopesOf l.scopes commands → AreTypesOf commands l.types d
    → AreToldSoFar l.scopes l.types l.blames l.i (map explained_of l.fn.all.items) (map explained_of l.all.items) commands d
