use Rattle.std.proofs.Common.{◌≡◌, List, [], ◌++◌, map, drop}
use Rattle.lam_syntax.specs.Trees.{CommandTree}
use Rattle.lam_syntax.specs.Views.{command_of}
use Rattle.lam_typing.specs.Checking.{types_in, dialect_in, IsSoundChecker}
use Rattle.lam_query.specs.CommandTypes.{AreCommandTypesFrom}
use Rattle.lam_query.specs.Views.{command_type_of}
use Rattle.lam_query.specs.inner.Bound.{HaveNumbers, AllStand}
use Rattle.lam_query.specs.inner.ShownCommands.{IsKnown}
use Rattle.lam_query.proofs.types_of_commands.show_commands.Given as goal

abbrev pub invariant-loop-i : goal.invariant-loop-i
invariant-loop-i l = record {
  sound : IsSoundChecker l.types;
  dialect : dialect_in l.types ≡ l.fn.dialect;
  stand : AllStand (types_in l.types) l.bound;
  numbers : HaveNumbers l.bound;
  done : List CommandTree;
  all : map command_of l.commands ≡ done ++ map command_of (drop l.i l.commands);
  known : IsKnown done l.types l.bound;
  shown : AreCommandTypesFrom [] [] [] done (map command_type_of l.all.items) l.fn.dialect;
}
