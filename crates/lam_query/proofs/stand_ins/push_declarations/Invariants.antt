use Rattle.std.proofs.Common.{drop}
use Rattle.lam_query.specs.inner.Entries.{name_meant}
use Rattle.lam_query.specs.inner.StandIns.{declared}
use Rattle.lam_query.proofs.StandInsMade.{AreMade}
use Rattle.lam_query.proofs.stand_ins.push_declarations.Given as goal

abbrev pub invariant-loop-i : goal.invariant-loop-i
invariant-loop-i l = AreMade declared (name_meant l.table l.bound l.entries) l.names (drop l.i l.names) l.initial.commands.items l.commands.items
