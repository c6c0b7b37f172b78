use Rattle.std.proofs.Common.{drop}
use Rattle.lam_typing.specs.Answers.{answers}
use Rattle.lam_typing.specs.inner.Notes.{entry_told}
use Rattle.lam_typing.proofs.Numbering.{AreNumbered}
use Rattle.lam_typing.proofs.entries.number_entries.Given as goal

abbrev pub invariant-loop-i : goal.invariant-loop-i
invariant-loop-i l = AreNumbered l.fn.table l.table (entry_told (answers l.fn.table l.found)) l.entries.items (drop l.i l.sources) l.sources
