use Rattle.std.proofs.Common.{◌≡◌, ◌+◌, List, map, take, drop}
use Rattle.lam_syntax.specs.Trees.{CommandTree}
use Rattle.lam_query.specs.Commands.{AreCommandsOfText}
use Rattle.lam_query.specs.Views.{explained_of}
use Rattle.lam_query.specs.inner.Entries.{IsPassedBehind}
use Rattle.lam_query.specs.inner.Kept.{rows_of, bytes_of}
use Rattle.lam_query.proofs.ExplainedRows.{AreExplainedUpTo}
use Rattle.lam_query.proofs.analyses.Analysis.push_explained.Given as goal

abbrev pub invariant-loop-number : goal.invariant-loop-number
invariant-loop-number l =
    (l.start + bytes_of (rows_of (drop l.number l.self.rows.items)) ≡ bytes_of (rows_of l.self.rows.items))
    × IsPassedBehind l.self.bound (rows_of (take l.number l.self.rows.items)) l.entries
    × ((commands : List CommandTree) → AreCommandsOfText l.text commands
    → AreExplainedUpTo commands l.self.rows.items l.number l.start (map explained_of l.fn.all.items) (map explained_of l.all.items) l.self.dialect)
