use Rattle.std.proofs.Common.{◌≡◌, length, drop, ap, sym, ◌∙◌}
use Rattle.lam_text.specs.Lines.{lines_of}
use Rattle.lam_text.specs.inner.Splice.{first_start}
use Rattle.lam_text.proofs.Marks.{later_on}
use Rattle.lam_text.proofs.Splices.{first_ascii-mark, later-read, first_start-bounds, first_ascii-stop}
use Rattle.lam_text.proofs.splice.ascii_from.Goals as goal
use Rattle.lam_text.proofs.splice.ascii_from.Goals.{After-first_start-end}

stop : (c : After-first_start-end) → c.first_start-end.result ≡ first_start (later_on c.args.at (lines_of (drop c.args.at c.args.text.now))) (length c.args.text.now)
stop c =
    c.first_start-end.ensures
    ∙ ap (λ marks. first_start marks (length c.args.text.now)) (later-read c.args.marks.now c.args.text.now c.args.at c.args.number c.requires.index c.requires.within c.requires.line)

pub returns-then-marks-number : goal.returns-then-marks-number
returns-then-marks-number c =
    sym (first_ascii-mark c.args.marks.now c.args.text.now c.args.at c.args.number c.requires.index c.requires.within c.requires.line _ c.if-marks-number.true)

pub is_ascii_between-requires-clause-ordered : goal.is_ascii_between-requires-clause-ordered
is_ascii_between-requires-clause-ordered c =
    rw (stop (goal.at.is_ascii_between-requires-clause-ordered c).After-first_start-end) (first_start-bounds c.args.text.now c.args.at c.requires.within).0

pub is_ascii_between-requires-clause-within : goal.is_ascii_between-requires-clause-within
is_ascii_between-requires-clause-within c =
    rw (stop (goal.at.is_ascii_between-requires-clause-within c).After-first_start-end) (first_start-bounds c.args.text.now c.args.at c.requires.within).1

pub returns : goal.returns
returns c =
    rw (c.is_ascii_between.ensures, stop (goal.at.returns c).After-first_start-end) (sym (first_ascii-stop c.args.text.now c.args.at c.requires.within))
