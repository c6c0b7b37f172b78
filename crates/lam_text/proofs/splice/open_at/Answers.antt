use Rattle.lam_text.proofs.Splices.{read-start, open_at-ascii_mark, open_at-read}
use Rattle.lam_text.proofs.splice.open_at.Goals as goal

pub is_ascii_between-requires : goal.is_ascii_between-requires
is_ascii_between-requires c =
    record { ordered = read-start c.args.marks.now c.args.text.now c.args.at c.args.number c.requires.index c.requires.within c.requires.line _; within = c.requires.within }

pub returns-then-mark : goal.returns-then-mark
returns-then-mark c =
    open_at-ascii_mark c.args.marks.now c.args.text.now c.args.at c.args.number c.requires.index c.requires.within c.requires.line _ c.if-mark.true

pub returns-else-mark : goal.returns-else-mark
returns-else-mark c =
    open_at-read c.args.marks.now c.args.text.now c.args.at c.args.number c.requires.index c.requires.within c.requires.line _ _ c.is_ascii_between.ensures
