use Rattle.std.proofs.Common.{sym, ◌∙◌}
use Rattle.lam_text.proofs.Walks.{bytes_within-ascii}
use Rattle.lam_text.proofs.index.front_len.Goals as goal

pub returns-then-mark : goal.returns-then-mark
returns-then-mark c = c.min.ensures ∙ sym (bytes_within-ascii c.args.encoding c.args.room c.args.line.now (c.requires c.if-mark.true))
