use Rattle.std.proofs.Common.{sym}
use Rattle.lam_text.proofs.Walks.{units_in-ascii}
use Rattle.lam_text.proofs.index.units.Goals as goal

pub returns-then-mark : goal.returns-then-mark
returns-then-mark c = sym (units_in-ascii c.args.encoding c.args.front.now (c.requires c.if-mark.true))
