use Rattle.std.proofs.Common.{refl}
use Rattle.lam_query.proofs.Analysts.{nothing_read}
use Rattle.lam_query.proofs.analyses.Analyst.new.Goals as goal

pub returns-clause-read : goal.returns-clause-read
returns-clause-read c text = nothing_read text _ c.new.ensures.read c.new.ensures.no_piece c.new-4.ensures.items refl c.new-3.ensures.bound
