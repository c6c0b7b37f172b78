use Rattle.lam_query.proofs.ReadPieces.{nothing_read}
use Rattle.lam_query.proofs.reading.Reader.new.Goals as goal

pub returns-clause-read : goal.returns-clause-read
returns-clause-read c = nothing_read _ c.new.ensures.items c.new-3.ensures.items c.new-2.ensures.items
