use Rattle.std.proofs.Common.{sym, subst, map}
use Rattle.lam_syntax.specs.Views.{command_of}
use Rattle.lam_query.specs.inner.Reading.{AreReadBut}
use Rattle.lam_query.proofs.ReadPieces.{all_left}
use Rattle.lam_query.proofs.reading.Collector.new.Goals as goal

pub returns : goal.returns
returns c all =
    subst (λ cs. AreReadBut all all (map command_of cs) c.new.result) (sym c.new-2.ensures.items)
    (all_left all c.new.result c.new.ensures.no_piece c.new.ensures.read)
