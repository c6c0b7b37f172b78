use Rattle.lam_typing.proofs.Completing.{end_enough}
use Rattle.lam_typing.proofs.analysing.end.Goals as goal

pub returns-in-Enough : goal.returns-in-Enough
returns-in-Enough c = end_enough c.args.stop c.complete.result c.args.walk c.args.sources.now c.in-Enough.is c.complete.ensures.completes c.complete.ensures.fault
