use Rattle.std.proofs.Common.{sym, ◌∙◌, map}
use Rattle.lam_scope.proofs.IntervalRuns.{none_in_run}
use Rattle.lam_scope.proofs.intervals.first_in_run.Goals as goal

pub returns : goal.returns
returns g c = sym (none_in_run c.args.offset c.args.before (map g.T.HasInterval.interval_of c.args.run.now) c.args.whole.now c.requires.parts (sym c.has.ensures ∙ c.if-has.false))
