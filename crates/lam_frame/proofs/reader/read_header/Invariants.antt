use Rattle.std.proofs.Common.{◌-◌, ◌^◌}
use Rattle.lam_frame.specs.Device.{source_of}
use Rattle.lam_frame.specs.Frame.{IsOpen}
use Rattle.lam_frame.proofs.Pulls.{Pulling}
use Rattle.lam_frame.proofs.reader.read_header.Given as goal

abbrev pub invariant-loop-header : goal.invariant-loop-header
invariant-loop-header g l = Pulling (source_of g.S.Source.coming g.S.Source.failed g.S.Source.gave) IsOpen l.initial.held l.initial.pulls l.initial.source l.held l.pulls l.source

abbrev pub decreases-loop-header : goal.decreases-loop-header
decreases-loop-header g l = 2 ^ 48 - l.pulls
