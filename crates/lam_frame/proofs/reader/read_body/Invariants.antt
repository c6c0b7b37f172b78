use Rattle.std.proofs.Common.{ℕ, List, ◌++◌, ◌<◌, ◌≤◌, ◌-◌, ◌^◌, length}
use Rattle.lam_frame.specs.Device.{source_of}
use Rattle.lam_frame.proofs.Pulls.{Pulling}
use Rattle.lam_frame.proofs.reader.read_body.Given as goal

abbrev pub invariant-loop-body : goal.invariant-loop-body
invariant-loop-body g l = record {
  pulling : Pulling (source_of g.S.Source.coming g.S.Source.failed g.S.Source.gave) (λ (heard : List ℕ). length heard < l.size) l.initial.held l.initial.pulls l.initial.source (l.body.items ++ l.held) l.pulls l.source;
  within : length l.body.items ≤ l.size;
}

abbrev pub decreases-loop-body : goal.decreases-loop-body
decreases-loop-body g l = 2 ^ 48 - l.pulls
