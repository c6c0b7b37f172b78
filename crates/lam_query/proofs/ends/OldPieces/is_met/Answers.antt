use Rattle.std.proofs.Common.{refl, arith}
use Rattle.lam_query.proofs.CommonEnds.{piece_inside, one_passed}
use Rattle.lam_query.proofs.ends.OldPieces.is_met.Goals as goal

pub loop-self-init : goal.loop-self-init
loop-self-init c = record { left = λ rows left. left; forward = omega arith; common = refl }

pub overflow_sub-self : goal.overflow_sub-self
overflow_sub-self c =
    piece_inside c.requires.0 c.loop-self.self c.index-self-self.result (c.loop-self.invariant.left c.requires.0 c.requires.1) c.loop-self-test.true

pub loop-self-preserved : goal.loop-self-preserved
loop-self-preserved c = record {
  left = λ rows left. one_passed rows c.loop-self.self _ c.index-self-self.result (c.loop-self.invariant.left rows left) c.loop-self-test.true refl refl refl;
  forward = omega (arith, c.loop-self.invariant.forward);
  common = c.loop-self.invariant.common;
}
