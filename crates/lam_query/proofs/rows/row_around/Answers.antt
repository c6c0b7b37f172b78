use Rattle.std.proofs.Common.{inl, inr, arith}
use Rattle.lam_query.proofs.RowAround.{row_around}
use Rattle.lam_query.proofs.RowsPlaced.{next_counted}
use Rattle.lam_query.proofs.rows.row_around.Goals as goal
use Rattle.lam_query.proofs.rows.row_around.Goals.{then-offset-end-via-then-offset-end, then-offset-end-via-else-offset-end+then-i-rows}

pub returns-then-offset-end-clause-some : goal.returns-then-offset-end-clause-some
returns-then-offset-end-clause-some c text f ts d are whole =
    row_around text c.args.offset c.args.rows.now c.loop-i.i _ c.loop-i.start c.loop-i-test.true c.loop-i.invariant.counted c.loop-i.invariant.passed
    (elim c.then-offset-end.branch [
      | then-offset-end-via-then-offset-end w ↦ inl w.if-offset-end.true
      | then-offset-end-via-else-offset-end+then-i-rows w ↦ inr w.if-i-rows.true
    ]) f ts d are whole

pub loop-i-preserved : goal.loop-i-preserved
loop-i-preserved c = record {
  passed = c.if-offset-end.false;
  counted = next_counted c.args.rows.now c.loop-i.i _ c.loop-i-test.true c.loop-i.start c.loop-i.invariant.counted;
  some_left = λ some. omega (arith, c.loop-i-test.true, c.if-i-rows.false);
}
