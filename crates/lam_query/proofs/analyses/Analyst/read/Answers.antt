use Rattle.std.proofs.Common.{[], subst, ◌∙◌, arith}
use Rattle.lam_query.specs.inner.Analysts.{IsReadOn}
use Rattle.lam_query.specs.inner.PieceRows.{outset}
use Rattle.lam_query.proofs.Analysts.{rest_counted}
use Rattle.lam_query.proofs.analyses.Analyst.read.Goals as goal

pub loop-smaller : goal.loop-smaller
loop-smaller c =
    let text = c.args.text.now in
    let before = c.loop.invariant in
    let now = c.read_piece.new.self in
    let read = c.in_ok-read_piece.ensures.read [] outset before.rest before.read in
    let on = subst (λ more. IsReadOn more [] outset text before.rest now) c.if-branch.true read in
    omega (arith, rest_counted [] outset text before.rest c.loop.self before.read, rest_counted [] outset text on.0 now on.2, on.1)

pub loop-preserved : goal.loop-preserved
loop-preserved c =
    let before = c.loop.invariant in
    let now = c.read_piece.new.self in
    let read = c.in_ok-read_piece.ensures.read [] outset before.rest before.read in
    let on = subst (λ more. IsReadOn more [] outset c.args.text.now before.rest now) c.if-branch.true read in
    record {
      sound = c.in_ok-read_piece.ensures.sound;
      dialect = c.in_ok-read_piece.ensures.dialect ∙ before.dialect;
      rest = on.0;
      read = on.2;
    }

pub returns-clause-read : goal.returns-clause-read
returns-clause-read c =
    let before = c.loop.invariant in
    let read = c.in_ok-read_piece.ensures.read [] outset before.rest before.read in
    subst (λ more. IsReadOn more [] outset c.args.text.now before.rest c.read_piece.new.self) c.if-branch.false read
