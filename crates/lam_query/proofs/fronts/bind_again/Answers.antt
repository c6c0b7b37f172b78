use Rattle.std.proofs.Common.{◌+◌, get_or, drop, ap, refl, arith}
use Rattle.std.specs.Option.{option_map}
use Rattle.lam_query.specs.inner.Kept.{command_row_of, row_of, rows_of}
use Rattle.lam_query.proofs.ReboundNames.{at_row, at_end, all_bound, all_stand, row_skipped, row_rebound}
use Rattle.lam_query.proofs.fronts.bind_again.Goals as goal
use Rattle.lam_query.proofs.fronts.bind_again.Goals.{in-Some, in_default}

pub loop-i-preserved : goal.loop-i-preserved
loop-i-preserved c =
    let rows = c.args.rows.now in
    let row = get_or rows c.loop-i.i c.index-rows-i.result in
    let rest = rows_of (drop (c.loop-i.i + 1) rows) in
    let before = at_row rows c.loop-i.i c.index-rows-i.result c.args.bound.now c.loop-i.bound (omega arith) c.loop-i.invariant in
    elim c.match-rows-i.branch [
      | in-Some w ↦
          rw w.bound-is
          (row_rebound (rows_of rows) (row_of row) rest c.args.bound.now c.loop-i.bound before (command_row_of w.in-Some.command) w.bound.result w.rebind.new.self
          (ap (option_map command_row_of) w.in-Some.is) w.bound.ensures w.rebind.ensures.bound w.rebind.ensures.keeps w.rebind.ensures.numbers)
      | in_default w ↦
          rw w.bound-is (row_skipped (rows_of rows) (row_of row) rest c.args.bound.now c.loop-i.bound before row.command refl w.in_default.is)
    ]

pub returns-clause-bound : goal.returns-clause-bound
returns-clause-bound c =
    let rows = c.args.rows.now in
    all_bound (rows_of rows) c.args.bound.now c.loop-i.bound (at_end rows c.loop-i.i c.args.bound.now c.loop-i.bound (omega arith) c.loop-i.invariant)

pub returns-clause-stand : goal.returns-clause-stand
returns-clause-stand c =
    let rows = c.args.rows.now in
    all_stand (rows_of rows) c.args.bound.now c.loop-i.bound (at_end rows c.loop-i.i c.args.bound.now c.loop-i.bound (omega arith) c.loop-i.invariant)
