use Rattle.std.proofs.Common.{arith}
use Rattle.lam_query.proofs.RowBytes.{bytes_more, within_all, next_not_within}
use Rattle.lam_query.proofs.fronts.rows_within.Goals as goal

pub overflow_add-next : goal.overflow_add-next
overflow_add-next c =
    let all = within_all c.args.rows.now c.loop-i.i c.index-rows-i.result (omega arith) in
    record { fits = omega (arith, all, c.requires, c.loop-i.invariant.counted) }

pub returns-then-next-bytes : goal.returns-then-next-bytes
returns-then-next-bytes c =
    next_not_within c.args.bytes (record { count = c.loop-i.i; end = c.loop-i.end }) c.args.rows.now c.index-rows-i.result (omega arith)
    c.loop-i.invariant.counted c.loop-i.invariant.within (omega (arith, c.if-next-bytes.true))

pub loop-i-preserved : goal.loop-i-preserved
loop-i-preserved c = record {
  counted = omega (arith, bytes_more c.args.rows.now c.loop-i.i c.index-rows-i.result (omega arith), c.loop-i.invariant.counted);
  within = omega (arith, c.if-next-bytes.false);
}
