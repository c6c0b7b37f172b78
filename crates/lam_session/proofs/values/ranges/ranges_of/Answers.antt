use Rattle.lam_session.specs.Ranges.{range_of}
use Rattle.lam_session.proofs.ValueLists.{item_more, all_items}
use Rattle.lam_session.proofs.values.ranges.ranges_of.Goals as goal

pub loop-span-preserved : goal.loop-span-preserved
loop-span-preserved c =
    item_more (range_of c.args.doc.now.encoding c.args.doc.now.text) c.loop-span.ranges.items _ c.range_of.result c.args.spans.now c.loop-span.span-index _ c.loop-span-test.true
    c.range_of.ensures c.in_ok-push.ensures.items c.loop-span.invariant

pub returns : goal.returns
returns c = all_items (range_of c.args.doc.now.encoding c.args.doc.now.text) c.loop-span.ranges.items c.args.spans.now c.loop-span.span-index c.loop-span-test.false c.loop-span.invariant
