use Rattle.std.proofs.Common.{◌∙◌}
use Rattle.lam_query.specs.Views.{item_of}
use Rattle.lam_rules.proofs.TableEntries.{below_read}
use Rattle.lam_query.proofs.Collected.{all_collected}
use Rattle.lam_query.proofs.FoundFields.{numbered_item, numbered_items}
use Rattle.lam_query.proofs.fields.items_of.Goals as goal

pub item_for-requires : goal.item_for-requires
item_for-requires c = below_read _ _ _ _ c.requires c.loop-i-test.true c.index-fields-i.is

pub returns : goal.returns
returns c =
    all_collected item_of (numbered_item c.args.table.now) c.args.fields.now c.loop-i.i c.loop-i.items.items c.loop-i-test.false c.loop-i.invariant
    ∙ numbered_items c.args.table.now c.args.fields.now
