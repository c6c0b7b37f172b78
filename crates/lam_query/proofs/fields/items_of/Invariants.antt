use Rattle.std.proofs.Common.{drop}
use Rattle.lam_query.specs.Views.{item_of}
use Rattle.lam_query.proofs.Collected.{IsCollected}
use Rattle.lam_query.proofs.FoundFields.{numbered_item}
use Rattle.lam_query.proofs.fields.items_of.Given as goal

abbrev pub invariant-loop-i : goal.invariant-loop-i
invariant-loop-i l = IsCollected item_of (numbered_item l.table) l.items.items (drop l.i l.fields) l.fields
