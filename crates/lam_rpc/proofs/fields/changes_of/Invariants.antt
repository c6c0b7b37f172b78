use Rattle.std.proofs.Common.{◌≡◌, drop}
use Rattle.serde_json.specs.View.{items_view}
use Rattle.lam_rpc.specs.Fields.{changes_of}
use Rattle.lam_rpc.proofs.ChangeLists.{after}
use Rattle.lam_rpc.proofs.fields.changes_of.Given as goal

-- the changes read so far and those of the rest are those of the list
abbrev pub invariant-loop-item : goal.invariant-loop-item
invariant-loop-item l = changes_of (items_view l.list) ≡ after l.changes.items (changes_of (items_view (drop l.item-index l.list)))
