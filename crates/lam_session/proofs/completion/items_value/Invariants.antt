use Rattle.std.proofs.Common.{◌≡◌, ◌++◌, drop, map}
use Rattle.serde_json.specs.View.{view}
use Rattle.lam_query.specs.Views.{item_of}
use Rattle.lam_session.specs.Completions.{item_value}
use Rattle.lam_session.proofs.completion.items_value.Given as goal

-- the values so far, and those of the entries to come, are all
abbrev pub invariant-loop-item : goal.invariant-loop-item
invariant-loop-item l = map view l.values.items ++ map item_value (map item_of (drop l.item-index l.items)) ≡ map item_value (map item_of l.items)
