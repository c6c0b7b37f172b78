use Rattle.lam_query.specs.inner.Sight.{item_seen}
use Rattle.lam_query.specs.Views.{item_of}
use Rattle.lam_query.proofs.Collected.{IsCollected}
use Rattle.lam_query.proofs.sight.items_of.Given as goal

abbrev pub invariant-loop-label : goal.invariant-loop-label
invariant-loop-label l = IsCollected item_of item_seen l.items.items l.label-iterator l.fn.details.entries
