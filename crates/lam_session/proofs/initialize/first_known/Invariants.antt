use Rattle.std.proofs.Common.{◌≡◌, drop}
use Rattle.serde_json.specs.View.{items_view}
use Rattle.lam_session.specs.Initialize.{first_known}
use Rattle.lam_session.proofs.initialize.first_known.Given as goal

-- no offer before this one names an encoding
abbrev pub invariant-loop-offer : goal.invariant-loop-offer
invariant-loop-offer l = first_known (items_view (drop l.offer-index l.offers)) ≡ first_known (items_view l.offers)
