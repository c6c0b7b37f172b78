use Rattle.std.proofs.Common.{string_bytes, ap, sym}
use Rattle.std.specs.Option.{option_map}
use Rattle.std.proofs.lemmas.Map.Text.{btree_map_updates_text}
use Rattle.lam_query.proofs.PutInSight.{put_inside}
use Rattle.lam_query.proofs.sight.put_binder.Goals as goal

pub returns-clause-details : goal.returns-clause-details
returns-clause-details c =
    let sets = btree_map_updates_text (string_bytes c.in_ok-name.name) c.args.details.now c.insert.new.self _ c.in_ok-insert.ensures.updates in
    put_inside _ c.args.binder _ _ _ c.args.details.now c.insert.new.self (ap (option_map (λ x. x.now)) (sym c.in-Some.is)) c.in_ok-name.ensures.ok c.in_ok-detail.ensures.detail sets
