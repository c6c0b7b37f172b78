use Rattle.std.proofs.Common.{map, ap, ◌∙◌}
use Rattle.serde_json.specs.View.{view, items_of}
use Rattle.lam_rpc.specs.Reply.{result_reply}
use Rattle.lam_session.specs.Ranges.{range_of}
use Rattle.lam_session.specs.Renames.{edit_at, edits_in}
use Rattle.lam_session.proofs.ValueLists.{shown_through}
use Rattle.lam_session.proofs.rename.edits_reply.Goals as goal

pub returns : goal.returns
returns c =
    let range = range_of c.args.doc.now.encoding c.args.doc.now.text in
    let replacing = ap (λ new. map (edit_at new) c.in_ok-ranges.ranges.items) c.in_ok-new.ensures.ok ∙ shown_through (edit_at c.args.new.now) range _ _ c.in_ok-ranges.ensures in
    λ i. result_reply (view c.args.id) (edits_in (c.in_ok-uri.ensures.ok i) (items_of (replacing i)))
