use Rattle.std.proofs.Common.{map, ap, ◌∙◌}
use Rattle.serde_json.specs.Data.{array}
use Rattle.serde_json.specs.View.{view, items_of}
use Rattle.lam_rpc.specs.Reply.{result_reply}
use Rattle.lam_session.specs.Ranges.{range_of, location_at}
use Rattle.lam_session.proofs.ValueLists.{shown_through}
use Rattle.lam_session.proofs.references.found_reply.Goals as goal

pub returns : goal.returns
returns c =
    let encoding = c.args.doc.now.encoding in
    let text = c.args.doc.now.text in
    let spans = rw c.deref.ensures.value at c.in_ok-ranges.ensures in
    let located = ap (λ uri. map (location_at uri) c.in_ok-ranges.ranges.items) c.in_ok-uri.ensures.ok ∙ shown_through (location_at c.args.uri.now) (range_of encoding text) _ _ spans in
    rw c.in-Some.is (ap (λ l. result_reply (view c.args.id) (array (items_of l))) located)
