use Rattle.std.proofs.Common.{◌≡◌, ◌++◌, codes, false, map, string_bytes, refl, ◌∙◌}
use Rattle.serde_json.specs.Data.{string}
use Rattle.serde_json.specs.View.{items_of}
use Rattle.serde_json.specs.Written.{compact_text, items_text}
use Rattle.lam_session.specs.Renames.{edit_at, edits_in}
use Rattle.lam_session.proofs.SentTexts.{edits_text}
use Rattle.lam_session.proofs.outgoing.Edits.to_json.Goals as goal

pub returns : goal.returns
returns c = λ plain.
    let e = c.args.self.now in
    let uri = string_bytes e.uri in
    let front = string_bytes c.in_ok-text.text in
    let edits = items_of (map (edit_at (string_bytes e.new)) e.ranges.items) in
    let so_far : string_bytes c.write_items.new.text ≡ (((front ++ codes "{\"changes\":{") ++ compact_text (string uri)) ++ codes ":[") ++ items_text false edits =
    rw (c.in_ok-write_items.ensures, c.in_ok-push_str-2.ensures.bytes, c.in_ok-write_value.ensures, c.in_ok-uri.ensures, c.in_ok-push_str.ensures.bytes, c.deref.ensures, c.deref-2.ensures, c.deref-3.ensures.value) refl in
    rw c.in_ok-push_str-3.ensures.bytes (edits_text front (string_bytes c.write_items.new.text) uri edits so_far ∙ c.in_ok-text.ensures (edits_in uri edits) plain)
