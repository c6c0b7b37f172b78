use Rattle.std.proofs.Common.{◌≡◌, ◌++◌, codes, false, map, string_bytes, refl, ◌∙◌}
use Rattle.serde_json.specs.Data.{array}
use Rattle.serde_json.specs.View.{items_of}
use Rattle.serde_json.specs.Written.{items_text}
use Rattle.lam_session.specs.Ranges.{location_at}
use Rattle.lam_session.proofs.SentTexts.{list_text}
use Rattle.lam_session.proofs.outgoing.Uses.to_json.Goals as goal

pub returns : goal.returns
returns c = λ plain.
    let u = c.args.self.now in
    let front = string_bytes c.in_ok-text.text in
    let uses = items_of (map (location_at (string_bytes u.uri)) u.ranges.items) in
    let so_far : string_bytes c.write_items.new.text ≡ (front ++ codes "[") ++ items_text false uses =
    rw (c.in_ok-write_items.ensures, c.in_ok-push_str.ensures.bytes, c.deref.ensures, c.deref-2.ensures.value) refl in
    rw c.in_ok-push_str-2.ensures.bytes (list_text front (string_bytes c.write_items.new.text) uses so_far ∙ c.in_ok-text.ensures (array uses) plain)
