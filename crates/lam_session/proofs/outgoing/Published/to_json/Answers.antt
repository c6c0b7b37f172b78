use Rattle.std.proofs.Common.{◌≡◌, [], ◌∷◌, ◌++◌, codes, true, false, map, string_bytes, refl}
use Rattle.serde_json.specs.Data.{string}
use Rattle.serde_json.specs.View.{items_of}
use Rattle.serde_json.specs.Written.{compact_text, items_text, members_text}
use Rattle.lam_session.specs.Outgoing.{diagnostic_data}
use Rattle.lam_session.specs.Sync.{version_member}
use Rattle.lam_session.proofs.SentTexts.{front, published_text}
use Rattle.lam_session.proofs.outgoing.Published.to_json.Goals as goal

pub returns : goal.returns
returns c =
    let p = c.args.self.now in
    let faults = items_of (map diagnostic_data p.diagnostics.items) in
    let so_far : string_bytes c.write_version.new.text ++ 125 ∷ [] ≡ (((front ++ items_text false faults) ++ codes ",\"uri\":") ++ compact_text (string (string_bytes p.uri))) ++ members_text true (version_member p.version) =
    rw (c.in_ok-write_version.ensures, c.in_ok-write_value.ensures, c.in_ok-uri.ensures, c.in_ok-push_str.ensures.bytes, c.in_ok-write_items.ensures, c.in_ok-text.ensures.ok, c.deref.ensures.value, c.deref-2.ensures) refl in
    rw c.in_ok-push_str-2.ensures.bytes (published_text (string_bytes p.uri) p.version faults (string_bytes c.write_version.new.text) so_far)
