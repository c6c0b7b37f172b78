-- The values that are sent, for messages that are not values yet.
use Rattle.std.specs.Prelude.{map, string_bytes}
use Rattle.serde_json.specs.Data.{Data, array}
use Rattle.serde_json.specs.View.{view, items_of}
use Rattle.lam_rpc.specs.Reply.{result_reply}
use Rattle.lam_session.specs.declared.outgoing.Outgoing.{Outgoing}
use Rattle.lam_session.specs.declared.outgoing.Outgoing.TheVariants.{Value, Diagnostics, References, Rename}
use Rattle.lam_session.specs.declared.outgoing.Published.{Published}
use Rattle.lam_session.specs.declared.outgoing.Uses.{Uses}
use Rattle.lam_session.specs.declared.outgoing.Edits.{Edits}
use Rattle.lam_session.specs.declared.values.diagnostics.Diagnostic.{Diagnostic}
use Rattle.lam_session.specs.Diagnostics.{diagnostic_at}
use Rattle.lam_session.specs.Ranges.{location_at}
use Rattle.lam_session.specs.Renames.{edit_at, edits_in}
use Rattle.lam_session.specs.Sync.{published}

-- a diagnostic as it is sent
abbrev pub diagnostic_data : Diagnostic → Data
diagnostic_data d = diagnostic_at d.code.now d.range

-- the notification with these diagnostics
abbrev pub published_data : Published → Data
published_data p = published (string_bytes p.uri) p.version (items_of (map diagnostic_data p.diagnostics.items))

-- the reply with the locations of these ranges
abbrev pub uses_data : Uses → Data
uses_data u = result_reply (view u.id) (array (items_of (map (location_at (string_bytes u.uri)) u.ranges.items)))

-- the reply with the edits that replace these ranges
abbrev pub edits_data : Edits → Data
edits_data e = result_reply (view e.id) (edits_in (string_bytes e.uri) (items_of (map (edit_at (string_bytes e.new)) e.ranges.items)))

-- the value that a message is sent as
abbrev pub data_of : Outgoing → Data
data_of (Value value) = view value
data_of (Diagnostics p) = published_data p
data_of (References u) = uses_data u
data_of (Rename e) = edits_data e
