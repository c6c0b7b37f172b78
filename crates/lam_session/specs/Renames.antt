-- Replies to rename requests (LSP 3.17, "Rename Request").
use Rattle.std.specs.Prelude.{◌≡◌, ℕ, List, [], map, codes, Option, None, Some, option_map, option_and_then, unwrap_or, Result, Ok, Err}
use Rattle.serde_json.specs.Data.{Data, Items, string, array, object, member, no_members}
use Rattle.serde_json.specs.Find.{get}
use Rattle.serde_json.specs.View.{items_of}
use Rattle.lam_rpc.specs.Fields.{text_at, given_range}
use Rattle.lam_rpc.specs.Reply.{result_reply}
use Rattle.lam_token.specs.declared.span.Span.{Span}
use Rattle.lam_text.specs.declared.units.Encoding.{Encoding}
use Rattle.lam_text.specs.declared.places.Range.{Range}
use Rattle.lam_text.specs.Edits.{Edit}
use Rattle.lam_query.specs.declared.renames.RenameFault.{RenameFault}
use Rattle.lam_query.specs.declared.renames.RenameFault.TheVariants as fault
use Rattle.lam_query.specs.Renames.{IsRenameIn}
use Rattle.lam_session.specs.declared.refusals.Refusal.{Refusal}
use Rattle.lam_session.specs.declared.refusals.Refusal.TheVariants as refusal
use Rattle.lam_session.specs.Asked.{given_name}
use Rattle.lam_session.specs.Ranges.{range_of, written_range}
use Rattle.lam_session.specs.Refusals.{refused}

-- the new name; empty if the params have none, which is refused before
abbrev pub new_name : Data → List ℕ
new_name params = unwrap_or (given_name params) []

-- the edit that replaces a range by the new name (LSP 3.17, "TextEdit")
abbrev pub edit_at : (new : List ℕ) → Range → Data
edit_at new range = object (member (codes "newText") (string new) (member (codes "range") (written_range range) no_members))

-- the edit of a span of the text
abbrev pub edit_value : Encoding → List ℕ → (new : List ℕ) → Span → Data
edit_value encoding text new span = edit_at new (range_of encoding text span)

-- the change that a client makes for a span's edit: the new name replaces the range
abbrev pub change_of : Encoding → List ℕ → (new : List ℕ) → Span → Edit
change_of encoding text new span = record { range = Some (range_of encoding text span); text = new }

-- the change that such an edit in a reply describes, read from its members
abbrev pub change_in : Data → Option Edit
change_in edit =
    option_and_then (λ new. option_map (λ range. record { range = Some range; text = new }) (option_and_then given_range (get (codes "range") edit)))
    (text_at (codes "newText") edit)

-- these edits in the document with this URI (LSP 3.17, "WorkspaceEdit")
abbrev pub edits_in : (uri : List ℕ) → Items → Data
edits_in uri edits = object (member (codes "changes") (object (member uri (array edits) no_members)) no_members)

-- the edits in the document with this URI, one for each span, in order
abbrev pub rename_value : Encoding → List ℕ → (uri new : List ℕ) → List Span → Data
rename_value encoding text uri new spans = edits_in uri (items_of (map (edit_value encoding text new) spans))

-- the refusal for a rename that fails; `None` for a failed allocation
abbrev pub refusal_of : RenameFault → Option Refusal
refusal_of fault.NotAName = Some refusal.NotAName
refusal_of fault.UnparsedCommand = Some refusal.UnparsedCommand
refusal_of fault.NoBoundName = Some refusal.NoBoundName
refusal_of fault.WrongKind = Some refusal.WrongKind
refusal_of fault.ChangesBinding = Some refusal.ChangesBinding
refusal_of fault.Memory = None

-- the reply: the edits or the refusal; `None` for a failed allocation
abbrev pub reply_for : Encoding → (uri text new : List ℕ) → (id : Data) → Result (List Span) RenameFault → Option Data
reply_for encoding uri text new id (Ok spans) = Some (result_reply id (rename_value encoding text uri new spans))
reply_for encoding uri text new id (Err f) = option_map (refused id) (refusal_of f)

-- The reply gives the edits that rename the name at the offset, or the reason why there are none.
pub record IsRenameReply (encoding : Encoding) (uri text : List ℕ) (offset : ℕ) (new : List ℕ) (id reply : Data) : Type 0 where
  pub found : Result (List Span) RenameFault
  pub right : IsRenameIn text offset new found
  pub replied : reply_for encoding uri text new id found ≡ Some reply
