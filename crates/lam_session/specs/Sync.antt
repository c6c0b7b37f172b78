-- The effect of document notifications (LSP 3.17, "Text Document Synchronization"): an open or a change that is not ignored is followed by one notification with the
-- diagnostics of the document's new text, a close by one with no diagnostics.
use Rattle.std.specs.Prelude.{◌≡◌, ℕ, ℤ, List, [], ◌∷◌, codes, Option, None, Some, option_and_then}
use Rattle.serde_json.specs.Data.{Data, number, string, array, object, Items, no_items, Members, member, no_members}
use Rattle.serde_json.specs.Find.{get, as_number, as_i64, of_integer}
use Rattle.lam_rpc.specs.Fields.{text_at, named_uri, listed_changes}
use Rattle.lam_rpc.specs.Reply.{sent_notice}
use Rattle.lam_text.specs.declared.units.Encoding.{Encoding}
use Rattle.lam_text.specs.Edits.{Edit, text_after}
use Rattle.lam_rules.specs.declared.rules.Dialect.{Dialect}
use Rattle.lam_query.specs.Faults.{Fault}
use Rattle.lam_query.specs.TextFaults.{AreFaults}
use Rattle.lam_session.specs.Diagnostics.{diagnostics}
use Rattle.lam_session.specs.Documents.{OpenDocument, open_text, with_document, without_document}
use Rattle.lam_session.specs.State.{State}
use Rattle.lam_session.specs.Does.{Does, Ignores}

-- the text of an opened document
abbrev pub opened_text : Data → Option (List ℕ)
opened_text params = option_and_then (text_at (codes "text")) (get (codes "textDocument") params)

-- the version that the client gave, if it is a signed 64-bit integer
abbrev pub given_version : Data → Option ℤ
given_version params =
    option_and_then as_i64 (option_and_then as_number
    (option_and_then (get (codes "version")) (get (codes "textDocument") params)))

-- the member for the version, if there is one
abbrev pub version_member : Option ℤ → Members
version_member None = no_members
version_member (Some version) = member (codes "version") (number (of_integer version)) no_members

-- the notification that publishes the diagnostics of a document
abbrev pub published : List ℕ → Option ℤ → Items → Data
published uri version faults =
    sent_notice (codes "textDocument/publishDiagnostics")
    (object (member (codes "diagnostics") (array faults) (member (codes "uri") (string uri) (version_member version))))

-- One value is sent: all diagnostics of the document's text.
pub record Tells (encoding : Encoding) (d : Dialect) (document : OpenDocument) (sent : List Data) : Type 0 where
  pub faults : List Fault
  pub are : AreFaults document.text faults d
  pub told : sent ≡ published document.uri document.version (diagnostics encoding document.text faults) ∷ []

-- The document is open with this text and version, and its diagnostics are published.
abbrev pub Holds : State → OpenDocument → List Data → State → Type 0
Holds s document sent next =
    Tells s.encoding s.dialect document sent × (next ≡ record s { documents = with_document document s.documents })

-- A document with this URI and this text is opened, replacing one with the same URI; a notification that lacks either is ignored.
abbrev pub OpensAs : State → Option (List ℕ) → Option (List ℕ) → Option ℤ → List Data → State → Type 0
OpensAs s (Some uri) (Some text) version = Holds s (record { uri = uri; text = text; version = version })
OpensAs s _ _ version = Ignores s

-- A document is opened, with the params of the notification.
abbrev pub Opens : State → Data → List Data → State → Type 0
Opens s params = OpensAs s (named_uri params) (opened_text params) (given_version params)

-- The changes are applied to the open text one after another; changes of a document that is not open are ignored.
abbrev pub ChangesText : State → List ℕ → Option (List ℕ) → List Edit → Option ℤ → List Data → State → Type 0
ChangesText s uri None edits version = Ignores s
ChangesText s uri (Some text) edits version =
    Holds s (record { uri = uri; text = text_after s.encoding text edits; version = version })

-- The document with this URI is changed; a notification without a URI or without a list of changes is ignored.
abbrev pub ChangesAs : State → Option (List ℕ) → Option (List Edit) → Option ℤ → List Data → State → Type 0
ChangesAs s (Some uri) (Some edits) version = ChangesText s uri (open_text uri s.documents) edits version
ChangesAs s _ _ version = Ignores s

-- A document is changed, with the params of the notification.
abbrev pub Changes : State → Data → List Data → State → Type 0
Changes s params = ChangesAs s (named_uri params) (listed_changes params) (given_version params)

-- An open document is closed and its diagnostics are cleared; a notification about one that is not open is ignored.
abbrev pub ClosesOpen : State → List ℕ → Option (List ℕ) → List Data → State → Type 0
ClosesOpen s uri None = Ignores s
ClosesOpen s uri (Some text) =
    Does (published uri None no_items ∷ []) (record s { documents = without_document uri s.documents })

-- The document with this URI is closed; a notification without a URI is ignored.
abbrev pub ClosesAs : State → Option (List ℕ) → List Data → State → Type 0
ClosesAs s None = Ignores s
ClosesAs s (Some uri) = ClosesOpen s uri (open_text uri s.documents)

-- A document is closed, with the params of the notification.
abbrev pub Closes : State → Data → List Data → State → Type 0
Closes s params = ClosesAs s (named_uri params)
