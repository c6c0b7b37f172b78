-- The outcome of `initialize`: the position encoding and the capabilities of the server.
use Rattle.std.specs.Prelude.{ℕ, List, codes, true, if◌then◌else◌, Option, Some, None, option_and_then, unwrap_or}
use Rattle.std.specs.Option.{option_or}
use Rattle.std.specs.Str.{bytes_eq}
use Rattle.serde_json.specs.Data.{Data, boolean, number, unsigned, string, array, object, Items, no_items, item, member, no_members}
use Rattle.serde_json.specs.Find.{get, as_array, as_str}
use Rattle.lam_text.specs.declared.units.Encoding.{Encoding}
use Rattle.lam_text.specs.declared.units.Encoding.TheVariants.{Utf8, Utf16, Utf32}

-- the name of an encoding in the protocol (LSP 3.17, PositionEncodingKind)
abbrev pub encoding_name : Encoding → List ℕ
encoding_name Utf8 = codes "utf-8"
encoding_name Utf16 = codes "utf-16"
encoding_name Utf32 = codes "utf-32"

-- the encoding with this name
abbrev pub encoding_named : List ℕ → Option Encoding
encoding_named name =
    if bytes_eq name (encoding_name Utf8) then Some Utf8
    else (if bytes_eq name (encoding_name Utf16) then Some Utf16
    else (if bytes_eq name (encoding_name Utf32) then Some Utf32
    else None))

-- the list of encodings that the client offers, if its params have one
abbrev pub offered : Data → Option Items
offered params =
    option_and_then as_array
    (option_and_then (get (codes "positionEncodings"))
    (option_and_then (get (codes "general")) (get (codes "capabilities") params)))

-- the encoding that one offer names
abbrev pub encoding_of : Data → Option Encoding
encoding_of offer = option_and_then encoding_named (as_str offer)

-- the first offer that names an encoding
abbrev pub first_known : Items → Option Encoding
first_known no_items = None
first_known (item offer offers) = option_or (encoding_of offer) (first_known offers)

-- The chosen encoding: the first offer that names one, or else UTF-16, as the protocol requires.
abbrev pub chosen : Data → Encoding
chosen params = unwrap_or (option_and_then first_known (offered params)) Utf16

-- documents are opened and closed, and changes are incremental (TextDocumentSyncKind.Incremental)
abbrev pub document_sync : Data
document_sync = object (member (codes "change") (number (unsigned 2)) (member (codes "openClose") (boolean true) no_members))

-- the characters that trigger completion: a dot
abbrev pub completion_options : Data
completion_options = object (member (codes "triggerCharacters") (array (item (string (codes ".")) no_items)) no_members)

-- the capabilities of the server, with the chosen encoding
abbrev pub capabilities : Encoding → Data
capabilities encoding =
    object (member (codes "completionProvider") completion_options
    (member (codes "definitionProvider") (boolean true)
    (member (codes "hoverProvider") (boolean true)
    (member (codes "positionEncoding") (string (encoding_name encoding))
    (member (codes "referencesProvider") (boolean true)
    (member (codes "renameProvider") (boolean true)
    (member (codes "textDocumentSync") document_sync no_members)))))))

-- the result of `initialize`
abbrev pub initialize_answer : Encoding → Data
initialize_answer encoding = object (member (codes "capabilities") (capabilities encoding) no_members)
