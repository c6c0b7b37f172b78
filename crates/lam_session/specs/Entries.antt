-- The model of the map of open documents.
use Rattle.std.specs.Prelude.{◌≡◌, true, List, map, String, string_bytes}
use Rattle.std.specs.List.{AllByRecursion}
use Rattle.std.specs.declared.alloc.Global.{Global}
use Rattle.lam_rules.specs.declared.rules.Dialect.{Dialect}
use Rattle.lam_text.specs.declared.units.Encoding.{Encoding}
use Rattle.lam_session.specs.Documents.{OpenDocument, HeldDocument}

-- the document in an entry
abbrev pub document_of : String Global × HeldDocument → OpenDocument
document_of e = record { uri = string_bytes e.0; text = e.1.text; version = e.1.version }

-- the documents in the entries, in order
abbrev pub documents_of : List (String Global × HeldDocument) → List OpenDocument
documents_of entries = map document_of entries

-- The document has this encoding and this dialect, and there is an analysis of its text.
pub record IsReady (encoding : Encoding) (dialect : Dialect) (document : HeldDocument) : Type 0 where
  pub encoding_is : document.encoding ≡ encoding
  pub dialect_is : document.dialect ≡ dialect
  pub analysed : document.analysed ≡ true

-- the same for every document in the entries
abbrev pub AreReady : Encoding → Dialect → List (String Global × HeldDocument) → Type 0
AreReady encoding dialect entries = AllByRecursion (λ e. IsReady encoding dialect e.1) entries
