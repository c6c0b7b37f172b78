-- The open documents, in the order of opening. URIs are compared byte for byte.
use Rattle.std.specs.Prelude.{ℕ, ℤ, Bool, not, filter, List, [], ◌∷◌, if◌then◌else◌, Option, None, Some}
use Rattle.std.specs.Str.{bytes_eq}
use Rattle.lam_rules.specs.declared.rules.Dialect.{Dialect}
use Rattle.lam_text.specs.declared.units.Encoding.{Encoding}

-- An open document: its URI and its text, both UTF-8, and the version that the client gave, if any.
pub record OpenDocument : Type 0 where
  pub uri : List ℕ
  pub text : List ℕ
  pub version : Option ℤ

-- A single document: its text, the encoding of its columns, the dialect, the client's version, and whether there is an analysis of the text.
pub record HeldDocument : Type 0 where
  pub text : List ℕ
  pub encoding : Encoding
  pub dialect : Dialect
  pub version : Option ℤ
  pub analysed : Bool

-- the open documents, the encoding of their columns, and the dialect
pub record OpenDocuments : Type 0 where
  pub encoding : Encoding
  pub dialect : Dialect
  pub documents : List OpenDocument

-- the text of the document with this URI
abbrev pub open_text : List ℕ → List OpenDocument → Option (List ℕ)
open_text uri [] = None
open_text uri (d ∷ ds) = if bytes_eq uri d.uri then Some d.text else open_text uri ds

-- the documents with this one added: it replaces the one with its URI, or else becomes the last
abbrev pub with_document : OpenDocument → List OpenDocument → List OpenDocument
with_document new [] = new ∷ []
with_document new (d ∷ ds) = if bytes_eq new.uri d.uri then new ∷ ds else d ∷ with_document new ds

-- the documents without the one with this URI; the others keep their order
abbrev pub without_document : List ℕ → List OpenDocument → List OpenDocument
without_document uri documents = filter (λ d. not (bytes_eq uri d.uri)) documents
