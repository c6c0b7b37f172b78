-- The subject of a question about a position in a document.
use Rattle.std.specs.Prelude.{ℕ, List, codes, Bool, true, if◌then◌else◌, Option, None, Some, is_some}
use Rattle.serde_json.specs.Data.{Data}
use Rattle.lam_rpc.specs.Fields.{text_at, asked_position, named_uri}
use Rattle.lam_rules.specs.declared.rules.Dialect.{Dialect}
use Rattle.lam_text.specs.declared.units.Encoding.{Encoding}
use Rattle.lam_text.specs.declared.places.Position.{Position}
use Rattle.lam_text.specs.Positions.{offset_of}
use Rattle.lam_session.specs.Documents.{OpenDocuments}
use Rattle.lam_session.specs.declared.questions.Question.{Question}
use Rattle.lam_session.specs.declared.questions.Question.TheVariants.{Rename}

-- A document position as the client names it: a URI and a position.
pub record PlaceAsked : Type 0 where
  pub uri : List ℕ
  pub position : Position

-- the document position, if both of its parts are given
abbrev pub place_of : Option Position → Option (List ℕ) → Option PlaceAsked
place_of (Some position) (Some uri) = Some (record { uri = uri; position = position })
place_of _ _ = None

-- the new name in the params, if there is one
abbrev pub given_name : Data → Option (List ℕ)
given_name params = text_at (codes "newName") params

-- The params have what the question needs besides a position and a URI: a rename needs a new name.
abbrev pub has_rest : Question → Data → Bool
has_rest Rename params = is_some (given_name params)
has_rest _ params = true

-- the document position in the params; `None` if they lack what the question needs
abbrev pub asked_place : Question → Data → Option PlaceAsked
asked_place question params = if has_rest question params then place_of (asked_position params) (named_uri params) else None

-- The subject of a question: an offset in the current text of the document with this URI, the encoding of columns, the dialect, and the params.
pub record Asked : Type 0 where
  pub encoding : Encoding
  pub dialect : Dialect
  pub params : Data
  pub uri : List ℕ
  pub text : List ℕ
  pub offset : ℕ

-- the subject of a question with these params, at this document position in this text
abbrev pub asked_at : OpenDocuments → Data → PlaceAsked → List ℕ → Asked
asked_at held params place text = record {
  encoding = held.encoding;
  dialect = held.dialect;
  params = params;
  uri = place.uri;
  text = text;
  offset = offset_of held.encoding text place.position;
}
