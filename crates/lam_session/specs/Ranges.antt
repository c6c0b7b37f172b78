-- Positions in a text as JSON values (LSP 3.17, "Position", "Range" and "Location").
use Rattle.std.specs.Prelude.{ℕ, List, codes}
use Rattle.serde_json.specs.Data.{Data, number, unsigned, string, object, member, no_members}
use Rattle.lam_token.specs.declared.span.Span.{Span}
use Rattle.lam_text.specs.declared.units.Encoding.{Encoding}
use Rattle.lam_text.specs.declared.places.Position.{Position}
use Rattle.lam_text.specs.declared.places.Range.{Range}
use Rattle.lam_text.specs.Positions.{position_of}

-- a line and a column, both zero-based
abbrev pub position_value : Position → Data
position_value p =
    object (member (codes "character") (number (unsigned p.character)) (member (codes "line") (number (unsigned p.line)) no_members))

-- the range of a span of the text, in the client's encoding
abbrev pub range_of : Encoding → List ℕ → Span → Range
range_of encoding text span = record { start = position_of encoding text span.start; end = position_of encoding text span.end }

-- a range as a value
abbrev pub written_range : Range → Data
written_range range =
    object (member (codes "end") (position_value range.end)
    (member (codes "start") (position_value range.start) no_members))

-- the range of a span as a value
abbrev pub range_value : Encoding → List ℕ → Span → Data
range_value encoding text span = written_range (range_of encoding text span)

-- the location of a range in the document with this URI
abbrev pub location_at : (uri : List ℕ) → Range → Data
location_at uri range = object (member (codes "range") (written_range range) (member (codes "uri") (string uri) no_members))

-- the location of a span of the text
abbrev pub location_value : Encoding → List ℕ → (uri : List ℕ) → Span → Data
location_value encoding text uri span = location_at uri (range_of encoding text span)
