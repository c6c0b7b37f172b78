-- The fields of a message's params and the shape that each needs (LSP 3.17, "Basic JSON Structures" and "Text Document Synchronization"). `None` means that the field is
-- missing or has another shape.
use Rattle.std.specs.Prelude.{ℕ, List, [], ◌∷◌, codes, Option, Some, None, option_map, option_and_then}
use Rattle.serde_json.specs.Data.{Data, null, Items, no_items, item}
use Rattle.serde_json.specs.Find.{get, as_number, as_u64, as_str, as_array}
use Rattle.lam_text.specs.declared.places.Position.{Position}
use Rattle.lam_text.specs.declared.places.Range.{Range}
use Rattle.lam_text.specs.Edits.{Edit}

-- an integer from 0 to 2^64 - 1
abbrev pub number_at : List ℕ → Data → Option ℕ
number_at name d = option_and_then as_u64 (option_and_then as_number (get name d))

-- a string
abbrev pub text_at : List ℕ → Data → Option (List ℕ)
text_at name d = option_and_then as_str (get name d)

-- `{"line": L, "character": C}`
abbrev pub given_position : Data → Option Position
given_position d =
    option_and_then (λ line. option_map (λ character. record { line = line; character = character }) (number_at (codes "character") d))
    (number_at (codes "line") d)

-- a position in a member
abbrev pub position_at : List ℕ → Data → Option Position
position_at name d = option_and_then given_position (get name d)

-- `{"start": POSITION, "end": POSITION}`
abbrev pub given_range : Data → Option Range
given_range d =
    option_and_then (λ start. option_map (λ end. record { start = start; end = end }) (position_at (codes "end") d))
    (position_at (codes "start") d)

-- the position that a request is about
abbrev pub asked_position : Data → Option Position
asked_position params = position_at (codes "position") params

-- the URI of the document that the params name
abbrev pub named_uri : Data → Option (List ℕ)
named_uri params = option_and_then (text_at (codes "uri")) (get (codes "textDocument") params)

-- the range in a `range` member; null means the whole text
abbrev pub changed_range : Data → Option (Option Range)
changed_range null = Some None
changed_range d = option_map (λ range. Some range) (given_range d)

-- the range of a change; the whole text if it is missing
abbrev pub range_at : Option Data → Option (Option Range)
range_at None = Some None
range_at (Some d) = changed_range d

-- `{"text": TEXT, "range": RANGE}`, where the range is optional; `rangeLength` is ignored
abbrev pub change_of : Data → Option Edit
change_of d =
    option_and_then (λ text. option_map (λ range. record { range = range; text = text }) (range_at (get (codes "range") d)))
    (text_at (codes "text") d)

-- all the changes; `None` if one has another shape
abbrev pub changes_of : Items → Option (List Edit)
changes_of no_items = Some []
changes_of (item d ds) = option_and_then (λ edit. option_map (λ edits. edit ∷ edits) (changes_of ds)) (change_of d)

-- the changes of a document
abbrev pub listed_changes : Data → Option (List Edit)
listed_changes params = option_and_then changes_of (option_and_then as_array (get (codes "contentChanges") params))
