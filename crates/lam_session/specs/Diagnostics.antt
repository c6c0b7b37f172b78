-- Diagnostics as they are published (LSP 3.17, "Diagnostic").
use Rattle.std.specs.Prelude.{ℕ, List, [], ◌∷◌, codes, map, if◌then◌else◌}
use Rattle.std.specs.Str.{bytes_eq}
use Rattle.serde_json.specs.Data.{Data, number, unsigned, string, object, Items, member, no_members}
use Rattle.serde_json.specs.View.{items_of}
use Rattle.lam_text.specs.declared.places.Range.{Range}
use Rattle.lam_text.specs.declared.units.Encoding.{Encoding}
use Rattle.lam_query.specs.Faults.{Fault}
use Rattle.lam_session.specs.Ranges.{range_of, written_range}

-- the codes with their messages
abbrev pub messages : List (List ℕ × List ℕ)
messages =
    (codes "B1", codes "character not allowed")
    ∷ (codes "B2", codes "comment not closed")
    ∷ (codes "P1", codes "unexpected token")
    ∷ (codes "P2", codes "command ends too early")
    ∷ (codes "L1", codes "type of more than 4096 nodes")
    ∷ (codes "L2", codes "command of more than 2000 tokens")
    ∷ (codes "Y1", codes "unbound type name")
    ∷ (codes "Y2", codes "label used twice in a record type")
    ∷ (codes "E1", codes "unbound name")
    ∷ (codes "E2", codes "not a function")
    ∷ (codes "E3", codes "argument does not fit the parameter")
    ∷ (codes "E4", codes "no such field")
    ∷ (codes "E5", codes "condition is not Bool")
    ∷ (codes "E6", codes "operand is not Nat")
    ∷ (codes "E7", codes "term does not have the written type")
    ∷ (codes "E8", codes "fix needs a function whose result fits its parameter")
    ∷ (codes "E9", codes "label used twice in a record")
    ∷ []

-- the message for a code in this list; empty if the code is not in it
abbrev pub message_beside : List ℕ → List (List ℕ × List ℕ) → List ℕ
message_beside code [] = []
message_beside code (m ∷ ms) = if bytes_eq code m.0 then m.1 else message_beside code ms

-- the message for a code
abbrev pub message_of : List ℕ → List ℕ
message_of code = message_beside code messages

-- a diagnostic with this code and this range, always of severity 1 (Error)
abbrev pub diagnostic_at : List ℕ → Range → Data
diagnostic_at code range =
    object (member (codes "code") (string code)
    (member (codes "message") (string (message_of code))
    (member (codes "range") (written_range range)
    (member (codes "severity") (number (unsigned 1))
    (member (codes "source") (string (codes "fullsub")) no_members)))))

-- a diagnostic of a text
abbrev pub diagnostic : Encoding → List ℕ → Fault → Data
diagnostic encoding text fault = diagnostic_at fault.code (range_of encoding text fault.span)

-- the diagnostics of a text, in order
abbrev pub diagnostics : Encoding → List ℕ → List Fault → Items
diagnostics encoding text faults = items_of (map (diagnostic encoding text) faults)
