-- Results as lines of JSON, in the shapes that the language server sends to a client with a position encoding.
use Rattle.std.specs.Prelude.{◌≡◌, ℕ, List, [], ◌∷◌, ◌++◌, Option, Some, None, codes, length}
use Rattle.serde_json.specs.Data.{Data, string, array, object, member, no_members}
use Rattle.serde_json.specs.Written.{compact_text}
use Rattle.lam_rules.specs.Texts.{Text}
use Rattle.lam_rules.specs.declared.rules.Dialect.{Dialect}
use Rattle.lam_text.specs.declared.places.Position.{Position}
use Rattle.lam_text.specs.declared.units.Encoding.{Encoding}
use Rattle.lam_query.specs.Derivations.{Derivation}
use Rattle.lam_query.specs.Faults.{Fault}
use Rattle.lam_query.specs.TextFaults.{AreFaults}
use Rattle.lam_session.specs.Derivations.{derivation_value}
use Rattle.lam_session.specs.Diagnostics.{diagnostics}
use Rattle.lam_check.specs.Drawings.{IsDerivedAt}

-- a value on a line of its own
abbrev pub json_line : Data → Text
json_line value = compact_text value ++ 10 ∷ []

-- the diagnostics of a file
abbrev pub faults_value : Encoding → (name : Text) → (text : List ℕ) → List Fault → Data
faults_value encoding name text faults = object (member (codes "diagnostics") (array (diagnostics encoding text faults)) (member (codes "file") (string name) no_members))

-- The line has exactly the diagnostics of the text, in order, and this is their number.
pub record IsFaultsLine (encoding : Encoding) (name : Text) (text : List ℕ) (d : Dialect) (written : Text) (count : ℕ) : Type 0 where
  pub faults : List Fault
  pub are_faults : AreFaults text faults d
  pub shown : written ≡ json_line (faults_value encoding name text faults)
  pub counted : count ≡ length faults

-- the derivation in a file
abbrev pub why_value : Encoding → (name : Text) → (text : List ℕ) → Derivation → Data
why_value encoding name text derived = object (member (codes "derivation") (derivation_value encoding text (Some derived)) (member (codes "file") (string name) no_members))

-- The line has a derivation of the innermost term around a position, whose column counts characters.
pub record IsWhyLine (encoding : Encoding) (name : Text) (text : List ℕ) (place : Position) (written : Text) (d : Dialect) : Type 0 where
  pub derived : Derivation
  pub right : IsDerivedAt text place (Some derived) d
  pub shown : written ≡ json_line (why_value encoding name text derived)

-- such a line; `None` where no type is shown, or the text has no such position
abbrev pub IsWhyAt : Encoding → (name : Text) → (text : List ℕ) → Position → Option Text → Dialect → Type 0
IsWhyAt encoding name text place (Some written) d = IsWhyLine encoding name text place written d
IsWhyAt encoding name text place None d = IsDerivedAt text place None d
