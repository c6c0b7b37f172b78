-- Replies to reference requests (LSP 3.17, "Find References Request").
use Rattle.std.specs.Prelude.{◌≡◌, ℕ, List, map, codes, Bool, false, Option, None, Some, option_and_then, unwrap_or}
use Rattle.serde_json.specs.Data.{Data, null, array}
use Rattle.serde_json.specs.Find.{get, as_bool}
use Rattle.serde_json.specs.View.{items_of}
use Rattle.lam_rpc.specs.Reply.{result_reply}
use Rattle.lam_token.specs.declared.span.Span.{Span}
use Rattle.lam_text.specs.declared.units.Encoding.{Encoding}
use Rattle.lam_query.specs.Definitions.{AreReferencesIn}
use Rattle.lam_session.specs.Ranges.{location_value}

-- whether the params ask to include the declaration, if they say so
abbrev pub given_include_declaration : Data → Option Bool
given_include_declaration params = option_and_then as_bool (option_and_then (get (codes "includeDeclaration")) (get (codes "context") params))

-- whether the reply is to include the declaration; false unless the params say so
abbrev pub includes_declaration : Data → Bool
includes_declaration params = unwrap_or (given_include_declaration params) false

-- the references, in order; null if the name is unbound
abbrev pub references_value : Encoding → List ℕ → (uri : List ℕ) → Option (List Span) → Data
references_value encoding text uri None = null
references_value encoding text uri (Some spans) = array (items_of (map (location_value encoding text uri) spans))

-- The reply gives the references of the name at the offset, with or without its declaration.
pub record IsReferencesReply (encoding : Encoding) (uri text : List ℕ) (offset : ℕ) (declared : Bool) (id reply : Data) : Type 0 where
  pub found : Option (List Span)
  pub right : AreReferencesIn text offset declared found
  pub replied : reply ≡ result_reply id (references_value encoding text uri found)
