-- Replies to definition requests (LSP 3.17, "Goto Definition Request").
use Rattle.std.specs.Prelude.{◌≡◌, ℕ, List, Option, None, Some}
use Rattle.serde_json.specs.Data.{Data, null}
use Rattle.lam_rpc.specs.Reply.{result_reply}
use Rattle.lam_token.specs.declared.span.Span.{Span}
use Rattle.lam_text.specs.declared.units.Encoding.{Encoding}
use Rattle.lam_query.specs.Definitions.{IsDefinitionIn}
use Rattle.lam_session.specs.Ranges.{location_value}

-- the location of the binder; null if there is none
abbrev pub definition_value : Encoding → List ℕ → (uri : List ℕ) → Option Span → Data
definition_value encoding text uri None = null
definition_value encoding text uri (Some span) = location_value encoding text uri span

-- The reply gives the binder of the name at the offset.
pub record IsDefinitionReply (encoding : Encoding) (uri text : List ℕ) (offset : ℕ) (id reply : Data) : Type 0 where
  pub found : Option Span
  pub right : IsDefinitionIn text offset found
  pub replied : reply ≡ result_reply id (definition_value encoding text uri found)
