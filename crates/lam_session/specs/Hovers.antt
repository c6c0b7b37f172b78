-- Replies to hover requests (LSP 3.17, "Hover").
use Rattle.std.specs.Prelude.{◌≡◌, ℕ, List, codes, Option, None, Some}
use Rattle.serde_json.specs.Data.{Data, null, string, object, member, no_members}
use Rattle.lam_rpc.specs.Reply.{result_reply}
use Rattle.lam_rules.specs.declared.rules.Dialect.{Dialect}
use Rattle.lam_text.specs.declared.units.Encoding.{Encoding}
use Rattle.lam_query.specs.Hovers.{Shown, IsShownIn}
use Rattle.lam_session.specs.Ranges.{range_value}

-- a text that the client shows verbatim (LSP 3.17, MarkupKind plaintext)
abbrev pub plain_contents : List ℕ → Data
plain_contents text = object (member (codes "kind") (string (codes "plaintext")) (member (codes "value") (string text) no_members))

-- the text of the type and the range of its term; null if there is none
abbrev pub hover_value : Encoding → List ℕ → Option Shown → Data
hover_value encoding text None = null
hover_value encoding text (Some shown) =
    object (member (codes "contents") (plain_contents shown.text) (member (codes "range") (range_value encoding text shown.span) no_members))

-- The reply shows the least type of the innermost term around the offset.
pub record IsHoverReply (encoding : Encoding) (d : Dialect) (text : List ℕ) (offset : ℕ) (id reply : Data) : Type 0 where
  pub shown : Option Shown
  pub right : IsShownIn text offset shown d
  pub replied : reply ≡ result_reply id (hover_value encoding text shown)
