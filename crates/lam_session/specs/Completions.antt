-- Replies to completion requests (LSP 3.17, "Completion Request").
use Rattle.std.specs.Prelude.{◌≡◌, ℕ, List, map, codes, Bool, true, false, Option, None, Some}
use Rattle.serde_json.specs.Data.{Data, array, number, unsigned, string, object, Members, member, no_members}
use Rattle.serde_json.specs.View.{items_of}
use Rattle.lam_rpc.specs.Reply.{result_reply}
use Rattle.lam_rules.specs.declared.rules.Dialect.{Dialect}
use Rattle.lam_query.specs.Completions.{Item, AreCompletions}

-- the CompletionItemKind: Field for a label, otherwise Variable
abbrev pub item_kind : (is_field : Bool) → ℕ
item_kind true = 5
item_kind false = 6

-- the members of a completion item: its detail, if it has one, then its kind and its label
abbrev pub item_members : Option (List ℕ) → Members → Members
item_members None others = others
item_members (Some detail) others = member (codes "detail") (string detail) others

-- a completion item
abbrev pub item_value : Item → Data
item_value i =
    object (item_members i.detail (member (codes "kind") (number (unsigned (item_kind i.is_field))) (member (codes "label") (string i.label) no_members)))

-- The reply lists the completions at the offset.
pub record IsCompletionReply (d : Dialect) (text : List ℕ) (offset : ℕ) (id reply : Data) : Type 0 where
  pub items : List Item
  pub right : AreCompletions text offset items d
  pub replied : reply ≡ result_reply id (array (items_of (map item_value items)))
