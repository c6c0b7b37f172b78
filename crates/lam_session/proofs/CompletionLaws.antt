-- What holds of the replies to a request for completion.
use Rattle.std.proofs.Common.{◌≡◌, ℕ, List, [], ◌∷◌, map, Bool, false, Option, None, Some, refl, sym, ap, subst, ◌∙◌}
use Rattle.std.specs.Prelude.{codes}
use Rattle.serde_json.specs.Data.{Data, array, number, unsigned, string, object, member, no_members, put}
use Rattle.serde_json.specs.View.{items_of}
use Rattle.serde_json.specs.Written.{has_float, items_have_float}
use Rattle.lam_rpc.specs.Reply.{result_reply}
use Rattle.lam_rules.specs.declared.rules.Dialect.{Dialect}
use Rattle.lam_query.specs.Completions.{Item}
use Rattle.lam_query.proofs.CompletionLaws.{some_completions, one_list_of_completions}
use Rattle.lam_session.specs.Completions.{item_kind, item_members, item_value, IsCompletionReply}
use Rattle.lam_session.proofs.ReplyLemmas.{HasNoMethod, result_plain, result_has_no_method}

-- a completion item is built from its detail, if it has one, its kind and its label
members_put : (detail : Option (List ℕ)) (kind label : Data)
    → put (codes "label") label (put (codes "kind") kind (item_members detail no_members)) ≡ item_members detail (member (codes "kind") kind (member (codes "label") label no_members))
members_put None kind label = refl
members_put (Some detail) kind label = refl

pub item_built : (i : Item) (label : List ℕ) → label ≡ i.label
    → object (put (codes "label") (string label) (put (codes "kind") (number (unsigned (item_kind i.is_field))) (item_members i.detail no_members))) ≡ item_value i
item_built i label same =
    let kind = number (unsigned (item_kind i.is_field)) in
    ap object (members_put i.detail kind (string label)) ∙ ap (λ l. object (item_members i.detail (member (codes "kind") kind (member (codes "label") (string l) no_members)))) same

abbrev listed : List Item → Data
listed items = array (items_of (map item_value items))

item_plain : (label : List ℕ) (detail : Option (List ℕ)) (is_field : Bool) → has_float (item_value (record { label = label; detail = detail; is_field = is_field })) ≡ false
item_plain label None is_field = refl
item_plain label (Some detail) is_field = refl

items_plain : (items : List Item) → items_have_float (items_of (map item_value items)) ≡ false
items_plain [] = refl
items_plain (i ∷ items) = rw (item_plain i.label i.detail i.is_field) (items_plain items)

module _ (d : Dialect) (text : List ℕ) (offset : ℕ) (id : Data) where
  -- a reply to this request
  abbrev Lists : Data → Type 0
  Lists reply = IsCompletionReply d text offset id reply

  pub some_reply : (reply : Data) × Lists reply
  some_reply = let found = some_completions text offset d in (result_reply id (listed found.0), record { items = found.0; right = found.1; replied = refl })

  pub one_reply : (one other : Data) → Lists one → Lists other → one ≡ other
  one_reply one other h k =
      let items = one_list_of_completions text offset h.items k.items d h.right k.right in
      h.replied ∙ ap (λ s. result_reply id (listed s)) items ∙ sym k.replied

  pub plain : (reply : Data) → has_float id ≡ false → Lists reply → has_float reply ≡ false
  plain reply no_float h = subst (λ (r : Data). has_float r ≡ false) (sym h.replied) (result_plain id (listed h.items) no_float (items_plain h.items))

  pub no_method : (reply : Data) → Lists reply → HasNoMethod reply
  no_method reply h = subst HasNoMethod (sym h.replied) (result_has_no_method id (listed h.items))
