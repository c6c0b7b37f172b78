-- What holds of the replies to a request for references.
use Rattle.std.proofs.Common.{◌≡◌, ℕ, List, [], ◌∷◌, map, Bool, false, Option, None, Some, refl, sym, ap, subst, ◌∙◌}
use Rattle.serde_json.specs.Data.{Data}
use Rattle.serde_json.specs.View.{items_of}
use Rattle.serde_json.specs.Written.{has_float, items_have_float}
use Rattle.lam_rpc.specs.Reply.{result_reply}
use Rattle.lam_token.specs.declared.span.Span.{Span}
use Rattle.lam_text.specs.declared.units.Encoding.{Encoding}
use Rattle.lam_query.proofs.DefinitionLaws.{some_references, one_list_of_references}
use Rattle.lam_session.specs.Ranges.{location_value}
use Rattle.lam_session.specs.References.{references_value, IsReferencesReply}
use Rattle.lam_session.proofs.ReplyLemmas.{HasNoMethod, result_plain, result_has_no_method}

locations_plain : (encoding : Encoding) (text uri : List ℕ) (spans : List Span) → items_have_float (items_of (map (location_value encoding text uri) spans)) ≡ false
locations_plain encoding text uri [] = refl
locations_plain encoding text uri (s ∷ ss) = locations_plain encoding text uri ss

value_plain : (encoding : Encoding) (text uri : List ℕ) (found : Option (List Span)) → has_float (references_value encoding text uri found) ≡ false
value_plain encoding text uri None = refl
value_plain encoding text uri (Some spans) = locations_plain encoding text uri spans

module _ (encoding : Encoding) (uri text : List ℕ) (offset : ℕ) (declared : Bool) (id : Data) where
  -- a reply to this request
  abbrev Tells : Data → Type 0
  Tells reply = IsReferencesReply encoding uri text offset declared id reply

  pub some_reply : (reply : Data) × Tells reply
  some_reply = let found = some_references text offset declared in (result_reply id (references_value encoding text uri found.0), record { found = found.0; right = found.1; replied = refl })

  pub one_reply : (one other : Data) → Tells one → Tells other → one ≡ other
  one_reply one other h k =
      let found = one_list_of_references text offset declared h.found k.found h.right k.right in
      h.replied ∙ ap (λ s. result_reply id (references_value encoding text uri s)) found ∙ sym k.replied

  pub plain : (reply : Data) → has_float id ≡ false → Tells reply → has_float reply ≡ false
  plain reply no_float h = subst (λ (r : Data). has_float r ≡ false) (sym h.replied) (result_plain id (references_value encoding text uri h.found) no_float (value_plain encoding text uri h.found))

  pub no_method : (reply : Data) → Tells reply → HasNoMethod reply
  no_method reply h = subst HasNoMethod (sym h.replied) (result_has_no_method id (references_value encoding text uri h.found))
