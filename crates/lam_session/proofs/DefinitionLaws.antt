-- What holds of the replies to a request for a definition.
use Rattle.std.proofs.Common.{◌≡◌, ℕ, List, false, Option, None, Some, refl, sym, ap, subst, ◌∙◌}
use Rattle.serde_json.specs.Data.{Data}
use Rattle.serde_json.specs.Written.{has_float}
use Rattle.lam_rpc.specs.Reply.{result_reply}
use Rattle.lam_token.specs.declared.span.Span.{Span}
use Rattle.lam_text.specs.declared.units.Encoding.{Encoding}
use Rattle.lam_query.proofs.DefinitionLaws.{some_definition, one_definition}
use Rattle.lam_session.specs.Definitions.{definition_value, IsDefinitionReply}
use Rattle.lam_session.proofs.ReplyLemmas.{HasNoMethod, result_plain, result_has_no_method}

value_plain : (encoding : Encoding) (text uri : List ℕ) (found : Option Span) → has_float (definition_value encoding text uri found) ≡ false
value_plain encoding text uri None = refl
value_plain encoding text uri (Some span) = refl

module _ (encoding : Encoding) (uri text : List ℕ) (offset : ℕ) (id : Data) where
  -- a reply to this request
  abbrev Tells : Data → Type 0
  Tells reply = IsDefinitionReply encoding uri text offset id reply

  pub some_reply : (reply : Data) × Tells reply
  some_reply = let found = some_definition text offset in (result_reply id (definition_value encoding text uri found.0), record { found = found.0; right = found.1; replied = refl })

  pub one_reply : (one other : Data) → Tells one → Tells other → one ≡ other
  one_reply one other h k =
      let found = one_definition text offset h.found k.found h.right k.right in
      h.replied ∙ ap (λ s. result_reply id (definition_value encoding text uri s)) found ∙ sym k.replied

  pub plain : (reply : Data) → has_float id ≡ false → Tells reply → has_float reply ≡ false
  plain reply no_float h = subst (λ (r : Data). has_float r ≡ false) (sym h.replied) (result_plain id (definition_value encoding text uri h.found) no_float (value_plain encoding text uri h.found))

  pub no_method : (reply : Data) → Tells reply → HasNoMethod reply
  no_method reply h = subst HasNoMethod (sym h.replied) (result_has_no_method id (definition_value encoding text uri h.found))
