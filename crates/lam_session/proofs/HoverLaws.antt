-- What holds of the replies to a hover.
use Rattle.std.proofs.Common.{◌≡◌, ℕ, List, false, Option, None, Some, refl, sym, ap, subst, ◌∙◌}
use Rattle.serde_json.specs.Data.{Data}
use Rattle.serde_json.specs.Written.{has_float}
use Rattle.lam_rpc.specs.Reply.{result_reply}
use Rattle.lam_rules.specs.declared.rules.Dialect.{Dialect}
use Rattle.lam_text.specs.declared.units.Encoding.{Encoding}
use Rattle.lam_query.specs.Hovers.{Shown}
use Rattle.lam_query.proofs.OneAnswer.{one_hover}
use Rattle.lam_query.proofs.SomeAnswers.{some_hover}
use Rattle.lam_session.specs.Hovers.{hover_value, IsHoverReply}
use Rattle.lam_session.proofs.ReplyLemmas.{HasNoMethod, result_plain, result_has_no_method}

value_plain : (encoding : Encoding) (text : List ℕ) (shown : Option Shown) → has_float (hover_value encoding text shown) ≡ false
value_plain encoding text None = refl
value_plain encoding text (Some shown) = refl

module _ (encoding : Encoding) (d : Dialect) (text : List ℕ) (offset : ℕ) (id : Data) where
  -- a reply to this hover
  abbrev Shows : Data → Type 0
  Shows reply = IsHoverReply encoding d text offset id reply

  pub some_reply : (reply : Data) × Shows reply
  some_reply = let found = some_hover text offset d in (result_reply id (hover_value encoding text found.0), record { shown = found.0; right = found.1; replied = refl })

  pub one_reply : (one other : Data) → Shows one → Shows other → one ≡ other
  one_reply one other h k =
      let shown = one_hover text offset h.shown k.shown d h.right k.right in
      h.replied ∙ ap (λ s. result_reply id (hover_value encoding text s)) shown ∙ sym k.replied

  pub plain : (reply : Data) → has_float id ≡ false → Shows reply → has_float reply ≡ false
  plain reply no_float h = subst (λ (r : Data). has_float r ≡ false) (sym h.replied) (result_plain id (hover_value encoding text h.shown) no_float (value_plain encoding text h.shown))

  pub no_method : (reply : Data) → Shows reply → HasNoMethod reply
  no_method reply h = subst HasNoMethod (sym h.replied) (result_has_no_method id (hover_value encoding text h.shown))
