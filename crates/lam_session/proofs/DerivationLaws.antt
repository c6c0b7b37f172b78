-- What holds of the replies to a request for a derivation.
use Rattle.std.proofs.Common.{◌≡◌, ◌⊎◌, inl, inr, ℕ, List, false, Option, None, Some, refl, sym, subst, ◌∙◌}
use Rattle.serde_json.specs.Data.{Data}
use Rattle.serde_json.specs.Written.{has_float}
use Rattle.lam_rpc.specs.Reply.{result_reply}
use Rattle.lam_rules.specs.declared.rules.Dialect.{Dialect}
use Rattle.lam_text.specs.declared.units.Encoding.{Encoding}
use Rattle.lam_query.specs.Derivations.{Derivation, IsDerivedIn}
use Rattle.lam_query.proofs.OneAnswer.{one_hover}
use Rattle.lam_query.proofs.SomeAnswers.{some_derivation, shown_of_derived, nothing_derived}
use Rattle.lam_session.specs.Derivations.{derivation_value, IsDerivationReply, GivesDerivation}
use Rattle.lam_session.proofs.Floatless.{derivation_floatless}
use Rattle.lam_session.proofs.ReplyLemmas.{HasNoMethod, result_plain, result_has_no_method}

-- ---- a derivation is given exactly where a type is shown

clash : (text : List ℕ) (offset : ℕ) (derived : Derivation) (d : Dialect) → IsDerivedIn text offset None d → IsDerivedIn text offset (Some derived) d → ⊥
clash text offset derived d none some =
    let shown = shown_of_derived text offset derived d some in
    let same : None ≡ Some shown.0 = one_hover text offset None (Some shown.0) d (nothing_derived text offset d none) shown.1 in cc

module _ (encoding : Encoding) (d : Dialect) (text : List ℕ) (offset : ℕ) (id : Data) where
  -- a reply to this request
  abbrev Shows : Data → Type 0
  Shows reply = IsDerivationReply encoding d text offset id reply

  -- one that gives a derivation
  abbrev Gives : Data → Type 0
  Gives reply = GivesDerivation encoding d text offset id reply

  pub some_reply : (reply : Data) × Shows reply
  some_reply = let found = some_derivation text offset d in (result_reply id (derivation_value encoding text found.0), record { derived = found.0; right = found.1; replied = refl })

  alike : (a b : Option Derivation) (one other : Data) → IsDerivedIn text offset a d → IsDerivedIn text offset b d
      → one ≡ result_reply id (derivation_value encoding text a) → other ≡ result_reply id (derivation_value encoding text b) → (one ≡ other) ⊎ (Gives one × Gives other)
  alike None None one other ra rb va vb = inl (va ∙ sym vb)
  alike None (Some derived) one other ra rb va vb = absurd (clash text offset derived d ra rb)
  alike (Some derived) None one other ra rb va vb = absurd (clash text offset derived d rb ra)
  alike (Some first) (Some second) one other ra rb va vb = inr (record { derivation = first; right = ra; replied = va }, record { derivation = second; right = rb; replied = vb })

  pub alike_replies : (one other : Data) → Shows one → Shows other → (one ≡ other) ⊎ (Gives one × Gives other)
  alike_replies one other h k = alike h.derived k.derived one other h.right k.right h.replied k.replied

  pub plain : (reply : Data) → has_float id ≡ false → Shows reply → has_float reply ≡ false
  plain reply no_float h = subst (λ (r : Data). has_float r ≡ false) (sym h.replied) (result_plain id (derivation_value encoding text h.derived) no_float (derivation_floatless encoding text h.derived))

  pub no_method : (reply : Data) → Shows reply → HasNoMethod reply
  no_method reply h = subst HasNoMethod (sym h.replied) (result_has_no_method id (derivation_value encoding text h.derived))
