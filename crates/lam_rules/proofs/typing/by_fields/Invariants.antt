use Rattle.std.proofs.Common.{◌≡◌, ◌↔◌, None, drop, length}
use Rattle.lam_rules.specs.Types.{record_of}
use Rattle.lam_rules.specs.TypeViews.{fields_of}
use Rattle.lam_rules.specs.Terms.{record_term}
use Rattle.lam_rules.specs.TermViews.{terms_of}
use Rattle.lam_rules.specs.Typing.{Context}
use Rattle.lam_rules.specs.TypingSteps.{FitsRule}
use Rattle.lam_rules.specs.TypingViews.{types_concluded}
use Rattle.lam_rules.specs.declared.rules.TypeRule.{TypeRule}
use Rattle.lam_rules.proofs.typing.by_fields.Given as goal

abbrev pub invariant-loop-i : goal.invariant-loop-i
invariant-loop-i l =
    (length l.terms ≡ length l.fields)
    × (length l.terms ≡ length l.premises)
    × ((g : Context) → (FitsRule TypeRule.Rcd None g (record_term (terms_of l.terms)) (record_of (fields_of l.fields)) (types_concluded l.premises)
    ↔ FitsRule TypeRule.Rcd None g (record_term (terms_of (drop l.i l.terms))) (record_of (fields_of (drop l.i l.fields))) (types_concluded (drop l.i l.premises))))
