use Rattle.std.proofs.Common.{refl, arith}
use Rattle.std.proofs.lemmas.Grind.{common_steps}
use Rattle.std.proofs.lemmas.Slice.Eq.{bytes_eq-Decides}
use Rattle.lam_rules.proofs.TermShapes.{terms_of-drop}
use Rattle.lam_rules.proofs.TypeShapes.{fields_of-drop}
use Rattle.lam_rules.proofs.TypingShapes.{types_concluded-drop}
use Rattle.lam_rules.proofs.RulesHere.{here_rcd}
use Rattle.lam_rules.proofs.RuleForms.{rcd_not_fields, rcd_not_premises}
use Rattle.lam_rules.proofs.typing.by_fields.Goals as goal

pub returns-then-terms-fields : goal.returns-then-terms-fields
returns-then-terms-fields c = λ g. grind (arith, rcd_not_fields, rcd_not_premises)

pub returns-then-terms-premises : goal.returns-then-terms-premises
returns-then-terms-premises c = λ g. grind (arith, rcd_not_fields, rcd_not_premises)

pub returns-then-ne : goal.returns-then-ne
returns-then-ne c = λ g. grind (arith, types_concluded-drop, terms_of-drop, fields_of-drop, bytes_eq-Decides)

pub returns-then-not-same : goal.returns-then-not-same
returns-then-not-same c = λ g. grind (arith, types_concluded-drop, terms_of-drop, fields_of-drop)

pub loop-i-preserved : goal.loop-i-preserved
loop-i-preserved c = (
  c.loop-i.invariant.0,
  c.loop-i.invariant.1,
  λ g.
      let here = here_rcd _ _ _ _ _ _ _ (omega (arith, c.loop-i-test.true, c.loop-i.invariant.1)) (omega (arith, c.loop-i-test.true, c.loop-i.invariant.0, c.loop-i.invariant.1)) c.loop-i-test.true c.index-terms-i.is c.index-fields-i.is c.index-premises-i.is g in (
        λ all. (here.0 ((c.loop-i.invariant.2 g).0 all)).2,
        λ rest. (c.loop-i.invariant.2 g).1 (here.1 (grind (arith, bytes_eq-Decides), c.if-not-same.ensures.0 refl, rest)),
      ),
)

pub returns : goal.returns
returns c = grind (arith, common_steps)
