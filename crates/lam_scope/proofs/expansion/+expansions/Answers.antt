use Rattle.std.proofs.Common.{arith, ap, sym, ◌∙◌}
use Rattle.lam_rules.specs.TermViews.{written_of}
use Rattle.std.proofs.lemmas.Grind.{common_steps}
use Rattle.lam_scope.proofs.WrittenTypes.{expanded_more, expanded_all}
use Rattle.lam_scope.proofs.expansion.+expansions.Goals as goal

pub expand_fields-loop-i-preserved : goal.expand_fields-loop-i-preserved
expand_fields-loop-i-preserved t c =
    expanded_more _ c.loop-i.items.items c.push.new.self.items c.args.fields.now c.loop-i.i c.index-fields-i.result c.in_ok-label.label c.in-Some.ty _
    c.loop-i-test.true c.index-fields-i.is (grind (arith, common_steps)) c.in_ok-push.ensures.items (c.in_ok-label.ensures.ok ∙ c.as_str-in-loop-i.ensures) (ap written_of (sym c.in-Some.is) ∙ c.in_ok-ty.ensures)
    c.loop-i.invariant

pub expand_fields-returns : goal.expand_fields-returns
expand_fields-returns t c = expanded_all _ c.loop-i.items.items c.args.fields.now c.loop-i.i _ c.loop-i-test.false c.loop-i.invariant
