use Rattle.std.proofs.Common.{◌≡◌, true, ◌∙◌, ap, sym, subst}
use Rattle.lam_rules.specs.TypeViews.{typ_of}
use Rattle.lam_rules.specs.Subtyping.{IsRuleOf}
use Rattle.lam_rules.specs.declared.rules.SubRule.{SubRule}
use Rattle.lam_rules.proofs.TypeShapes.{typ_of-Top}
use Rattle.lam_rules.proofs.ByShape.{below_wf}
use Rattle.lam_sub.proofs.ByVariant.{only_bool_and_nat}
use Rattle.lam_sub.proofs.Steps.{concluded}
use Rattle.lam_sub.proofs.UnchangedRecords.{no_arrow_without_parts, no_record_without_parts}
use Rattle.lam_sub.proofs.proving.prove_without_parts.Goals as goal

pub returns-then-same : goal.returns-then-same
returns-then-same c = λ d below.
    concluded SubRule.Refl (typ_of c.args.lower.now) (typ_of c.args.upper.now) c.new.result.items d c.conclude.result c.new.ensures.items
    (below_wf _ _ _ below) tt (c.same.ensures.0 c.if-same.true) c.conclude.ensures

pub returns-in-Top : goal.returns-in-Top
returns-in-Top c = λ d below.
    concluded SubRule.Top (typ_of c.args.lower.now) (typ_of c.args.upper.now) c.new-in-Top.result.items d c.conclude-in-Top.result c.new-in-Top.ensures.items
    (below_wf _ _ _ below) tt (ap typ_of c.in-Top.is ∙ typ_of-Top) c.conclude-in-Top.ensures

pub returns-in_default : goal.returns-in_default
returns-in_default c = λ d below.
    let are = only_bool_and_nat c.args.lower.now c.args.upper.now d c.in_default.not-Top (λ x y is. no_arrow_without_parts c.args.upper.now x y c.requires is)
    (λ fs is. no_record_without_parts c.args.upper.now fs c.requires is)
    (λ e. let s : c.same.result ≡ true = c.same.ensures.1 e in cc) below in
    concluded SubRule.BoolNat (typ_of c.args.lower.now) (typ_of c.args.upper.now) c.new-in_default.result.items d c.conclude-in_default.result c.new-in_default.ensures.items
    (below_wf _ _ _ below) (subst (λ d. IsRuleOf SubRule.BoolNat d) (sym are.2) tt) (are.0, are.1) c.conclude-in_default.ensures
