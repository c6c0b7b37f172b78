use Rattle.std.proofs.Common.{◌↔◌, ◌∙◌, IsTrue, false, sym, subst, rules}
use Rattle.lam_rules.specs.Types.{nat}
use Rattle.lam_rules.specs.Numbers.{shaped}
use Rattle.lam_rules.specs.Subtyping.{IsBelow}
use Rattle.lam_rules.proofs.Composing.{below_refl, below_top}
use Rattle.lam_sub.proofs.ByVariant.{true_here}
use Rattle.lam_sub.proofs.TableVerdicts.{shape_no_bool, shape_no_nat, shape_no_unit, bool_nat_iff}
use Rattle.lam_sub.proofs.numbers.is_below_constant.Goals as goal

pub returns-in-Top : goal.returns-in-Top
returns-in-Top c = λ ts wf. true_here (subst (λ s. IsBelow (shaped ts c.args.lower.now) (shaped ts s) c.args.dialect) (sym c.in-Top.is) (below_top (shaped ts c.args.lower.now) c.args.dialect wf))

pub returns-in-Bool-lower : goal.returns-in-Bool-lower
returns-in-Bool-lower c = λ ts wf.
    true_here (subst (λ s. IsBelow (shaped ts c.args.lower.now) (shaped ts s) c.args.dialect) (c.in-Bool-lower.is ∙ sym c.in-Bool.is) (below_refl (shaped ts c.args.lower.now) c.args.dialect wf))

pub returns-in-Nat-lower : goal.returns-in-Nat-lower
returns-in-Nat-lower c = λ ts wf.
    true_here (subst (λ s. IsBelow (shaped ts c.args.lower.now) (shaped ts s) c.args.dialect) (c.in-Nat-lower.is ∙ sym c.in-Nat.is) (below_refl (shaped ts c.args.lower.now) c.args.dialect wf))

pub returns-in-Unit-lower : goal.returns-in-Unit-lower
returns-in-Unit-lower c = λ ts wf.
    true_here (subst (λ s. IsBelow (shaped ts c.args.lower.now) (shaped ts s) c.args.dialect) (c.in-Unit-lower.is ∙ sym c.in-Unit.is) (below_refl (shaped ts c.args.lower.now) c.args.dialect wf))

pub returns-in_default-lower : goal.returns-in_default-lower
returns-in_default-lower c = λ ts wf.
    subst (λ s. IsTrue false ↔ IsBelow (shaped ts c.args.lower.now) (shaped ts s) c.args.dialect) (sym c.in-Bool.is) (shape_no_bool ts c.args.lower.now c.args.dialect c.in_default-lower.not-Bool)

pub returns-in_default-lower-2 : goal.returns-in_default-lower-2
returns-in_default-lower-2 c = λ ts wf.
    subst (λ s. IsTrue false ↔ IsBelow (shaped ts c.args.lower.now) (shaped ts s) c.args.dialect) (sym c.in-Nat.is) (shape_no_nat ts c.args.lower.now c.args.dialect c.in_default-lower-2.not-Nat c.in_default-lower-2.not-Bool)

pub returns-in_default-lower-3 : goal.returns-in_default-lower-3
returns-in_default-lower-3 c = λ ts wf.
    subst (λ s. IsTrue false ↔ IsBelow (shaped ts c.args.lower.now) (shaped ts s) c.args.dialect) (sym c.in-Unit.is) (shape_no_unit ts c.args.lower.now c.args.dialect c.in_default-lower-3.not-Unit)

pub returns-in-Bool-lower-2 : goal.returns-in-Bool-lower-2
returns-in-Bool-lower-2 c = λ ts wf.
    subst (λ s. IsTrue c.eq.result ↔ IsBelow (shaped ts c.args.lower.now) (shaped ts s) c.args.dialect) (sym c.in-Nat.is)
    (subst (λ s. IsTrue c.eq.result ↔ IsBelow (shaped ts s) nat c.args.dialect) (sym c.in-Bool-lower-2.is) (bool_nat_iff c.args.dialect c.eq.result (search rules)))
