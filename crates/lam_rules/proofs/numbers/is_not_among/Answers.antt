use Rattle.std.proofs.Common.{◌∙◌, sym, arith}
use Rattle.std.proofs.lemmas.Slice.Eq.{bytes_eq-Decides}
use Rattle.lam_rules.proofs.TableFields.{among_drop}
use Rattle.std.proofs.lemmas.Grind.{common_steps}
use Rattle.lam_rules.proofs.numbers.is_not_among.Goals as goal

pub returns-then-eq : goal.returns-then-eq
returns-then-eq c =
    let step = among_drop c.args.label.now _ _ _ c.loop-field-test.true c.field-item.is in
    let same = (bytes_eq-Decides _ _).0 (sym c.eq.ensures ∙ c.if-eq.true) ∙ c.as_str.ensures.value in
    (λ no. cc, λ all. absurd ((step.0 (c.loop-field.invariant.0 all)).0 same))

pub loop-field-preserved : goal.loop-field-preserved
loop-field-preserved c =
    let step = among_drop c.args.label.now _ _ _ c.loop-field-test.true c.field-item.is in (
      λ all. (step.0 (c.loop-field.invariant.0 all)).1,
      λ rest. c.loop-field.invariant.1
          (step.1 ((λ e. let yes = (bytes_eq-Decides _ _).1 (e ∙ sym c.as_str.ensures.value) in cc (yes, c.eq.ensures, c.if-eq.false)), rest)),
    )

pub returns : goal.returns
returns c = grind (arith, common_steps)
