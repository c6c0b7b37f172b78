use Rattle.std.proofs.Common.{◌∙◌, ap, sym, arith}
use Rattle.std.specs.Str.{bytes_eq}
use Rattle.lam_rules.specs.TypeViews.{typ_of}
use Rattle.std.specs.Option.{option_map}
use Rattle.lam_rules.proofs.FirstFields.{first_here, first_later, first_of_none}
use Rattle.lam_sub.proofs.LookUps.{is_label, is_not_label, has_here, has_later, absent_later}
use Rattle.std.proofs.lemmas.Grind.{common_steps}
use Rattle.lam_sub.proofs.fields.first_type.Goals as goal

pub loop-field-preserved : goal.loop-field-preserved
loop-field-preserved c = record {
  has = λ t has. c.loop-field.invariant.has t (has_later c.args.fields.now c.loop-field.field-index c.field-item.result c.args.label.now t c.loop-field-test.true c.field-item.is has);
  absent = λ absent. c.loop-field.invariant.absent
      (absent_later c.args.fields.now c.loop-field.field-index c.field-item.result c.args.label.now c.loop-field-test.true c.field-item.is
      (is_not_label c.eq.result _ c.args.label.now (c.eq.ensures ∙ ap (λ k. bytes_eq k c.args.label.now) c.as_str.ensures.value) c.if-eq.false) absent);
  first = c.loop-field.invariant.first ∙ first_later _ _ _ _ c.loop-field-test.true c.field-item.is (cc);
}

pub returns-then-eq-clause-found : goal.returns-then-eq-clause-found
returns-then-eq-clause-found c =
    c.loop-field.invariant.has _
    (has_here c.args.fields.now c.loop-field.field-index c.field-item.result c.args.label.now c.loop-field-test.true c.field-item.is
    (is_label c.eq.result _ c.args.label.now (c.eq.ensures ∙ ap (λ k. bytes_eq k c.args.label.now) c.as_str.ensures.value) c.if-eq.true))

pub returns-clause-absent : goal.returns-clause-absent
returns-clause-absent c = grind (arith, common_steps)

pub returns-then-eq-clause-first : goal.returns-then-eq-clause-first
returns-then-eq-clause-first c = ap (option_map typ_of) (sym (c.loop-field.invariant.first ∙ first_here _ _ _ _ c.loop-field-test.true c.field-item.is (cc)))

pub returns-clause-first : goal.returns-clause-first
returns-clause-first c = ap (option_map typ_of) (sym (c.loop-field.invariant.first ∙ first_of_none _ _ _ c.loop-field-test.false))
