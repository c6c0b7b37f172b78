use Rattle.std.proofs.Common.{◌∙◌, sym, arith}
use Rattle.std.proofs.lemmas.Slice.Eq.{bytes_eq-Decides}
use Rattle.lam_rules.proofs.TableFields.{has_read, absent_more, found_fields}
use Rattle.lam_rules.proofs.FirstFields.{first_here, first_later, first_of_none}
use Rattle.std.proofs.lemmas.Grind.{common_steps}
use Rattle.lam_rules.proofs.numbers.number_under.Goals as goal

pub returns-then-eq-clause-some : goal.returns-then-eq-clause-some
returns-then-eq-clause-some c =
    let same = sym c.as_str.ensures.value ∙ (bytes_eq-Decides _ _).0 (sym c.eq.ensures ∙ c.if-eq.true) in
    λ ts. rw (sym same) (has_read ts _ _ _ c.loop-field-test.true c.field-item.is)

pub loop-field-preserved : goal.loop-field-preserved
loop-field-preserved c = record {
  absent = λ ts.
      absent_more _ ts _ _ _ c.loop-field-test.true c.field-item.is
      (λ e. let yes = (bytes_eq-Decides _ _).1 (c.as_str.ensures.value ∙ sym e) in cc (yes, c.eq.ensures, c.if-eq.false))
      (c.loop-field.invariant.absent ts);
  first = c.loop-field.invariant.first ∙ first_later _ _ _ _ c.loop-field-test.true c.field-item.is (cc);
}

pub loop-field-init : goal.loop-field-init
loop-field-init c = grind (arith, found_fields)

pub returns-then-eq-clause-below : goal.returns-then-eq-clause-below
returns-then-eq-clause-below c = grind (arith, found_fields)

pub returns-then-eq-clause-none : goal.returns-then-eq-clause-none
returns-then-eq-clause-none c = grind (arith, found_fields)

pub returns-clause-below : goal.returns-clause-below
returns-clause-below c = grind (arith, found_fields)

pub returns-clause-some : goal.returns-clause-some
returns-clause-some c = grind (arith, found_fields)

pub returns-clause-none : goal.returns-clause-none
returns-clause-none c = grind (arith, common_steps)

pub returns-then-eq-clause-first : goal.returns-then-eq-clause-first
returns-then-eq-clause-first c = sym (c.loop-field.invariant.first ∙ first_here _ _ _ _ c.loop-field-test.true c.field-item.is (cc))

pub returns-clause-first : goal.returns-clause-first
returns-clause-first c = sym (c.loop-field.invariant.first ∙ first_of_none _ _ _ c.loop-field-test.false)
