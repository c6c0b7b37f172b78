use Rattle.std.proofs.Common.{◌↔◌, ◌∙◌, IsTrue, ap, sym, refl, subst, arith, string_bytes}
use Rattle.std.proofs.lemmas.Result.{IfOk-weaker}
use Rattle.lam_rules.specs.Types.{Has, IsAbsent, IsWellFormed, record_of, nodes}
use Rattle.lam_rules.specs.Numbers.{type_at, type_of, fields_over}
use Rattle.lam_rules.specs.Subtyping.{IsBelow}
use Rattle.lam_rules.proofs.SortedSizes.{nodes_sorted}
use Rattle.lam_rules.proofs.TableEntries.{below_read}
use Rattle.lam_rules.proofs.TableFields.{has_read}
use Rattle.lam_sub.proofs.Below.{no_field, nodes_of_field, record_iff}
use Rattle.lam_sub.proofs.ByVariant.{field_fails, field_holds, found_field, not_true, arrows_fail, arrows_rest}
use Rattle.lam_sub.proofs.TableVerdicts.{sorted_verdict, equal_sorted, arrow_numbers, record_of_numbers, not_arrow_numbers, not_record_numbers, stand_in, number_first}
use Rattle.lam_sub.proofs.numbers.+is_sub_no.Goals as goal

-- by the sorted forms

pub is_sub_no-returns-in-Some-clause-verdict : goal.is_sub_no-returns-in-Some-clause-verdict
is_sub_no-returns-in-Some-clause-verdict t c =
    sorted_verdict (type_of c.args.table.now c.args.lower) (type_of c.args.table.now c.args.upper) _ _ c.args.verdicts.now.dialect c.in-Some.known (c.types_differ.ensures.wf c.args.lower.index c.requires.lower) (c.types_differ.ensures.wf c.args.upper.index c.requires.upper)
    c.sorted-lower_sorted.ensures.sorted c.sorted-upper_sorted.ensures.sorted (c.in-Some.ensures.right c.args.table.now c.requires.right).verdict

pub is_sub_no-returns-then-lower_sorted-upper_sorted-clause-verdict : goal.is_sub_no-returns-then-lower_sorted-upper_sorted-clause-verdict
is_sub_no-returns-then-lower_sorted-upper_sorted-clause-verdict t c =
    equal_sorted (type_of c.args.table.now c.args.lower) (type_of c.args.table.now c.args.upper) _ _ c.args.verdicts.now.dialect (c.types_differ.ensures.wf c.args.lower.index c.requires.lower) (c.types_differ.ensures.wf c.args.upper.index c.requires.upper)
    c.sorted-lower_sorted.ensures.sorted c.sorted-upper_sorted.ensures.sorted (ap (λ n. type_at c.args.table.now n) c.if-lower_sorted-upper_sorted.true)

pub is_sub_no-compare-requires : goal.is_sub_no-compare-requires
is_sub_no-compare-requires t c =
    let lower = ap nodes c.sorted-lower_sorted.ensures.sorted ∙ nodes_sorted (type_of c.args.table.now c.args.lower) in
    let upper = ap nodes c.sorted-upper_sorted.ensures.sorted ∙ nodes_sorted (type_of c.args.table.now c.args.upper) in
    (omega (arith, c.decreases, lower, upper), (omega arith, (omega arith, c.requires.right)))

pub is_sub_no-returns-in_err-keep_verdict-clause-right : goal.is_sub_no-returns-in_err-keep_verdict-clause-right
is_sub_no-returns-in_err-keep_verdict-clause-right t c =
    c.keep_verdict.ensures.right c.args.table.now c.in_ok-is_below.ensures.right
    record {
      stand = (omega arith, omega arith);
      verdict = subst (λ d. IsTrue c.in_ok-is_below.is_below ↔ IsBelow (type_of c.args.table.now c.sorted-lower_sorted.result) (type_of c.args.table.now c.sorted-upper_sorted.result) d)
          (sym c.in_ok-is_below.ensures.dialect) c.in_ok-is_below.ensures.verdict;
    }

pub is_sub_no-returns-clause-right : goal.is_sub_no-returns-clause-right
is_sub_no-returns-clause-right t c =
    c.keep_verdict.ensures.right c.args.table.now c.in_ok-is_below.ensures.right
    record {
      stand = (omega arith, omega arith);
      verdict = subst (λ d. IsTrue c.in_ok-is_below.is_below ↔ IsBelow (type_of c.args.table.now c.sorted-lower_sorted.result) (type_of c.args.table.now c.sorted-upper_sorted.result) d)
          (sym c.in_ok-is_below.ensures.dialect) c.in_ok-is_below.ensures.verdict;
    }

pub is_sub_no-returns-clause-verdict : goal.is_sub_no-returns-clause-verdict
is_sub_no-returns-clause-verdict t c =
    sorted_verdict (type_of c.args.table.now c.args.lower) (type_of c.args.table.now c.args.upper) _ _ c.args.verdicts.now.dialect c.in_ok-is_below.is_below (c.types_differ.ensures.wf c.args.lower.index c.requires.lower) (c.types_differ.ensures.wf c.args.upper.index c.requires.upper)
    c.sorted-lower_sorted.ensures.sorted c.sorted-upper_sorted.ensures.sorted c.in_ok-is_below.ensures.verdict

-- by the outermost forms

pub compare-returns-then-not-branch-clause-verdict : goal.compare-returns-then-not-branch-clause-verdict
compare-returns-then-not-branch-clause-verdict t c =
    arrows_fail _ _ _ c.in_ok-is_sub_no-in-Arrow.field-0
    (arrow_numbers c.args.table.now (type_of c.args.table.now c.args.lower) (type_of c.args.table.now c.args.upper) c.shape-lower_shape.result.now c.shape-upper_shape.result.now _ _ _ _ c.args.verdicts.now.dialect c.shape-lower_shape.ensures.form c.shape-upper_shape.ensures.form c.in-Arrow-lower_shape.is c.in-Arrow.is)
    c.if-not-branch.true c.in_ok-is_sub_no-in-Arrow.ensures.verdict

pub compare-returns-else-not-branch-clause-verdict : goal.compare-returns-else-not-branch-clause-verdict
compare-returns-else-not-branch-clause-verdict t c =
    IfOk-weaker c.is_sub_no-in-Arrow.result _ (λ q. IsTrue q ↔ IsBelow (type_of c.args.table.now c.args.lower) (type_of c.args.table.now c.args.upper) c.args.verdicts.now.dialect)
    (λ q second. arrows_rest _ _ _ c.in_ok-is_sub_no-in-Arrow.field-0 q
    (arrow_numbers c.args.table.now (type_of c.args.table.now c.args.lower) (type_of c.args.table.now c.args.upper) c.shape-lower_shape.result.now c.shape-upper_shape.result.now _ _ _ _ c.args.verdicts.now.dialect c.shape-lower_shape.ensures.form c.shape-upper_shape.ensures.form c.in-Arrow-lower_shape.is c.in-Arrow.is)
    c.if-not-branch.false c.in_ok-is_sub_no-in-Arrow.ensures.verdict
    (subst (λ d. IsTrue q ↔ IsBelow (type_of c.args.table.now c.in-Arrow-lower_shape.lower_outcome) (type_of c.args.table.now c.in-Arrow.upper_outcome) d) c.in_ok-is_sub_no-in-Arrow.ensures.dialect second))
    c.is_sub_no-in-Arrow.ensures.verdict

pub compare-returns-in_default-lower_shape : goal.compare-returns-in_default-lower_shape
compare-returns-in_default-lower_shape t c = record {
  dialect = refl;
  right = c.requires.right;
  verdict = not_arrow_numbers c.args.table.now (type_of c.args.table.now c.args.lower) (type_of c.args.table.now c.args.upper) c.shape-lower_shape.result.now c.shape-upper_shape.result.now _ _ c.args.verdicts.now.dialect c.shape-lower_shape.ensures.form c.shape-upper_shape.ensures.form c.in-Arrow.is c.in_default-lower_shape.not-Arrow;
}

pub compare-returns-in_default-lower_shape-2 : goal.compare-returns-in_default-lower_shape-2
compare-returns-in_default-lower_shape-2 t c = record {
  dialect = refl;
  right = c.requires.right;
  verdict = not_record_numbers c.args.table.now (type_of c.args.table.now c.args.lower) (type_of c.args.table.now c.args.upper) c.shape-lower_shape.result.now c.shape-upper_shape.result.now _ c.args.verdicts.now.dialect c.shape-lower_shape.ensures.form c.shape-upper_shape.ensures.form c.in-Record.is c.in_default-lower_shape-2.not-Record;
}

pub compare-are_fields_sub_no-requires : goal.compare-are_fields_sub_no-requires
compare-are_fields_sub_no-requires t c =
    let lower = record_of_numbers c.args.table.now (type_of c.args.table.now c.args.lower) c.shape-lower_shape.result.now _ c.deref.result.now c.shape-lower_shape.ensures.form c.in-Record-lower_shape.is c.deref.ensures.value in
    let upper = record_of_numbers c.args.table.now (type_of c.args.table.now c.args.upper) c.shape-upper_shape.result.now _ c.deref-in-Record.result.now c.shape-upper_shape.ensures.form c.in-Record.is c.deref-in-Record.ensures.value in (
      omega (arith, c.decreases, ap nodes lower, ap nodes upper),
      (
        stand_in c.args.lower.index _ c.shape-lower_shape.result.now _ c.deref.result.now c.shape-lower_shape.ensures.earlier c.requires.lower c.in-Record-lower_shape.is c.deref.ensures.value,
        (
          stand_in c.args.upper.index _ c.shape-upper_shape.result.now _ c.deref-in-Record.result.now c.shape-upper_shape.ensures.earlier c.requires.upper c.in-Record.is c.deref-in-Record.ensures.value,
          (subst (λ s. IsWellFormed s) lower c.shape-lower_shape.ensures.wf, c.requires.right),
        ),
      ),
    )

pub compare-returns-in-Record-lower_shape-clause-verdict : goal.compare-returns-in-Record-lower_shape-clause-verdict
compare-returns-in-Record-lower_shape-clause-verdict t c =
    let lower = record_of_numbers c.args.table.now (type_of c.args.table.now c.args.lower) c.shape-lower_shape.result.now _ c.deref.result.now c.shape-lower_shape.ensures.form c.in-Record-lower_shape.is c.deref.ensures.value in
    let upper = record_of_numbers c.args.table.now (type_of c.args.table.now c.args.upper) c.shape-upper_shape.result.now _ c.deref-in-Record.result.now c.shape-upper_shape.ensures.form c.in-Record.is c.deref-in-Record.ensures.value in
    let iff = record_iff (fields_over c.args.table.now c.deref.result.now) (fields_over c.args.table.now c.deref-in-Record.result.now) c.args.verdicts.now.dialect
    (subst (λ s. IsWellFormed s) lower c.shape-lower_shape.ensures.wf) (subst (λ s. IsWellFormed s) upper c.shape-upper_shape.ensures.wf) in
    IfOk-weaker c.are_fields_sub_no.result _ (λ q. IsTrue q ↔ IsBelow (type_of c.args.table.now c.args.lower) (type_of c.args.table.now c.args.upper) c.args.verdicts.now.dialect)
    (λ q verdict. subst (λ s. IsTrue q ↔ IsBelow s (type_of c.args.table.now c.args.upper) c.args.verdicts.now.dialect) (sym lower)
    (subst (λ s. IsTrue q ↔ IsBelow (record_of (fields_over c.args.table.now c.deref.result.now)) s c.args.verdicts.now.dialect) (sym upper)
    ((λ h. iff.0 (verdict.0 h)), (λ h. verdict.1 (iff.1 h)))))
    c.are_fields_sub_no.ensures.verdict

-- field by field

pub are_fields_sub_no-returns-in_default-clause-verdict : goal.are_fields_sub_no-returns-in_default-clause-verdict
are_fields_sub_no-returns-in_default-clause-verdict t c =
    field_fails _ _ _ _
    (number_first c.args.table.now (fields_over c.args.table.now c.args.lower.now) c.args.upper.now c.loop-i.i c.index-upper-i.result c.args.verdicts.now.dialect c.loop-i-test.true c.index-upper-i.is)
    c.loop-i.invariant.rest
    (no_field (fields_over c.args.table.now c.args.lower.now) c.args.verdicts.now.dialect (string_bytes c.index-upper-i.result.0) (type_of c.args.table.now c.index-upper-i.result.1)
    (subst (λ l. IsAbsent l (fields_over c.args.table.now c.args.lower.now)) c.deref.ensures (c.in_default.ensures.absent c.args.table.now)))

pub are_fields_sub_no-is_sub_no-requires : goal.are_fields_sub_no-is_sub_no-requires
are_fields_sub_no-is_sub_no-requires t c =
    let above = has_read c.args.table.now c.args.upper.now c.loop-i.i c.index-upper-i.result c.loop-i-test.true c.index-upper-i.is in (
      omega (arith, c.decreases, nodes_of_field (fields_over c.args.table.now c.args.lower.now) _ (type_of c.args.table.now c.in-Some.number) (subst (λ l. Has l (type_of c.args.table.now c.in-Some.number) (fields_over c.args.table.now c.args.lower.now)) c.deref.ensures (c.in-Some.ensures.found c.args.table.now)), nodes_of_field _ _ _ above),
      (
        c.in-Some.ensures.below _ c.requires.lower_stand,
        (below_read _ c.args.upper.now c.loop-i.i c.index-upper-i.result c.requires.upper_stand c.loop-i-test.true c.index-upper-i.is, c.loop-i.invariant.right),
      ),
    )

pub are_fields_sub_no-returns-then-not-branch-clause-verdict : goal.are_fields_sub_no-returns-then-not-branch-clause-verdict
are_fields_sub_no-returns-then-not-branch-clause-verdict t c =
    field_fails _ _ _ _
    (number_first c.args.table.now (fields_over c.args.table.now c.args.lower.now) c.args.upper.now c.loop-i.i c.index-upper-i.result c.args.verdicts.now.dialect c.loop-i-test.true c.index-upper-i.is)
    c.loop-i.invariant.rest
    (not_true _ c.in_ok-is_sub_no.field-0 c.if-not-branch.true
    (found_field (fields_over c.args.table.now c.args.lower.now) c.args.verdicts.now.dialect (string_bytes c.index-upper-i.result.0) _ (type_of c.args.table.now c.in-Some.number) (type_of c.args.table.now c.index-upper-i.result.1) c.in_ok-is_sub_no.field-0
    c.requires.lower c.deref.ensures (c.in-Some.ensures.found c.args.table.now)
    (subst (λ d. IsTrue c.in_ok-is_sub_no.field-0 ↔ IsBelow (type_of c.args.table.now c.in-Some.number) (type_of c.args.table.now c.index-upper-i.result.1) d) c.loop-i.invariant.dialect c.in_ok-is_sub_no.ensures.verdict)))

pub are_fields_sub_no-loop-i-preserved : goal.are_fields_sub_no-loop-i-preserved
are_fields_sub_no-loop-i-preserved t c = record {
  dialect = c.in_ok-is_sub_no.ensures.dialect ∙ c.loop-i.invariant.dialect;
  right = c.in_ok-is_sub_no.ensures.right;
  rest = field_holds _ _ _ _
      (number_first c.args.table.now (fields_over c.args.table.now c.args.lower.now) c.args.upper.now c.loop-i.i c.index-upper-i.result c.args.verdicts.now.dialect c.loop-i-test.true c.index-upper-i.is)
      c.loop-i.invariant.rest
      ((found_field (fields_over c.args.table.now c.args.lower.now) c.args.verdicts.now.dialect (string_bytes c.index-upper-i.result.0) _ (type_of c.args.table.now c.in-Some.number) (type_of c.args.table.now c.index-upper-i.result.1) c.in_ok-is_sub_no.field-0
      c.requires.lower c.deref.ensures (c.in-Some.ensures.found c.args.table.now)
      (subst (λ d. IsTrue c.in_ok-is_sub_no.field-0 ↔ IsBelow (type_of c.args.table.now c.in-Some.number) (type_of c.args.table.now c.index-upper-i.result.1) d) c.loop-i.invariant.dialect c.in_ok-is_sub_no.ensures.verdict)).0 c.if-not-branch.false);
}

pub are_fields_sub_no-returns-in_err-is_sub_no-clause-dialect : goal.are_fields_sub_no-returns-in_err-is_sub_no-clause-dialect
are_fields_sub_no-returns-in_err-is_sub_no-clause-dialect t c = grind arith

pub compare-is_sub_no-requires : goal.compare-is_sub_no-requires
compare-is_sub_no-requires t c = grind arith

pub compare-is_sub_no-requires-in-Arrow : goal.compare-is_sub_no-requires-in-Arrow
compare-is_sub_no-requires-in-Arrow t c = grind arith

pub is_sub_no-returns-in_err-keep_verdict-clause-dialect : goal.is_sub_no-returns-in_err-keep_verdict-clause-dialect
is_sub_no-returns-in_err-keep_verdict-clause-dialect t c = grind arith

pub is_sub_no-returns-clause-dialect : goal.is_sub_no-returns-clause-dialect
is_sub_no-returns-clause-dialect t c = grind arith
