use Rattle.std.proofs.Common.{◌≡◌, ◌+◌, ◌++◌, sym, ◌∙◌, ap, arith, subst, drop, None}
use Rattle.std.specs.Prelude.{if◌then◌else◌}
use Rattle.lam_syntax.specs.Letters.{letters}
use Rattle.lam_syntax.specs.Views.{type_of, type_fields_of}
use Rattle.std.proofs.lemmas.Grind.{common_steps}
use Rattle.lam_rules.specs.Numbers.{AreGivenApart}
use Rattle.lam_rules.proofs.Tables.{keeps_trans}
use Rattle.lam_scope.specs.Expansions.{both, has_label, type_faults}
use Rattle.lam_scope.specs.NumberedNames.{abbreviations_over}
use Rattle.lam_scope.specs.inner.Interned.{items_in, with_given, given_over}
use Rattle.lam_scope.proofs.TypeNames.{kept_names}
use Rattle.lam_scope.proofs.TreeSizes.{type_field_size}
use Rattle.lam_scope.proofs.InterningTypes.{arrow_interned, numbered_more, numbered_all, faults_more, faults_all, given_apart}
use Rattle.lam_scope.proofs.interning_types.+types.Goals as goal

pub intern_arrow-intern_type-requires-2 : goal.intern_arrow-intern_type-requires-2
intern_arrow-intern_type-requires-2 t c = (omega (arith, c.decreases), (kept_names c.args.table.now c.intern_type.new.table c.args.seen.now c.intern_type.ensures.keeps c.requires).1)

pub intern_arrow-returns : goal.intern_arrow-returns
intern_arrow-returns t c =
    arrow_interned c.args.seen.now _ _ _ _ c.args.table.now c.intern_type.new.table c.intern_type-2.new.table c.arrow_between.new.table _ _ _ _ _ c.arrow_between.result
    c.requires c.in_ok-parameter.ensures c.in_ok-outcome.ensures c.arrow_between.ensures.keeps c.arrow_between.ensures.number c.arrow_between.ensures.stands

pub intern_fields-intern_type-requires : goal.intern_fields-intern_type-requires
intern_fields-intern_type-requires t c = (
  omega (arith, c.decreases, type_field_size c.args.fields.now c.loop-i.i c.index-fields-i.result c.loop-i-test.true c.index-fields-i.is),
  (kept_names c.args.table.now c.loop-i.table c.args.seen.now c.loop-i.invariant.keeps c.requires).1,
)

pub intern_fields-loop-i-preserved : goal.intern_fields-loop-i-preserved
intern_fields-loop-i-preserved t c =
    let one = c.in_ok-number.ensures in
    let same = (kept_names c.args.table.now c.loop-i.table c.args.seen.now c.loop-i.invariant.keeps c.requires).0 in
    let once : c.unless_repeated-once.result ≡ (if has_label (letters c.index-fields-i.result.label.text) (type_fields_of (drop (c.loop-i.i + 1) c.args.fields.now)) then None else c.in_ok-number.number) =
    grind (arith, common_steps) in
    let more =
    numbered_more c.args.seen.now c.args.fields.now c.loop-i.i c.index-fields-i.result c.args.table.now c.loop-i.table c.intern_type.new.table (items_in c.loop-i.items) (items_in c.in_ok-items.items)
    c.in_ok-number.number c.as_str.result _ c.loop-i-test.true c.index-fields-i.is c.requires c.loop-i.invariant.keeps one.keeps one.number one.stands c.loop-i.invariant.stand c.as_str.ensures
    (c.in_ok-items.ensures ∙ ap (both (with_given c.as_str.result) (items_in c.loop-i.items)) once) c.loop-i.invariant.numbers in
    record {
      keeps = keeps_trans c.args.table.now c.loop-i.table c.intern_type.new.table c.loop-i.invariant.keeps one.keeps;
      stand = more.1;
      numbers = more.0;
      faults = faults_more _ c.args.fields.now c.loop-i.i c.index-fields-i.result _ _ _ _ c.loop-i-test.true c.index-fields-i.is c.in_ok-collect_label_fault.ensures
          (one.faults ∙ ap (λ bs. c.collect_label_fault.new.faults.items ++ type_faults bs (type_of c.index-fields-i.result.ty)) same)
          c.loop-i.invariant.faults;
    }

pub intern_fields-returns : goal.intern_fields-returns
intern_fields-returns t c = record {
  keeps = c.loop-i.invariant.keeps;
  numbers = numbered_all _ c.args.fields.now c.loop-i.i _ _ c.loop-i-test.false c.loop-i.invariant.numbers;
  stand = c.loop-i.invariant.stand;
  faults = faults_all _ c.args.fields.now c.loop-i.i _ _ _ c.loop-i-test.false c.loop-i.invariant.faults;
}

pub intern_record-record-requires-clause-labels : goal.intern_record-record-requires-clause-labels
intern_record-record-requires-clause-labels t c =
    subst AreGivenApart (sym c.deref.ensures.value)
    (given_apart (abbreviations_over c.args.table.now c.args.seen.now) c.intern_fields.new.table (type_fields_of c.args.fields.now) c.in-Some.items.items (sym c.in_ok-intern_fields.ensures.numbers ∙ ap (λ o. given_over c.intern_fields.new.table (items_in o)) c.in-Some.is))
