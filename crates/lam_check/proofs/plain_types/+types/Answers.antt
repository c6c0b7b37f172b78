use Rattle.std.proofs.Common.{◌≤◌, length, ap, sym, subst, ◌∙◌, arith}
use Rattle.lam_rules.specs.Types.{record_of}
use Rattle.lam_rules.specs.TypeViews.{fields_of}
use Rattle.lam_check.proofs.PlainTypes.{no_level, front_read, no_front, whole_read, arrow_read, no_outcome, whole_arrow, field_left, none_left, no_label, IsFieldRead, field_read, no_field, fields_left}
use Rattle.lam_check.proofs.plain_types.+types.Goals as goal

pub type_at-returns-then-levels-eq0-clause-read : goal.type_at-returns-then-levels-eq0-clause-read
type_at-returns-then-levels-eq0-clause-read m c = λ t rest readable small none is. no_level t c.args.levels c.if-levels-eq0.true small

pub type_at-returns-in_default-clause-read : goal.type_at-returns-in_default-clause-read
type_at-returns-in_default-clause-read m c = λ t rest readable small none is.
    no_front c.in_ok-parameter.field-0 t rest c.in_default.is (front_read c.args.text.now c.args.levels c.in_ok-parameter.field-0 c.in_ok-parameter.ensures.read t rest readable small is)

pub type_at-returns-in_default-behind-clause-read : goal.type_at-returns-in_default-behind-clause-read
type_at-returns-in_default-behind-clause-read m c = λ t rest readable small none is.
    whole_read c.in_ok-parameter.field-0 _ t rest c.in-Some.is c.in_default-behind.ensures.none
    (front_read c.args.text.now c.args.levels c.in_ok-parameter.field-0 c.in_ok-parameter.ensures.read t rest readable small is)

pub type_at-returns-in_default-2-clause-read : goal.type_at-returns-in_default-2-clause-read
type_at-returns-in_default-2-clause-read m c = λ t rest readable small none is.
    no_outcome c.in-Some.parameter c.in_ok-outcome.field-0 t rest c.in_default-2.is
    (arrow_read c.in_ok-parameter.field-0 (c.in-Some.parameter, c.in-Some.rest) c.in-Some-behind.further.now c.args.levels c.in_ok-outcome.field-0 t rest c.in-Some.is c.in-Some-behind.ensures.some c.in_ok-outcome.ensures.read readable small none
    (front_read c.args.text.now c.args.levels c.in_ok-parameter.field-0 c.in_ok-parameter.ensures.read t rest readable small is))

pub type_at-returns-clause-read : goal.type_at-returns-clause-read
type_at-returns-clause-read m c = λ t rest readable small none is.
    whole_arrow c.in-Some.parameter c.in_ok-outcome.field-0 (c.in-Some-2.outcome, c.in-Some-2.rest) c.in_ok-make_arrow.field-0 t rest c.in-Some-2.is c.in_ok-make_arrow.ensures
    (arrow_read c.in_ok-parameter.field-0 (c.in-Some.parameter, c.in-Some.rest) c.in-Some-behind.further.now c.args.levels c.in_ok-outcome.field-0 t rest c.in-Some.is c.in-Some-behind.ensures.some c.in_ok-outcome.ensures.read readable small none
    (front_read c.args.text.now c.args.levels c.in_ok-parameter.field-0 c.in_ok-parameter.ensures.read t rest readable small is))

pub record_at-returns-in-Some-clause-read : goal.record_at-returns-in-Some-clause-read
record_at-returns-in-Some-clause-read m c = λ fs rest readable small is.
    let ends = none_left _ c.loop-left.rest.now c.in-Some.left.now c.args.levels fs rest (c.loop-left.invariant.2 fs rest readable small is) c.in-Some.ensures.some in
    (c.in_ok-made.ensures ∙ ap record_of ends.0, ends.1)

pub record_at-returns-in_default-around_colon-clause-read : goal.record_at-returns-in_default-around_colon-clause-read
record_at-returns-in_default-around_colon-clause-read m c = λ fs rest readable small is.
    no_label _ c.loop-left.rest.now c.args.levels fs rest c.around_colon.result (field_left _ _ _ fs rest (c.loop-left.invariant.2 fs rest readable small is) c.in_default.ensures.none) c.around_colon.ensures.around c.in_default-around_colon.is

pub record_at-returns-in_default-2-clause-read : goal.record_at-returns-in_default-2-clause-read
record_at-returns-in_default-2-clause-read m c = λ fs rest readable small is.
    no_field _ c.args.levels c.in-Some-around_colon.label.now c.in_ok-ty.field-0 fs rest
    (field_read _ c.loop-left.rest.now c.args.levels fs rest c.around_colon.result (c.in-Some-around_colon.label, c.in-Some-around_colon.further) c.in_ok-ty.field-0
    (field_left _ _ _ fs rest (c.loop-left.invariant.2 fs rest readable small is) c.in_default.ensures.none) c.around_colon.ensures.around c.in-Some-around_colon.is c.in_ok-ty.ensures.read) c.in_default-2.is

pub record_at-loop-left-preserved : goal.record_at-loop-left-preserved
record_at-loop-left-preserved m c =
    let shorter : length c.in-Some-2.further.now ≤ length c.in-Some-around_colon.further.now = rw c.in-Some-2.is at c.in_ok-ty.ensures.shorter in
    let colon = c.in-Some-around_colon.ensures.shorter in
    let before = c.loop-left.invariant.1 in (
      c.behind_comma-rest.utf8,
      omega arith,
      λ fs rest readable small is.
          let read = field_read (fields_of c.loop-left.fields.items) c.loop-left.rest.now c.args.levels fs rest c.around_colon.result (c.in-Some-around_colon.label, c.in-Some-around_colon.further) c.in_ok-ty.field-0
          (field_left _ _ _ fs rest (c.loop-left.invariant.2 fs rest readable small is) c.in_default.ensures.none) c.around_colon.ensures.around c.in-Some-around_colon.is c.in_ok-ty.ensures.read in
          let named = subst (λ l. IsFieldRead (fields_of c.loop-left.fields.items) c.args.levels l c.in_ok-ty.field-0 fs rest) (sym c.in_ok-from_str.ensures.ok) read in
          rw c.in_ok-push.ensures.items
          (fields_left c.loop-left.fields.items c.in_ok-from_str.field-0 c.args.levels c.in_ok-ty.field-0 (c.in-Some-2.ty, c.in-Some-2.further) fs rest c.behind_comma-rest.result.now
          named c.in-Some-2.is c.behind_comma-rest.ensures.comma c.behind_comma-rest.ensures.none),
    )
