use Rattle.std.proofs.Common.{◌∙◌, List, String, ap, length, sym, subst, arith, IfSome, IfNone}
use Rattle.std.proofs.lemmas.Result.{IfOk-weaker}
use Rattle.std.specs.declared.alloc.Global.{Global}
use Rattle.lam_rules.specs.Types.{record_of}
use Rattle.lam_rules.specs.declared.numbers.TyNo.{TyNo}
use Rattle.lam_rules.specs.Numbers.{type_at, type_of, Stands, fields_over, IsOver, AreEarlier}
use Rattle.lam_rules.specs.Subtyping.{IsBelow}
use Rattle.lam_rules.proofs.Composing.{below_refl}
use Rattle.lam_rules.proofs.Tables.{keeps_same, keeps_trans, keeps_length, below_more}
use Rattle.lam_rules.proofs.TableFields.{below-push}
use Rattle.lam_sub.specs.OtherFields.{other_fields}
use Rattle.lam_sub.specs.BoundOrder.{join_without_parts}
use Rattle.lam_sub.proofs.Keeping.{right_kept}
use Rattle.lam_sub.proofs.TableVerdicts.{record_of_numbers, stand_in}
use Rattle.lam_sub.specs.Remembered.{IsJoinOf, IsMeetOf}
use Rattle.lam_lattice.specs.inner.Bounds.{IsJoin, IsMeet, HaveNoMeet, JoinsInOrder, MeetsInOrder}
use Rattle.lam_lattice.specs.inner.Matches.{AreMatches}
use Rattle.lam_lattice.specs.inner.Records.{OrderlyJoins, OrderlyMeets, AreMet}
use Rattle.lam_lattice.proofs.Unlike.{join_below, meet_above, no_meet_seen}
use Rattle.lam_lattice.proofs.Orders.{join_of_same, meet_of_same}
use Rattle.lam_lattice.proofs.SideBySide.{matches_below, matches_bound, match_below, match_bound, right_below, joins_more, joins_without, joins_all, meets_more, meets_alone, meets_all, meet_missing}
use Rattle.lam_lattice.proofs.OnNumbers.{arrow_join_order, arrow_meet_order, record_join_order, record_meet_order, arrow_told, arrow_join, arrow_top, arrow_meet, arrow_no_meet, record_join, join_labels, record_meet, meet_labels, below_append}
use Rattle.lam_lattice.proofs.Answering.{join_found, meet_found}
use Rattle.lam_lattice.proofs.numbers.+bounds.Goals as goal

-- one number twice

pub join_no-returns-then-left-right-clause-join : goal.join_no-returns-then-left-right-clause-join
join_no-returns-then-left-right-clause-join t c =
    join_below (type_of c.args.table.now c.args.left) (type_of c.args.table.now c.args.right) c.args.verdicts.now.dialect
    (subst (λ n. IsBelow (type_at c.args.table.now n) (type_of c.args.table.now c.args.left) c.args.verdicts.now.dialect) c.if-left-right.true (below_refl (type_of c.args.table.now c.args.left) c.args.verdicts.now.dialect (c.types_differ.ensures.wf c.args.left.index c.requires.left)))

pub meet_no-returns-then-left-right-clause-some : goal.meet_no-returns-then-left-right-clause-some
meet_no-returns-then-left-right-clause-some t c =
    meet_above (type_of c.args.table.now c.args.left) (type_of c.args.table.now c.args.right) c.args.verdicts.now.dialect
    (subst (λ n. IsBelow (type_of c.args.table.now c.args.left) (type_at c.args.table.now n) c.args.verdicts.now.dialect) c.if-left-right.true (below_refl (type_of c.args.table.now c.args.left) c.args.verdicts.now.dialect (c.types_differ.ensures.wf c.args.left.index c.requires.left)))

pub join_no-returns-then-left-right-clause-order : goal.join_no-returns-then-left-right-clause-order
join_no-returns-then-left-right-clause-order t c =
    subst (λ n. JoinsInOrder (type_of c.args.table.now c.args.left) (type_at c.args.table.now n) (type_of c.args.table.now c.args.left)) c.if-left-right.true (join_of_same (type_of c.args.table.now c.args.left))

pub meet_no-returns-then-left-right-clause-order : goal.meet_no-returns-then-left-right-clause-order
meet_no-returns-then-left-right-clause-order t c =
    subst (λ n. MeetsInOrder (type_of c.args.table.now c.args.left) (type_at c.args.table.now n) (type_of c.args.table.now c.args.left)) c.if-left-right.true (meet_of_same (type_of c.args.table.now c.args.left))

-- what is found is kept

pub meet_no-returns-in_err-keep_meet-clause-verdicts_right : goal.meet_no-returns-in_err-keep_meet-clause-verdicts_right
meet_no-returns-in_err-keep_meet-clause-verdicts_right t c =
    c.keep_meet.ensures.right c.meet_by_shape.new.table c.in_ok-found.ensures.verdicts_right
    (meet_found c.args.table.now c.meet_by_shape.new.table c.args.left c.args.right c.in_ok-found.found c.args.verdicts.now.dialect c.meet_by_shape.new.verdicts.dialect
    c.in_ok-found.ensures.keeps c.requires.left c.requires.right c.in_ok-found.ensures.dialect c.in_ok-found.ensures.stands c.in_ok-found.ensures.some c.in_ok-found.ensures.order c.in_ok-found.ensures.none)

pub meet_no-returns-clause-verdicts_right : goal.meet_no-returns-clause-verdicts_right
meet_no-returns-clause-verdicts_right t c =
    c.keep_meet.ensures.right c.meet_by_shape.new.table c.in_ok-found.ensures.verdicts_right
    (meet_found c.args.table.now c.meet_by_shape.new.table c.args.left c.args.right c.in_ok-found.found c.args.verdicts.now.dialect c.meet_by_shape.new.verdicts.dialect
    c.in_ok-found.ensures.keeps c.requires.left c.requires.right c.in_ok-found.ensures.dialect c.in_ok-found.ensures.stands c.in_ok-found.ensures.some c.in_ok-found.ensures.order c.in_ok-found.ensures.none)

-- the verdicts while the table grows

pub join_by_shape-returns-in_default-2-clause-verdicts_right : goal.join_by_shape-returns-in_default-2-clause-verdicts_right
join_by_shape-returns-in_default-2-clause-verdicts_right t c = right_kept _ _ _ c.intern.ensures.keeps c.in_ok-parameter-in-Arrow.ensures.verdicts_right

pub join_by_shape-returns-in_ok-outcome-in-Arrow-clause-verdicts_right : goal.join_by_shape-returns-in_ok-outcome-in-Arrow-clause-verdicts_right
join_by_shape-returns-in_ok-outcome-in-Arrow-clause-verdicts_right t c = right_kept _ _ _ c.arrow.ensures.keeps c.in_ok-outcome-in-Arrow.ensures.verdicts_right

pub join_by_shape-returns-in_ok-items-in-Record-clause-verdicts_right : goal.join_by_shape-returns-in_ok-items-in-Record-clause-verdicts_right
join_by_shape-returns-in_ok-items-in-Record-clause-verdicts_right t c = right_kept _ _ _ c.intern-in-Record.ensures.keeps c.in_ok-items-in-Record.ensures.verdicts_right

pub meet_by_shape-returns-in_err-number-in-Arrow-clause-verdicts_right : goal.meet_by_shape-returns-in_err-number-in-Arrow-clause-verdicts_right
meet_by_shape-returns-in_err-number-in-Arrow-clause-verdicts_right t c = right_kept _ _ _ c.arrow.ensures.keeps c.in_ok-parameter-in-Arrow.ensures.verdicts_right

pub meet_by_shape-returns-in_ok-number-in-Arrow-clause-verdicts_right : goal.meet_by_shape-returns-in_ok-number-in-Arrow-clause-verdicts_right
meet_by_shape-returns-in_ok-number-in-Arrow-clause-verdicts_right t c = right_kept _ _ _ c.arrow.ensures.keeps c.in_ok-parameter-in-Arrow.ensures.verdicts_right

pub meet_by_shape-returns-in_err-number-in-Record-clause-verdicts_right : goal.meet_by_shape-returns-in_err-number-in-Record-clause-verdicts_right
meet_by_shape-returns-in_err-number-in-Record-clause-verdicts_right t c = right_kept _ _ _ c.intern.ensures.keeps c.in_ok-met-in-Record.ensures.verdicts_right

pub meet_by_shape-returns-in_ok-number-in-Record-clause-verdicts_right : goal.meet_by_shape-returns-in_ok-number-in-Record-clause-verdicts_right
meet_by_shape-returns-in_ok-number-in-Record-clause-verdicts_right t c = right_kept _ _ _ c.intern.ensures.keeps c.in_ok-met-in-Record.ensures.verdicts_right

-- two arrows

pub join_by_shape-returns-in_default-2-clause-join : goal.join_by_shape-returns-in_default-2-clause-join
join_by_shape-returns-in_default-2-clause-join t c =
    IfOk-weaker c.intern.result _ (λ number. IsJoin (type_of c.args.table.now c.args.left) (type_of c.args.table.now c.args.right) (type_of c.intern.new.self number) c.args.verdicts.now.dialect)
    (λ number is. arrow_top c.args.table.now (type_of c.args.table.now c.args.left) (type_of c.args.table.now c.args.right) (type_of c.intern.new.self number) c.in-Arrow.left_parameter c.in-Arrow.left_outcome c.in-Arrow-shape.right_parameter c.in-Arrow-shape.right_outcome c.args.verdicts.now.dialect
    (arrow_told c.args.table.now (type_of c.args.table.now c.args.left) c.shape.result.now c.in-Arrow.left_parameter c.in-Arrow.left_outcome c.shape.ensures.form c.in-Arrow.is)
    (arrow_told c.args.table.now (type_of c.args.table.now c.args.right) c.shape-in-Arrow.result.now c.in-Arrow-shape.right_parameter c.in-Arrow-shape.right_outcome c.shape-in-Arrow.ensures.form c.in-Arrow-shape.is)
    c.shape.ensures.wf c.shape-in-Arrow.ensures.wf
    (subst (λ o. IfNone o (HaveNoMeet (type_of c.args.table.now c.in-Arrow.left_parameter) (type_of c.args.table.now c.in-Arrow-shape.right_parameter) c.args.verdicts.now.dialect)) c.in_default-2.is c.in_ok-parameter-in-Arrow.ensures.none) is.type)
    c.intern.ensures.number

pub join_by_shape-returns-in_ok-outcome-in-Arrow-clause-join : goal.join_by_shape-returns-in_ok-outcome-in-Arrow-clause-join
join_by_shape-returns-in_ok-outcome-in-Arrow-clause-join t c =
    let earlier = subst (λ s. IsOver c.args.left.index s) c.in-Arrow.is c.shape.ensures.earlier in
    let other = subst (λ s. IsOver c.args.right.index s) c.in-Arrow-shape.is c.shape-in-Arrow.ensures.earlier in
    let one = c.requires.left in
    let two = c.requires.right in
    let stands = subst (λ o. IfSome o (λ number. Stands c.meet_no.new.table number)) c.in-Some.is c.in_ok-parameter-in-Arrow.ensures.stands in
    let meet = subst (λ o. IfSome o (λ number. IsMeet (type_of c.args.table.now c.in-Arrow.left_parameter) (type_of c.args.table.now c.in-Arrow-shape.right_parameter) (type_of c.meet_no.new.table number) c.args.verdicts.now.dialect)) c.in-Some.is c.in_ok-parameter-in-Arrow.ensures.some in
    IfOk-weaker c.arrow.result _ (λ number. IsJoin (type_of c.args.table.now c.args.left) (type_of c.args.table.now c.args.right) (type_of c.arrow.new.self number) c.args.verdicts.now.dialect)
    (λ number is. arrow_join c.args.table.now c.meet_no.new.table c.join_no.new.table (type_of c.args.table.now c.args.left) (type_of c.args.table.now c.args.right) (type_of c.arrow.new.self number) c.in-Arrow.left_parameter c.in-Arrow.left_outcome c.in-Arrow-shape.right_parameter c.in-Arrow-shape.right_outcome c.in-Some.parameter c.in_ok-outcome-in-Arrow.outcome c.args.verdicts.now.dialect c.meet_no.new.verdicts.dialect
    (arrow_told c.args.table.now (type_of c.args.table.now c.args.left) c.shape.result.now c.in-Arrow.left_parameter c.in-Arrow.left_outcome c.shape.ensures.form c.in-Arrow.is)
    (arrow_told c.args.table.now (type_of c.args.table.now c.args.right) c.shape-in-Arrow.result.now c.in-Arrow-shape.right_parameter c.in-Arrow-shape.right_outcome c.shape-in-Arrow.ensures.form c.in-Arrow-shape.is)
    c.in_ok-parameter-in-Arrow.ensures.keeps c.in_ok-outcome-in-Arrow.ensures.keeps (omega (arith, earlier.1, one)) (omega (arith, other.1, two)) stands
    meet c.in_ok-parameter-in-Arrow.ensures.dialect c.in_ok-outcome-in-Arrow.ensures.join is.type)
    c.arrow.ensures.number

pub meet_by_shape-returns-in_default-2-clause-none : goal.meet_by_shape-returns-in_default-2-clause-none
meet_by_shape-returns-in_default-2-clause-none t c =
    arrow_no_meet c.args.table.now (type_of c.args.table.now c.args.left) (type_of c.args.table.now c.args.right) c.in-Arrow.left_parameter c.in-Arrow.left_outcome c.in-Arrow-shape.right_parameter c.in-Arrow-shape.right_outcome c.args.verdicts.now.dialect
    (arrow_told c.args.table.now (type_of c.args.table.now c.args.left) c.shape.result.now c.in-Arrow.left_parameter c.in-Arrow.left_outcome c.shape.ensures.form c.in-Arrow.is)
    (arrow_told c.args.table.now (type_of c.args.table.now c.args.right) c.shape-in-Arrow.result.now c.in-Arrow-shape.right_parameter c.in-Arrow-shape.right_outcome c.shape-in-Arrow.ensures.form c.in-Arrow-shape.is)
    (subst (λ o. IfNone o (HaveNoMeet (type_of c.args.table.now c.in-Arrow.left_outcome) (type_of c.args.table.now c.in-Arrow-shape.right_outcome) c.args.verdicts.now.dialect)) c.in_default-2.is c.in_ok-outcome-in-Arrow.ensures.none)

pub meet_by_shape-returns-in_ok-number-in-Arrow-clause-some : goal.meet_by_shape-returns-in_ok-number-in-Arrow-clause-some
meet_by_shape-returns-in_ok-number-in-Arrow-clause-some t c =
    let earlier = subst (λ s. IsOver c.args.left.index s) c.in-Arrow.is c.shape.ensures.earlier in
    let other = subst (λ s. IsOver c.args.right.index s) c.in-Arrow-shape.is c.shape-in-Arrow.ensures.earlier in
    let one = c.requires.left in
    let two = c.requires.right in
    let stands = subst (λ o. IfSome o (λ number. Stands c.meet_no.new.table number)) c.in-Some.is c.in_ok-outcome-in-Arrow.ensures.stands in
    let meet = subst (λ o. IfSome o (λ number. IsMeet (type_of c.args.table.now c.in-Arrow.left_outcome) (type_of c.args.table.now c.in-Arrow-shape.right_outcome) (type_of c.meet_no.new.table number) c.args.verdicts.now.dialect)) c.in-Some.is c.in_ok-outcome-in-Arrow.ensures.some in
    arrow_meet c.args.table.now c.meet_no.new.table c.join_no.new.table (type_of c.args.table.now c.args.left) (type_of c.args.table.now c.args.right) (type_of c.arrow.new.self c.in_ok-number-in-Arrow.number) c.in-Arrow.left_parameter c.in-Arrow.left_outcome c.in-Arrow-shape.right_parameter c.in-Arrow-shape.right_outcome c.in-Some.outcome c.in_ok-parameter-in-Arrow.parameter c.args.verdicts.now.dialect c.meet_no.new.verdicts.dialect
    (arrow_told c.args.table.now (type_of c.args.table.now c.args.left) c.shape.result.now c.in-Arrow.left_parameter c.in-Arrow.left_outcome c.shape.ensures.form c.in-Arrow.is)
    (arrow_told c.args.table.now (type_of c.args.table.now c.args.right) c.shape-in-Arrow.result.now c.in-Arrow-shape.right_parameter c.in-Arrow-shape.right_outcome c.shape-in-Arrow.ensures.form c.in-Arrow-shape.is)
    c.in_ok-outcome-in-Arrow.ensures.keeps c.in_ok-parameter-in-Arrow.ensures.keeps (omega (arith, earlier.0, one)) (omega (arith, other.0, two)) stands
    meet c.in_ok-outcome-in-Arrow.ensures.dialect c.in_ok-parameter-in-Arrow.ensures.join c.in_ok-number-in-Arrow.ensures.number.type

pub join_by_shape-returns-in_default-2-clause-order : goal.join_by_shape-returns-in_default-2-clause-order
join_by_shape-returns-in_default-2-clause-order t c =
    IfOk-weaker c.intern.result _ (λ number. JoinsInOrder (type_of c.args.table.now c.args.left) (type_of c.args.table.now c.args.right) (type_of c.intern.new.self number))
    (λ number is. subst (λ j. JoinsInOrder (type_of c.args.table.now c.args.left) (type_of c.args.table.now c.args.right) j) (sym is.type) (join_without_parts tt))
    c.intern.ensures.number

pub join_by_shape-returns-in_ok-outcome-in-Arrow-clause-order : goal.join_by_shape-returns-in_ok-outcome-in-Arrow-clause-order
join_by_shape-returns-in_ok-outcome-in-Arrow-clause-order t c =
    let earlier = subst (λ s. IsOver c.args.left.index s) c.in-Arrow.is c.shape.ensures.earlier in
    let other = subst (λ s. IsOver c.args.right.index s) c.in-Arrow-shape.is c.shape-in-Arrow.ensures.earlier in
    let one = c.requires.left in
    let two = c.requires.right in
    let stands = subst (λ o. IfSome o (λ number. Stands c.meet_no.new.table number)) c.in-Some.is c.in_ok-parameter-in-Arrow.ensures.stands in
    let meet = subst (λ o. IfSome o (λ number. MeetsInOrder (type_of c.args.table.now c.in-Arrow.left_parameter) (type_of c.args.table.now c.in-Arrow-shape.right_parameter) (type_of c.meet_no.new.table number))) c.in-Some.is c.in_ok-parameter-in-Arrow.ensures.order in
    IfOk-weaker c.arrow.result _ (λ number. JoinsInOrder (type_of c.args.table.now c.args.left) (type_of c.args.table.now c.args.right) (type_of c.arrow.new.self number))
    (λ number is. arrow_join_order c.args.table.now c.meet_no.new.table c.join_no.new.table (type_of c.args.table.now c.args.left) (type_of c.args.table.now c.args.right) (type_of c.arrow.new.self number) c.in-Arrow.left_parameter c.in-Arrow.left_outcome c.in-Arrow-shape.right_parameter c.in-Arrow-shape.right_outcome c.in-Some.parameter c.in_ok-outcome-in-Arrow.outcome
    (arrow_told c.args.table.now (type_of c.args.table.now c.args.left) c.shape.result.now c.in-Arrow.left_parameter c.in-Arrow.left_outcome c.shape.ensures.form c.in-Arrow.is)
    (arrow_told c.args.table.now (type_of c.args.table.now c.args.right) c.shape-in-Arrow.result.now c.in-Arrow-shape.right_parameter c.in-Arrow-shape.right_outcome c.shape-in-Arrow.ensures.form c.in-Arrow-shape.is)
    c.in_ok-parameter-in-Arrow.ensures.keeps c.in_ok-outcome-in-Arrow.ensures.keeps (omega (arith, earlier.1, one)) (omega (arith, other.1, two)) stands
    meet c.in_ok-outcome-in-Arrow.ensures.order is.type)
    c.arrow.ensures.number

pub meet_by_shape-returns-in_ok-number-in-Arrow-clause-order : goal.meet_by_shape-returns-in_ok-number-in-Arrow-clause-order
meet_by_shape-returns-in_ok-number-in-Arrow-clause-order t c =
    let earlier = subst (λ s. IsOver c.args.left.index s) c.in-Arrow.is c.shape.ensures.earlier in
    let other = subst (λ s. IsOver c.args.right.index s) c.in-Arrow-shape.is c.shape-in-Arrow.ensures.earlier in
    let one = c.requires.left in
    let two = c.requires.right in
    let stands = subst (λ o. IfSome o (λ number. Stands c.meet_no.new.table number)) c.in-Some.is c.in_ok-outcome-in-Arrow.ensures.stands in
    let meet = subst (λ o. IfSome o (λ number. MeetsInOrder (type_of c.args.table.now c.in-Arrow.left_outcome) (type_of c.args.table.now c.in-Arrow-shape.right_outcome) (type_of c.meet_no.new.table number))) c.in-Some.is c.in_ok-outcome-in-Arrow.ensures.order in
    arrow_meet_order c.args.table.now c.meet_no.new.table c.join_no.new.table (type_of c.args.table.now c.args.left) (type_of c.args.table.now c.args.right) (type_of c.arrow.new.self c.in_ok-number-in-Arrow.number) c.in-Arrow.left_parameter c.in-Arrow.left_outcome c.in-Arrow-shape.right_parameter c.in-Arrow-shape.right_outcome c.in-Some.outcome c.in_ok-parameter-in-Arrow.parameter
    (arrow_told c.args.table.now (type_of c.args.table.now c.args.left) c.shape.result.now c.in-Arrow.left_parameter c.in-Arrow.left_outcome c.shape.ensures.form c.in-Arrow.is)
    (arrow_told c.args.table.now (type_of c.args.table.now c.args.right) c.shape-in-Arrow.result.now c.in-Arrow-shape.right_parameter c.in-Arrow-shape.right_outcome c.shape-in-Arrow.ensures.form c.in-Arrow-shape.is)
    c.in_ok-outcome-in-Arrow.ensures.keeps c.in_ok-parameter-in-Arrow.ensures.keeps (omega (arith, earlier.0, one)) (omega (arith, other.0, two)) stands
    meet c.in_ok-parameter-in-Arrow.ensures.order c.in_ok-number-in-Arrow.ensures.number.type

-- two record types

pub join_by_shape-join_fields-requires : goal.join_by_shape-join_fields-requires
join_by_shape-join_fields-requires t c =
    let are = subst (λ ms. AreMatches c.deref-in-Record.result.now c.deref.result.now ms) (sym c.deref-in-Record-2.ensures.value) c.in_ok-matches-in-Record.ensures in
    let bound = matches_bound c.args.left.index c.deref-in-Record.result.now c.deref.result.now c.deref-in-Record-2.result.now are (subst (λ fs. AreEarlier c.args.left.index fs) (sym c.deref.ensures.value) (subst (λ s. IsOver c.args.left.index s) c.in-Record.is c.shape.ensures.earlier)) in (
      omega (arith, c.decreases, bound),
      (
        matches_below _ c.deref-in-Record.result.now c.deref.result.now c.deref-in-Record-2.result.now are
            (stand_in c.args.left.index _ c.shape.result.now _ c.deref.result.now c.shape.ensures.earlier c.requires.left c.in-Record.is c.deref.ensures.value)
            (stand_in c.args.right.index _ c.shape-in-Record.result.now _ c.deref-in-Record.result.now c.shape-in-Record.ensures.earlier c.requires.right c.in-Record-shape.is c.deref-in-Record.ensures.value),
        c.requires.verdicts_right,
      ),
    )

pub join_by_shape-intern-requires-in-Record-clause-labels : goal.join_by_shape-intern-requires-in-Record-clause-labels
join_by_shape-intern-requires-in-Record-clause-labels t c =
    let are = subst (λ ms. AreMatches c.deref-in-Record.result.now c.deref.result.now ms) (sym c.deref-in-Record-2.ensures.value) c.in_ok-matches-in-Record.ensures in
    join_labels c.args.table.now c.join_fields.new.table (type_of c.args.table.now c.args.left) (type_of c.args.table.now c.args.right) c.deref.result.now c.deref-in-Record.result.now c.in_ok-items-in-Record.items.items c.args.verdicts.now.dialect
    (record_of_numbers c.args.table.now (type_of c.args.table.now c.args.left) c.shape.result.now _ c.deref.result.now c.shape.ensures.form c.in-Record.is c.deref.ensures.value)
    (record_of_numbers c.args.table.now (type_of c.args.table.now c.args.right) c.shape-in-Record.result.now _ c.deref-in-Record.result.now c.shape-in-Record.ensures.form c.in-Record-shape.is c.deref-in-Record.ensures.value)
    c.shape.ensures.wf c.shape-in-Record.ensures.wf (c.in_ok-items-in-Record.ensures.joined c.deref.result.now c.deref-in-Record.result.now are)

pub join_by_shape-returns-in_ok-items-in-Record-clause-join : goal.join_by_shape-returns-in_ok-items-in-Record-clause-join
join_by_shape-returns-in_ok-items-in-Record-clause-join t c =
    let are = subst (λ ms. AreMatches c.deref-in-Record.result.now c.deref.result.now ms) (sym c.deref-in-Record-2.ensures.value) c.in_ok-matches-in-Record.ensures in
    IfOk-weaker c.intern-in-Record.result _ (λ number. IsJoin (type_of c.args.table.now c.args.left) (type_of c.args.table.now c.args.right) (type_of c.intern-in-Record.new.self number) c.args.verdicts.now.dialect)
    (λ number is. record_join c.args.table.now c.join_fields.new.table (type_of c.args.table.now c.args.left) (type_of c.args.table.now c.args.right) (type_of c.intern-in-Record.new.self number) c.deref.result.now c.deref-in-Record.result.now c.in_ok-items-in-Record.items.items c.args.verdicts.now.dialect
    (record_of_numbers c.args.table.now (type_of c.args.table.now c.args.left) c.shape.result.now _ c.deref.result.now c.shape.ensures.form c.in-Record.is c.deref.ensures.value)
    (record_of_numbers c.args.table.now (type_of c.args.table.now c.args.right) c.shape-in-Record.result.now _ c.deref-in-Record.result.now c.shape-in-Record.ensures.form c.in-Record-shape.is c.deref-in-Record.ensures.value)
    c.shape.ensures.wf c.shape-in-Record.ensures.wf (c.in_ok-items-in-Record.ensures.joined c.deref.result.now c.deref-in-Record.result.now are) is.type)
    c.intern-in-Record.ensures.number

pub join_by_shape-returns-in_ok-items-in-Record-clause-order : goal.join_by_shape-returns-in_ok-items-in-Record-clause-order
join_by_shape-returns-in_ok-items-in-Record-clause-order t c =
    let are = subst (λ ms. AreMatches c.deref-in-Record.result.now c.deref.result.now ms) (sym c.deref-in-Record-2.ensures.value) c.in_ok-matches-in-Record.ensures in
    IfOk-weaker c.intern-in-Record.result _ (λ number. JoinsInOrder (type_of c.args.table.now c.args.left) (type_of c.args.table.now c.args.right) (type_of c.intern-in-Record.new.self number))
    (λ number is. record_join_order c.args.table.now c.join_fields.new.table (type_of c.args.table.now c.args.left) (type_of c.args.table.now c.args.right) (type_of c.intern-in-Record.new.self number) c.deref.result.now c.deref-in-Record.result.now c.in_ok-items-in-Record.items.items c.args.verdicts.now.dialect
    (record_of_numbers c.args.table.now (type_of c.args.table.now c.args.left) c.shape.result.now _ c.deref.result.now c.shape.ensures.form c.in-Record.is c.deref.ensures.value)
    (record_of_numbers c.args.table.now (type_of c.args.table.now c.args.right) c.shape-in-Record.result.now _ c.deref-in-Record.result.now c.shape-in-Record.ensures.form c.in-Record-shape.is c.deref-in-Record.ensures.value)
    (c.in_ok-items-in-Record.ensures.joined c.deref.result.now c.deref-in-Record.result.now are) is.type)
    c.intern-in-Record.ensures.number

pub meet_by_shape-meet_fields-requires : goal.meet_by_shape-meet_fields-requires
meet_by_shape-meet_fields-requires t c =
    let are = subst (λ ms. AreMatches c.deref-in-Record.result.now c.deref.result.now ms) (sym c.deref-in-Record-4.ensures.value) c.in_ok-matches-in-Record.ensures in
    let bound = matches_bound c.args.left.index c.deref-in-Record.result.now c.deref.result.now c.deref-in-Record-4.result.now are (subst (λ fs. AreEarlier c.args.left.index fs) (sym c.deref.ensures.value) (subst (λ s. IsOver c.args.left.index s) c.in-Record.is c.shape.ensures.earlier)) in (
      omega (arith, c.decreases, bound),
      (
        matches_below _ c.deref-in-Record.result.now c.deref.result.now c.deref-in-Record-4.result.now are
            (stand_in c.args.left.index _ c.shape.result.now _ c.deref.result.now c.shape.ensures.earlier c.requires.left c.in-Record.is c.deref.ensures.value)
            (stand_in c.args.right.index _ c.shape-in-Record.result.now _ c.deref-in-Record.result.now c.shape-in-Record.ensures.earlier c.requires.right c.in-Record-shape.is c.deref-in-Record.ensures.value),
        c.requires.verdicts_right,
      ),
    )

pub meet_by_shape-returns-in_default-3-clause-none : goal.meet_by_shape-returns-in_default-3-clause-none
meet_by_shape-returns-in_default-3-clause-none t c =
    let are = subst (λ ms. AreMatches c.deref-in-Record.result.now c.deref.result.now ms) (sym c.deref-in-Record-4.ensures.value) c.in_ok-matches-in-Record.ensures in
    let none = subst (λ o. IfNone o ((left right : List (String Global × TyNo)) → AreMatches right left c.deref-in-Record-4.result.now
    → HaveNoMeet (record_of (fields_over c.args.table.now left)) (record_of (fields_over c.args.table.now right)) c.args.verdicts.now.dialect)) c.in_default-3.is c.in_ok-met-in-Record.ensures.none in
    no_meet_seen (type_of c.args.table.now c.args.left) (type_of c.args.table.now c.args.right) _ _ c.args.verdicts.now.dialect
    (sym (record_of_numbers c.args.table.now (type_of c.args.table.now c.args.left) c.shape.result.now _ c.deref.result.now c.shape.ensures.form c.in-Record.is c.deref.ensures.value))
    (sym (record_of_numbers c.args.table.now (type_of c.args.table.now c.args.right) c.shape-in-Record.result.now _ c.deref-in-Record.result.now c.shape-in-Record.ensures.form c.in-Record-shape.is c.deref-in-Record.ensures.value))
    (none c.deref.result.now c.deref-in-Record.result.now are)

pub meet_by_shape-intern-requires-clause-over : goal.meet_by_shape-intern-requires-clause-over
meet_by_shape-intern-requires-clause-over t c =
    let more = c.in_ok-more-in-Record.ensures.below (length c.args.table.now)
    (stand_in c.args.right.index _ c.shape-in-Record.result.now _ c.deref-in-Record-3.result.now c.shape-in-Record.ensures.earlier c.requires.right c.in-Record-shape.is c.deref-in-Record-3.ensures.value) in
    let stand = subst (λ o. IfSome o (λ made. AreEarlier (length c.meet_fields.new.table) made.items)) c.in-Some-2.is c.in_ok-met-in-Record.ensures.stand in
    subst (λ fs. AreEarlier (length c.meet_fields.new.table) fs) (sym c.in_ok-append-in-Record.ensures.items)
    (below_append (length c.meet_fields.new.table) c.in-Some-2.met.items c.in_ok-more-in-Record.more.items stand
    (below_more (length c.args.table.now) (length c.meet_fields.new.table) c.in_ok-more-in-Record.more.items more (keeps_length c.args.table.now c.meet_fields.new.table c.in_ok-met-in-Record.ensures.keeps)))

pub meet_by_shape-intern-requires-clause-labels : goal.meet_by_shape-intern-requires-clause-labels
meet_by_shape-intern-requires-clause-labels t c =
    let are = subst (λ ms. AreMatches c.deref-in-Record.result.now c.deref.result.now ms) (sym c.deref-in-Record-4.ensures.value) c.in_ok-matches-in-Record.ensures in
    let met = subst (λ o. IfSome o (λ made. (left right : List (String Global × TyNo)) → AreMatches right left c.deref-in-Record-4.result.now
    → AreMet (OrderlyMeets c.args.verdicts.now.dialect) (fields_over c.args.table.now right) (fields_over c.args.table.now left) (fields_over c.meet_fields.new.table made.items))) c.in-Some-2.is c.in_ok-met-in-Record.ensures.some in
    let others = c.in_ok-more-in-Record.ensures.others c.args.table.now
    ∙ ap (λ x. other_fields (fields_over c.args.table.now x) (fields_over c.args.table.now c.deref-in-Record-2.result.now)) (c.deref-in-Record-3.ensures.value ∙ sym c.deref-in-Record.ensures.value)
    ∙ ap (λ x. other_fields (fields_over c.args.table.now c.deref-in-Record.result.now) (fields_over c.args.table.now x)) (c.deref-in-Record-2.ensures.value ∙ sym c.deref.ensures.value) in
    let more = c.in_ok-more-in-Record.ensures.below (length c.args.table.now)
    (stand_in c.args.right.index _ c.shape-in-Record.result.now _ c.deref-in-Record-3.result.now c.shape-in-Record.ensures.earlier c.requires.right c.in-Record-shape.is c.deref-in-Record-3.ensures.value) in
    meet_labels c.args.table.now c.meet_fields.new.table (type_of c.args.table.now c.args.left) (type_of c.args.table.now c.args.right) c.deref.result.now c.deref-in-Record.result.now c.in-Some-2.met.items c.in_ok-more-in-Record.more.items c.append.new.self.items c.args.verdicts.now.dialect
    (record_of_numbers c.args.table.now (type_of c.args.table.now c.args.left) c.shape.result.now _ c.deref.result.now c.shape.ensures.form c.in-Record.is c.deref.ensures.value)
    (record_of_numbers c.args.table.now (type_of c.args.table.now c.args.right) c.shape-in-Record.result.now _ c.deref-in-Record.result.now c.shape-in-Record.ensures.form c.in-Record-shape.is c.deref-in-Record.ensures.value)
    c.shape.ensures.wf c.shape-in-Record.ensures.wf c.in_ok-met-in-Record.ensures.keeps (met c.deref.result.now c.deref-in-Record.result.now are) more others c.in_ok-append-in-Record.ensures.items

pub meet_by_shape-returns-in_ok-number-in-Record-clause-some : goal.meet_by_shape-returns-in_ok-number-in-Record-clause-some
meet_by_shape-returns-in_ok-number-in-Record-clause-some t c =
    let are = subst (λ ms. AreMatches c.deref-in-Record.result.now c.deref.result.now ms) (sym c.deref-in-Record-4.ensures.value) c.in_ok-matches-in-Record.ensures in
    let met = subst (λ o. IfSome o (λ made. (left right : List (String Global × TyNo)) → AreMatches right left c.deref-in-Record-4.result.now
    → AreMet (OrderlyMeets c.args.verdicts.now.dialect) (fields_over c.args.table.now right) (fields_over c.args.table.now left) (fields_over c.meet_fields.new.table made.items))) c.in-Some-2.is c.in_ok-met-in-Record.ensures.some in
    let others = c.in_ok-more-in-Record.ensures.others c.args.table.now
    ∙ ap (λ x. other_fields (fields_over c.args.table.now x) (fields_over c.args.table.now c.deref-in-Record-2.result.now)) (c.deref-in-Record-3.ensures.value ∙ sym c.deref-in-Record.ensures.value)
    ∙ ap (λ x. other_fields (fields_over c.args.table.now c.deref-in-Record.result.now) (fields_over c.args.table.now x)) (c.deref-in-Record-2.ensures.value ∙ sym c.deref.ensures.value) in
    let more = c.in_ok-more-in-Record.ensures.below (length c.args.table.now)
    (stand_in c.args.right.index _ c.shape-in-Record.result.now _ c.deref-in-Record-3.result.now c.shape-in-Record.ensures.earlier c.requires.right c.in-Record-shape.is c.deref-in-Record-3.ensures.value) in
    record_meet c.args.table.now c.meet_fields.new.table (type_of c.args.table.now c.args.left) (type_of c.args.table.now c.args.right) (type_of c.intern.new.self c.in_ok-number-in-Record.number) c.deref.result.now c.deref-in-Record.result.now c.in-Some-2.met.items c.in_ok-more-in-Record.more.items c.append.new.self.items c.args.verdicts.now.dialect
    (record_of_numbers c.args.table.now (type_of c.args.table.now c.args.left) c.shape.result.now _ c.deref.result.now c.shape.ensures.form c.in-Record.is c.deref.ensures.value)
    (record_of_numbers c.args.table.now (type_of c.args.table.now c.args.right) c.shape-in-Record.result.now _ c.deref-in-Record.result.now c.shape-in-Record.ensures.form c.in-Record-shape.is c.deref-in-Record.ensures.value)
    c.shape.ensures.wf c.shape-in-Record.ensures.wf c.in_ok-met-in-Record.ensures.keeps (met c.deref.result.now c.deref-in-Record.result.now are) more others c.in_ok-append-in-Record.ensures.items c.in_ok-number-in-Record.ensures.number.type

pub meet_by_shape-returns-in_ok-number-in-Record-clause-order : goal.meet_by_shape-returns-in_ok-number-in-Record-clause-order
meet_by_shape-returns-in_ok-number-in-Record-clause-order t c =
    let are = subst (λ ms. AreMatches c.deref-in-Record.result.now c.deref.result.now ms) (sym c.deref-in-Record-4.ensures.value) c.in_ok-matches-in-Record.ensures in
    let met = subst (λ o. IfSome o (λ made. (left right : List (String Global × TyNo)) → AreMatches right left c.deref-in-Record-4.result.now
    → AreMet (OrderlyMeets c.args.verdicts.now.dialect) (fields_over c.args.table.now right) (fields_over c.args.table.now left) (fields_over c.meet_fields.new.table made.items))) c.in-Some-2.is c.in_ok-met-in-Record.ensures.some in
    let others = c.in_ok-more-in-Record.ensures.others c.args.table.now
    ∙ ap (λ x. other_fields (fields_over c.args.table.now x) (fields_over c.args.table.now c.deref-in-Record-2.result.now)) (c.deref-in-Record-3.ensures.value ∙ sym c.deref-in-Record.ensures.value)
    ∙ ap (λ x. other_fields (fields_over c.args.table.now c.deref-in-Record.result.now) (fields_over c.args.table.now x)) (c.deref-in-Record-2.ensures.value ∙ sym c.deref.ensures.value) in
    let more = c.in_ok-more-in-Record.ensures.below (length c.args.table.now)
    (stand_in c.args.right.index _ c.shape-in-Record.result.now _ c.deref-in-Record-3.result.now c.shape-in-Record.ensures.earlier c.requires.right c.in-Record-shape.is c.deref-in-Record-3.ensures.value) in
    record_meet_order c.args.table.now c.meet_fields.new.table (type_of c.args.table.now c.args.left) (type_of c.args.table.now c.args.right) (type_of c.intern.new.self c.in_ok-number-in-Record.number) c.deref.result.now c.deref-in-Record.result.now c.in-Some-2.met.items c.in_ok-more-in-Record.more.items c.append.new.self.items c.args.verdicts.now.dialect
    (record_of_numbers c.args.table.now (type_of c.args.table.now c.args.left) c.shape.result.now _ c.deref.result.now c.shape.ensures.form c.in-Record.is c.deref.ensures.value)
    (record_of_numbers c.args.table.now (type_of c.args.table.now c.args.right) c.shape-in-Record.result.now _ c.deref-in-Record.result.now c.shape-in-Record.ensures.form c.in-Record-shape.is c.deref-in-Record.ensures.value)
    c.in_ok-met-in-Record.ensures.keeps (met c.deref.result.now c.deref-in-Record.result.now are) more others c.in_ok-append-in-Record.ensures.items c.in_ok-number-in-Record.ensures.number.type

-- field by field

pub join_fields-join_no-requires : goal.join_fields-join_no-requires
join_fields-join_no-requires t c =
    let longer = keeps_length c.args.table.now c.loop-i.table c.loop-i.invariant.keeps in
    let bound = match_bound c.args.matches.now c.loop-i.i c.index-matches-i.result c.loop-i-test.true c.index-matches-i.is in
    let left = (match_below (length c.args.table.now) c.args.matches.now c.loop-i.i c.index-matches-i.result c.requires.stand c.loop-i-test.true c.index-matches-i.is).0 in
    let right = right_below (length c.args.table.now) c.args.matches.now c.loop-i.i c.index-matches-i.result c.in-Some.right c.requires.stand c.loop-i-test.true c.index-matches-i.is c.in-Some.is in (
      omega (arith, c.decreases, bound),
      (omega (arith, left, longer), (omega (arith, right, longer), c.loop-i.invariant.right)),
    )

pub meet_fields-meet_no-requires : goal.meet_fields-meet_no-requires
meet_fields-meet_no-requires t c =
    let longer = keeps_length c.args.table.now c.loop-i.table c.loop-i.invariant.keeps in
    let bound = match_bound c.args.matches.now c.loop-i.i c.index-matches-i.result c.loop-i-test.true c.index-matches-i.is in
    let left = (match_below (length c.args.table.now) c.args.matches.now c.loop-i.i c.index-matches-i.result c.requires.stand c.loop-i-test.true c.index-matches-i.is).0 in
    let right = right_below (length c.args.table.now) c.args.matches.now c.loop-i.i c.index-matches-i.result c.in-Some.right c.requires.stand c.loop-i-test.true c.index-matches-i.is c.in-Some.is in (
      omega (arith, c.decreases, bound),
      (omega (arith, left, longer), (omega (arith, right, longer), c.loop-i.invariant.right)),
    )

pub join_fields-loop-i-preserved-in_default : goal.join_fields-loop-i-preserved-in_default
join_fields-loop-i-preserved-in_default t c = record {
  keeps = c.loop-i.invariant.keeps;
  dialect = c.loop-i.invariant.dialect;
  right = c.loop-i.invariant.right;
  stand = c.loop-i.invariant.stand;
  joins = joins_without (OrderlyJoins c.args.verdicts.now.dialect) c.args.table.now c.loop-i.table c.args.matches.now c.loop-i.i c.index-matches-i.result c.loop-i.made.items c.loop-i-test.true c.index-matches-i.is c.in_default.is c.loop-i.invariant.joins;
}

pub join_fields-loop-i-preserved : goal.join_fields-loop-i-preserved
join_fields-loop-i-preserved t c = record {
  keeps = keeps_trans c.args.table.now c.loop-i.table c.join_no.new.table c.loop-i.invariant.keeps c.in_ok-number.ensures.keeps;
  dialect = c.in_ok-number.ensures.dialect ∙ c.loop-i.invariant.dialect;
  right = c.in_ok-number.ensures.verdicts_right;
  stand = subst (λ fs. AreEarlier (length c.join_no.new.table) fs) (sym c.in_ok-push.ensures.items)
      (below-push (length c.join_no.new.table) c.loop-i.made.items (c.in_ok-label.label, c.in_ok-number.number)
      (below_more (length c.loop-i.table) (length c.join_no.new.table) c.loop-i.made.items c.loop-i.invariant.stand (keeps_length c.loop-i.table c.join_no.new.table c.in_ok-number.ensures.keeps)) c.in_ok-number.ensures.stands);
  joins = joins_more (OrderlyJoins c.args.verdicts.now.dialect) c.args.table.now c.loop-i.table c.join_no.new.table c.args.matches.now c.loop-i.i c.index-matches-i.result c.loop-i.made.items c.push.new.self.items c.in_ok-label.label c.in-Some.right c.in_ok-number.number
      c.requires.stand c.loop-i-test.true c.index-matches-i.is c.in-Some.is c.loop-i.invariant.keeps c.in_ok-number.ensures.keeps c.loop-i.invariant.stand
      (subst (λ d. IsJoin (type_of c.loop-i.table c.index-matches-i.result.left) (type_of c.loop-i.table c.in-Some.right) (type_of c.join_no.new.table c.in_ok-number.number) d) c.loop-i.invariant.dialect c.in_ok-number.ensures.join, c.in_ok-number.ensures.order)
      c.in_ok-push.ensures.items c.in_ok-label.ensures.cases c.loop-i.invariant.joins;
}

pub join_fields-returns-clause-joined : goal.join_fields-returns-clause-joined
join_fields-returns-clause-joined t c = joins_all (OrderlyJoins c.args.verdicts.now.dialect) c.args.table.now c.loop-i.table c.args.matches.now c.loop-i.i c.loop-i.made.items c.loop-i-test.false c.loop-i.invariant.joins

pub meet_fields-loop-i-preserved-in_default : goal.meet_fields-loop-i-preserved-in_default
meet_fields-loop-i-preserved-in_default t c =
    let longer = keeps_length c.args.table.now c.loop-i.table c.loop-i.invariant.keeps in
    let left = (match_below (length c.args.table.now) c.args.matches.now c.loop-i.i c.index-matches-i.result c.requires.stand c.loop-i-test.true c.index-matches-i.is).0 in
    record {
      keeps = c.loop-i.invariant.keeps;
      dialect = c.loop-i.invariant.dialect;
      right = c.loop-i.invariant.right;
      stand = subst (λ fs. AreEarlier (length c.loop-i.table) fs) (sym c.in_ok-push.ensures.items)
          (below-push (length c.loop-i.table) c.loop-i.made.items (c.in_ok-label.label, c.index-matches-i.result.left) c.loop-i.invariant.stand (omega (arith, left, longer)));
      meets = meets_alone (OrderlyMeets c.args.verdicts.now.dialect) c.args.table.now c.loop-i.table c.args.matches.now c.loop-i.i c.index-matches-i.result c.loop-i.made.items c.push.new.self.items c.in_ok-label.label
          c.requires.stand c.loop-i-test.true c.index-matches-i.is c.in_default.is c.loop-i.invariant.keeps c.loop-i.invariant.stand c.in_ok-push.ensures.items c.in_ok-label.ensures.cases c.loop-i.invariant.meets;
    }

pub meet_fields-returns-in_default-2-clause-none : goal.meet_fields-returns-in_default-2-clause-none
meet_fields-returns-in_default-2-clause-none t c =
    let none = subst (λ o. IfNone o (HaveNoMeet (type_of c.loop-i.table c.index-matches-i.result.left) (type_of c.loop-i.table c.in-Some.right) c.loop-i.verdicts.dialect)) c.in_default-2.is c.in_ok-number.ensures.none in
    meet_missing c.args.verdicts.now.dialect c.args.table.now c.loop-i.table c.args.matches.now c.loop-i.i c.index-matches-i.result c.in-Some.right c.requires.stand c.loop-i-test.true c.index-matches-i.is c.in-Some.is c.loop-i.invariant.keeps
    (subst (λ d. HaveNoMeet (type_of c.loop-i.table c.index-matches-i.result.left) (type_of c.loop-i.table c.in-Some.right) d) c.loop-i.invariant.dialect none)

pub meet_fields-loop-i-preserved : goal.meet_fields-loop-i-preserved
meet_fields-loop-i-preserved t c =
    let stands = subst (λ o. IfSome o (λ number. Stands c.meet_no.new.table number)) c.in-Some-2.is c.in_ok-number.ensures.stands in
    let meet = subst (λ o. IfSome o (λ number. IsMeet (type_of c.loop-i.table c.index-matches-i.result.left) (type_of c.loop-i.table c.in-Some.right) (type_of c.meet_no.new.table number) c.loop-i.verdicts.dialect))
    c.in-Some-2.is c.in_ok-number.ensures.some in
    let order = subst (λ o. IfSome o (λ number. MeetsInOrder (type_of c.loop-i.table c.index-matches-i.result.left) (type_of c.loop-i.table c.in-Some.right) (type_of c.meet_no.new.table number)))
    c.in-Some-2.is c.in_ok-number.ensures.order in
    record {
      keeps = keeps_trans c.args.table.now c.loop-i.table c.meet_no.new.table c.loop-i.invariant.keeps c.in_ok-number.ensures.keeps;
      dialect = c.in_ok-number.ensures.dialect ∙ c.loop-i.invariant.dialect;
      right = c.in_ok-number.ensures.verdicts_right;
      stand = subst (λ fs. AreEarlier (length c.meet_no.new.table) fs) (sym c.in_ok-push-2.ensures.items)
          (below-push (length c.meet_no.new.table) c.loop-i.made.items (c.in_ok-label.label, c.in-Some-2.number)
          (below_more (length c.loop-i.table) (length c.meet_no.new.table) c.loop-i.made.items c.loop-i.invariant.stand (keeps_length c.loop-i.table c.meet_no.new.table c.in_ok-number.ensures.keeps)) stands);
      meets = meets_more (OrderlyMeets c.args.verdicts.now.dialect) c.args.table.now c.loop-i.table c.meet_no.new.table c.args.matches.now c.loop-i.i c.index-matches-i.result c.loop-i.made.items c.push-in-loop-i.new.self.items c.in_ok-label.label c.in-Some.right c.in-Some-2.number
          c.requires.stand c.loop-i-test.true c.index-matches-i.is c.in-Some.is c.loop-i.invariant.keeps c.in_ok-number.ensures.keeps c.loop-i.invariant.stand
          (subst (λ d. IsMeet (type_of c.loop-i.table c.index-matches-i.result.left) (type_of c.loop-i.table c.in-Some.right) (type_of c.meet_no.new.table c.in-Some-2.number) d) c.loop-i.invariant.dialect meet, order)
          c.in_ok-push-2.ensures.items c.in_ok-label.ensures.cases c.loop-i.invariant.meets;
    }

pub meet_fields-returns-clause-some : goal.meet_fields-returns-clause-some
meet_fields-returns-clause-some t c = meets_all (OrderlyMeets c.args.verdicts.now.dialect) c.args.table.now c.loop-i.table c.args.matches.now c.loop-i.i c.loop-i.made.items c.loop-i-test.false c.loop-i.invariant.meets

pub join_by_shape-meet_no-requires : goal.join_by_shape-meet_no-requires
join_by_shape-meet_no-requires t c =
    let earlier = subst (λ s. IsOver c.args.left.index s) c.in-Arrow.is c.shape.ensures.earlier in
    let other = subst (λ s. IsOver c.args.right.index s) c.in-Arrow-shape.is c.shape-in-Arrow.ensures.earlier in
    let one = c.requires.left in
    let two = c.requires.right in
    (omega (arith, c.decreases, earlier.0), (omega (arith, earlier.0, one), (omega (arith, other.0, two), c.requires.verdicts_right)))

pub meet_by_shape-meet_no-requires : goal.meet_by_shape-meet_no-requires
meet_by_shape-meet_no-requires t c =
    let earlier = subst (λ s. IsOver c.args.left.index s) c.in-Arrow.is c.shape.ensures.earlier in
    let other = subst (λ s. IsOver c.args.right.index s) c.in-Arrow-shape.is c.shape-in-Arrow.ensures.earlier in
    let one = c.requires.left in
    let two = c.requires.right in
    (omega (arith, c.decreases, earlier.1), (omega (arith, earlier.1, one), (omega (arith, other.1, two), c.requires.verdicts_right)))

pub join_by_shape-join_no-requires : goal.join_by_shape-join_no-requires
join_by_shape-join_no-requires t c =
    let earlier = subst (λ s. IsOver c.args.left.index s) c.in-Arrow.is c.shape.ensures.earlier in
    let other = subst (λ s. IsOver c.args.right.index s) c.in-Arrow-shape.is c.shape-in-Arrow.ensures.earlier in
    let one = c.requires.left in
    let two = c.requires.right in
    let longer = keeps_length _ _ c.in_ok-parameter-in-Arrow.ensures.keeps in
    (omega (arith, c.decreases, earlier.1), (omega (arith, earlier.1, one, longer), (omega (arith, other.1, two, longer), c.in_ok-parameter-in-Arrow.ensures.verdicts_right)))

pub meet_by_shape-join_no-requires : goal.meet_by_shape-join_no-requires
meet_by_shape-join_no-requires t c =
    let earlier = subst (λ s. IsOver c.args.left.index s) c.in-Arrow.is c.shape.ensures.earlier in
    let other = subst (λ s. IsOver c.args.right.index s) c.in-Arrow-shape.is c.shape-in-Arrow.ensures.earlier in
    let one = c.requires.left in
    let two = c.requires.right in
    let longer = keeps_length _ _ c.in_ok-outcome-in-Arrow.ensures.keeps in
    (omega (arith, c.decreases, earlier.0), (omega (arith, earlier.0, one, longer), (omega (arith, other.0, two, longer), c.in_ok-outcome-in-Arrow.ensures.verdicts_right)))

pub join_by_shape-arrow-requires-clause-parameter : goal.join_by_shape-arrow-requires-clause-parameter
join_by_shape-arrow-requires-clause-parameter t c =
    let longer = keeps_length _ _ c.in_ok-outcome-in-Arrow.ensures.keeps in
    let stands = subst (λ o. IfSome o (λ number. Stands c.meet_no.new.table number)) c.in-Some.is c.in_ok-parameter-in-Arrow.ensures.stands in
    omega arith

pub join_by_shape-arrow-requires-clause-outcome : goal.join_by_shape-arrow-requires-clause-outcome
join_by_shape-arrow-requires-clause-outcome t c = c.in_ok-outcome-in-Arrow.ensures.stands

pub meet_by_shape-arrow-requires-clause-parameter : goal.meet_by_shape-arrow-requires-clause-parameter
meet_by_shape-arrow-requires-clause-parameter t c = c.in_ok-parameter-in-Arrow.ensures.stands

pub meet_by_shape-arrow-requires-clause-outcome : goal.meet_by_shape-arrow-requires-clause-outcome
meet_by_shape-arrow-requires-clause-outcome t c =
    let longer = keeps_length _ _ c.in_ok-parameter-in-Arrow.ensures.keeps in
    let stands = subst (λ o. IfSome o (λ number. Stands c.meet_no.new.table number)) c.in-Some.is c.in_ok-outcome-in-Arrow.ensures.stands in
    omega arith

pub join_by_shape-returns-in_err-outcome-in-Arrow-clause-keeps : goal.join_by_shape-returns-in_err-outcome-in-Arrow-clause-keeps
join_by_shape-returns-in_err-outcome-in-Arrow-clause-keeps t c = keeps_trans _ _ _ c.meet_no.ensures.keeps c.join_no.ensures.keeps

pub join_by_shape-returns-in_err-outcome-in-Arrow-clause-dialect : goal.join_by_shape-returns-in_err-outcome-in-Arrow-clause-dialect
join_by_shape-returns-in_err-outcome-in-Arrow-clause-dialect t c = c.join_no.ensures.dialect ∙ c.meet_no.ensures.dialect

pub join_by_shape-returns-in_default-2-clause-keeps : goal.join_by_shape-returns-in_default-2-clause-keeps
join_by_shape-returns-in_default-2-clause-keeps t c = keeps_trans _ _ _ c.meet_no.ensures.keeps c.intern.ensures.keeps

pub join_by_shape-returns-in_default-2-clause-stands : goal.join_by_shape-returns-in_default-2-clause-stands
join_by_shape-returns-in_default-2-clause-stands t c = IfOk-weaker c.intern.result _ (Stands c.intern.new.self) (λ number is. is.stands) c.intern.ensures.number

pub join_by_shape-returns-in_ok-outcome-in-Arrow-clause-keeps : goal.join_by_shape-returns-in_ok-outcome-in-Arrow-clause-keeps
join_by_shape-returns-in_ok-outcome-in-Arrow-clause-keeps t c = keeps_trans _ _ _ (keeps_trans _ _ _ c.meet_no.ensures.keeps c.join_no.ensures.keeps) c.arrow.ensures.keeps

pub join_by_shape-returns-in_ok-outcome-in-Arrow-clause-dialect : goal.join_by_shape-returns-in_ok-outcome-in-Arrow-clause-dialect
join_by_shape-returns-in_ok-outcome-in-Arrow-clause-dialect t c = c.join_no.ensures.dialect ∙ c.meet_no.ensures.dialect

pub join_by_shape-returns-in_ok-outcome-in-Arrow-clause-stands : goal.join_by_shape-returns-in_ok-outcome-in-Arrow-clause-stands
join_by_shape-returns-in_ok-outcome-in-Arrow-clause-stands t c = IfOk-weaker c.arrow.result _ (Stands c.arrow.new.self) (λ number is. is.stands) c.arrow.ensures.number

pub join_by_shape-returns-in_ok-items-in-Record-clause-keeps : goal.join_by_shape-returns-in_ok-items-in-Record-clause-keeps
join_by_shape-returns-in_ok-items-in-Record-clause-keeps t c = keeps_trans _ _ _ c.join_fields.ensures.keeps c.intern-in-Record.ensures.keeps

pub join_by_shape-returns-in_ok-items-in-Record-clause-stands : goal.join_by_shape-returns-in_ok-items-in-Record-clause-stands
join_by_shape-returns-in_ok-items-in-Record-clause-stands t c = IfOk-weaker c.intern-in-Record.result _ (Stands c.intern-in-Record.new.self) (λ number is. is.stands) c.intern-in-Record.ensures.number

pub meet_by_shape-returns-in_err-parameter-in-Arrow-clause-keeps : goal.meet_by_shape-returns-in_err-parameter-in-Arrow-clause-keeps
meet_by_shape-returns-in_err-parameter-in-Arrow-clause-keeps t c = keeps_trans _ _ _ c.meet_no.ensures.keeps c.join_no.ensures.keeps

pub meet_by_shape-returns-in_err-parameter-in-Arrow-clause-dialect : goal.meet_by_shape-returns-in_err-parameter-in-Arrow-clause-dialect
meet_by_shape-returns-in_err-parameter-in-Arrow-clause-dialect t c = c.join_no.ensures.dialect ∙ c.meet_no.ensures.dialect

pub meet_by_shape-returns-in_err-number-in-Arrow-clause-keeps : goal.meet_by_shape-returns-in_err-number-in-Arrow-clause-keeps
meet_by_shape-returns-in_err-number-in-Arrow-clause-keeps t c = keeps_trans _ _ _ (keeps_trans _ _ _ c.meet_no.ensures.keeps c.join_no.ensures.keeps) c.arrow.ensures.keeps

pub meet_by_shape-returns-in_err-number-in-Arrow-clause-dialect : goal.meet_by_shape-returns-in_err-number-in-Arrow-clause-dialect
meet_by_shape-returns-in_err-number-in-Arrow-clause-dialect t c = c.join_no.ensures.dialect ∙ c.meet_no.ensures.dialect

pub meet_by_shape-returns-in_ok-number-in-Arrow-clause-keeps : goal.meet_by_shape-returns-in_ok-number-in-Arrow-clause-keeps
meet_by_shape-returns-in_ok-number-in-Arrow-clause-keeps t c = keeps_trans _ _ _ (keeps_trans _ _ _ c.meet_no.ensures.keeps c.join_no.ensures.keeps) c.arrow.ensures.keeps

pub meet_by_shape-returns-in_ok-number-in-Arrow-clause-dialect : goal.meet_by_shape-returns-in_ok-number-in-Arrow-clause-dialect
meet_by_shape-returns-in_ok-number-in-Arrow-clause-dialect t c = c.join_no.ensures.dialect ∙ c.meet_no.ensures.dialect

pub meet_by_shape-returns-in_ok-number-in-Arrow-clause-stands : goal.meet_by_shape-returns-in_ok-number-in-Arrow-clause-stands
meet_by_shape-returns-in_ok-number-in-Arrow-clause-stands t c = c.in_ok-number-in-Arrow.ensures.number.stands

pub meet_by_shape-returns-in_err-number-in-Record-clause-keeps : goal.meet_by_shape-returns-in_err-number-in-Record-clause-keeps
meet_by_shape-returns-in_err-number-in-Record-clause-keeps t c = keeps_trans _ _ _ c.meet_fields.ensures.keeps c.intern.ensures.keeps

pub meet_by_shape-returns-in_ok-number-in-Record-clause-keeps : goal.meet_by_shape-returns-in_ok-number-in-Record-clause-keeps
meet_by_shape-returns-in_ok-number-in-Record-clause-keeps t c = keeps_trans _ _ _ c.meet_fields.ensures.keeps c.intern.ensures.keeps

pub meet_by_shape-returns-in_ok-number-in-Record-clause-stands : goal.meet_by_shape-returns-in_ok-number-in-Record-clause-stands
meet_by_shape-returns-in_ok-number-in-Record-clause-stands t c = c.in_ok-number-in-Record.ensures.number.stands

pub join_by_shape-returns-in_err-matches-in-Record-clause-keeps : goal.join_by_shape-returns-in_err-matches-in-Record-clause-keeps
join_by_shape-returns-in_err-matches-in-Record-clause-keeps t c = keeps_same _

pub meet_by_shape-returns-in_err-matches-in-Record-clause-keeps : goal.meet_by_shape-returns-in_err-matches-in-Record-clause-keeps
meet_by_shape-returns-in_err-matches-in-Record-clause-keeps t c = keeps_same _

pub meet_by_shape-returns-in_err-more-in-Record-clause-keeps : goal.meet_by_shape-returns-in_err-more-in-Record-clause-keeps
meet_by_shape-returns-in_err-more-in-Record-clause-keeps t c = keeps_same _

pub join_fields-returns-in_err-number-clause-keeps : goal.join_fields-returns-in_err-number-clause-keeps
join_fields-returns-in_err-number-clause-keeps t c = keeps_trans _ _ _ c.loop-i.invariant.keeps c.join_no.ensures.keeps

pub join_fields-returns-in_err-number-clause-dialect : goal.join_fields-returns-in_err-number-clause-dialect
join_fields-returns-in_err-number-clause-dialect t c = c.join_no.ensures.dialect ∙ c.loop-i.invariant.dialect

pub join_fields-returns-in_err-label-clause-keeps : goal.join_fields-returns-in_err-label-clause-keeps
join_fields-returns-in_err-label-clause-keeps t c = keeps_trans _ _ _ c.loop-i.invariant.keeps c.join_no.ensures.keeps

pub join_fields-returns-in_err-label-clause-dialect : goal.join_fields-returns-in_err-label-clause-dialect
join_fields-returns-in_err-label-clause-dialect t c = c.join_no.ensures.dialect ∙ c.loop-i.invariant.dialect

pub join_fields-returns-in_err-push-clause-keeps : goal.join_fields-returns-in_err-push-clause-keeps
join_fields-returns-in_err-push-clause-keeps t c = keeps_trans _ _ _ c.loop-i.invariant.keeps c.join_no.ensures.keeps

pub join_fields-returns-in_err-push-clause-dialect : goal.join_fields-returns-in_err-push-clause-dialect
join_fields-returns-in_err-push-clause-dialect t c = c.join_no.ensures.dialect ∙ c.loop-i.invariant.dialect

pub meet_fields-returns-in_err-number-clause-keeps : goal.meet_fields-returns-in_err-number-clause-keeps
meet_fields-returns-in_err-number-clause-keeps t c = keeps_trans _ _ _ c.loop-i.invariant.keeps c.meet_no.ensures.keeps

pub meet_fields-returns-in_err-number-clause-dialect : goal.meet_fields-returns-in_err-number-clause-dialect
meet_fields-returns-in_err-number-clause-dialect t c = c.meet_no.ensures.dialect ∙ c.loop-i.invariant.dialect

pub meet_fields-returns-in_default-2-clause-keeps : goal.meet_fields-returns-in_default-2-clause-keeps
meet_fields-returns-in_default-2-clause-keeps t c = keeps_trans _ _ _ c.loop-i.invariant.keeps c.meet_no.ensures.keeps

pub meet_fields-returns-in_default-2-clause-dialect : goal.meet_fields-returns-in_default-2-clause-dialect
meet_fields-returns-in_default-2-clause-dialect t c = c.meet_no.ensures.dialect ∙ c.loop-i.invariant.dialect

pub meet_fields-returns-in_err-push-2-clause-keeps : goal.meet_fields-returns-in_err-push-2-clause-keeps
meet_fields-returns-in_err-push-2-clause-keeps t c = keeps_trans _ _ _ c.loop-i.invariant.keeps c.meet_no.ensures.keeps

pub meet_fields-returns-in_err-push-2-clause-dialect : goal.meet_fields-returns-in_err-push-2-clause-dialect
meet_fields-returns-in_err-push-2-clause-dialect t c = c.meet_no.ensures.dialect ∙ c.loop-i.invariant.dialect

pub join_fields-loop-i-init : goal.join_fields-loop-i-init
join_fields-loop-i-init t c = grind (arith, keeps_same)

pub meet_fields-loop-i-init : goal.meet_fields-loop-i-init
meet_fields-loop-i-init t c = grind (arith, keeps_same)

pub join_no-returns-then-left-right-clause-keeps : goal.join_no-returns-then-left-right-clause-keeps
join_no-returns-then-left-right-clause-keeps t c = keeps_same _

pub join_no-returns-in-Some-clause-keeps : goal.join_no-returns-in-Some-clause-keeps
join_no-returns-in-Some-clause-keeps t c = keeps_same _

pub join_no-returns-in-Some-clause-stands : goal.join_no-returns-in-Some-clause-stands
join_no-returns-in-Some-clause-stands t c =
    let known = subst (λ o. IfSome o (IsJoinOf c.args.table.now c.args.verdicts.now.dialect (c.args.left, c.args.right))) c.in-Some.is (c.known_join.ensures.right c.args.table.now c.requires.verdicts_right) in
    known.stands

pub join_no-returns-in-Some-clause-join : goal.join_no-returns-in-Some-clause-join
join_no-returns-in-Some-clause-join t c =
    let known = subst (λ o. IfSome o (IsJoinOf c.args.table.now c.args.verdicts.now.dialect (c.args.left, c.args.right))) c.in-Some.is (c.known_join.ensures.right c.args.table.now c.requires.verdicts_right) in
    known.join

pub join_no-returns-in-Some-clause-order : goal.join_no-returns-in-Some-clause-order
join_no-returns-in-Some-clause-order t c =
    let known = subst (λ o. IfSome o (IsJoinOf c.args.table.now c.args.verdicts.now.dialect (c.args.left, c.args.right))) c.in-Some.is (c.known_join.ensures.right c.args.table.now c.requires.verdicts_right) in
    known.order

pub join_no-returns-clause-stands : goal.join_no-returns-clause-stands
join_no-returns-clause-stands t c = c.in_ok-number.ensures.stands

pub join_no-returns-clause-join : goal.join_no-returns-clause-join
join_no-returns-clause-join t c = c.in_ok-number.ensures.join

pub join_no-returns-clause-order : goal.join_no-returns-clause-order
join_no-returns-clause-order t c = c.in_ok-number.ensures.order

pub join_no-returns-clause-dialect : goal.join_no-returns-clause-dialect
join_no-returns-clause-dialect t c = c.keep_join.ensures.dialect ∙ c.join_by_shape.ensures.dialect

pub join_no-returns-clause-keeps : goal.join_no-returns-clause-keeps
join_no-returns-clause-keeps t c = c.join_by_shape.ensures.keeps

pub join_no-returns-in_err-keep_join-clause-dialect : goal.join_no-returns-in_err-keep_join-clause-dialect
join_no-returns-in_err-keep_join-clause-dialect t c = c.keep_join.ensures.dialect ∙ c.join_by_shape.ensures.dialect

pub join_no-returns-in_err-keep_join-clause-keeps : goal.join_no-returns-in_err-keep_join-clause-keeps
join_no-returns-in_err-keep_join-clause-keeps t c = c.join_by_shape.ensures.keeps

pub meet_no-returns-then-left-right-clause-keeps : goal.meet_no-returns-then-left-right-clause-keeps
meet_no-returns-then-left-right-clause-keeps t c = keeps_same _

pub meet_no-returns-in-Some-clause-keeps : goal.meet_no-returns-in-Some-clause-keeps
meet_no-returns-in-Some-clause-keeps t c = keeps_same _

pub meet_no-returns-in-Some-clause-stands : goal.meet_no-returns-in-Some-clause-stands
meet_no-returns-in-Some-clause-stands t c =
    let known = subst (λ o. IfSome o (IsMeetOf c.args.table.now c.args.verdicts.now.dialect (c.args.left, c.args.right))) c.in-Some.is (c.known_meet.ensures.right c.args.table.now c.requires.verdicts_right) in
    known.stands

pub meet_no-returns-in-Some-clause-some : goal.meet_no-returns-in-Some-clause-some
meet_no-returns-in-Some-clause-some t c =
    let known = subst (λ o. IfSome o (IsMeetOf c.args.table.now c.args.verdicts.now.dialect (c.args.left, c.args.right))) c.in-Some.is (c.known_meet.ensures.right c.args.table.now c.requires.verdicts_right) in
    known.some

pub meet_no-returns-in-Some-clause-order : goal.meet_no-returns-in-Some-clause-order
meet_no-returns-in-Some-clause-order t c =
    let known = subst (λ o. IfSome o (IsMeetOf c.args.table.now c.args.verdicts.now.dialect (c.args.left, c.args.right))) c.in-Some.is (c.known_meet.ensures.right c.args.table.now c.requires.verdicts_right) in
    known.order

pub meet_no-returns-in-Some-clause-none : goal.meet_no-returns-in-Some-clause-none
meet_no-returns-in-Some-clause-none t c =
    let known = subst (λ o. IfSome o (IsMeetOf c.args.table.now c.args.verdicts.now.dialect (c.args.left, c.args.right))) c.in-Some.is (c.known_meet.ensures.right c.args.table.now c.requires.verdicts_right) in
    known.none

pub meet_no-returns-clause-stands : goal.meet_no-returns-clause-stands
meet_no-returns-clause-stands t c = c.in_ok-found.ensures.stands

pub meet_no-returns-clause-some : goal.meet_no-returns-clause-some
meet_no-returns-clause-some t c = c.in_ok-found.ensures.some

pub meet_no-returns-clause-order : goal.meet_no-returns-clause-order
meet_no-returns-clause-order t c = c.in_ok-found.ensures.order

pub meet_no-returns-clause-none : goal.meet_no-returns-clause-none
meet_no-returns-clause-none t c = c.in_ok-found.ensures.none

pub meet_no-returns-clause-dialect : goal.meet_no-returns-clause-dialect
meet_no-returns-clause-dialect t c = c.keep_meet.ensures.dialect ∙ c.meet_by_shape.ensures.dialect

pub meet_no-returns-clause-keeps : goal.meet_no-returns-clause-keeps
meet_no-returns-clause-keeps t c = c.meet_by_shape.ensures.keeps

pub meet_no-returns-in_err-keep_meet-clause-dialect : goal.meet_no-returns-in_err-keep_meet-clause-dialect
meet_no-returns-in_err-keep_meet-clause-dialect t c = c.keep_meet.ensures.dialect ∙ c.meet_by_shape.ensures.dialect

pub meet_no-returns-in_err-keep_meet-clause-keeps : goal.meet_no-returns-in_err-keep_meet-clause-keeps
meet_no-returns-in_err-keep_meet-clause-keeps t c = c.meet_by_shape.ensures.keeps

pub join_no-returns-clause-verdicts_right : goal.join_no-returns-clause-verdicts_right
join_no-returns-clause-verdicts_right t c =
    c.keep_join.ensures.right c.join_by_shape.new.table c.in_ok-number.ensures.verdicts_right
    (join_found c.args.table.now c.join_by_shape.new.table c.args.left c.args.right c.in_ok-number.number c.args.verdicts.now.dialect c.join_by_shape.new.verdicts.dialect
    c.in_ok-number.ensures.keeps c.requires.left c.requires.right c.in_ok-number.ensures.dialect c.in_ok-number.ensures.stands c.in_ok-number.ensures.join c.in_ok-number.ensures.order)

pub join_no-returns-in_err-keep_join-clause-verdicts_right : goal.join_no-returns-in_err-keep_join-clause-verdicts_right
join_no-returns-in_err-keep_join-clause-verdicts_right t c =
    c.keep_join.ensures.right c.join_by_shape.new.table c.in_ok-number.ensures.verdicts_right
    (join_found c.args.table.now c.join_by_shape.new.table c.args.left c.args.right c.in_ok-number.number c.args.verdicts.now.dialect c.join_by_shape.new.verdicts.dialect
    c.in_ok-number.ensures.keeps c.requires.left c.requires.right c.in_ok-number.ensures.dialect c.in_ok-number.ensures.stands c.in_ok-number.ensures.join c.in_ok-number.ensures.order)
