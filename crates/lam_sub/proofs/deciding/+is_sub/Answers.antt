use Rattle.std.proofs.Common.{rules, sym, string_bytes, subst, arith}
use Rattle.lam_rules.specs.Types.{IsAbsent, Has}
use Rattle.lam_rules.specs.TypeViews.{typ_of, fields_of}
use Rattle.lam_sub.proofs.Below.{no_field, nodes_of_field, record_iff}
use Rattle.lam_rules.proofs.SharedTexts.{has_wf}
use Rattle.lam_sub.proofs.LookUps.{item_has}
use Rattle.lam_sub.proofs.ByVariant.{at_top, at_same, not_bool, not_nat, not_unit, bool_and_nat, not_arrow, not_record, two_arrows, arrows_fail, arrows_rest, field_first, field_fails, field_holds, found_field, not_true}
use Rattle.lam_rules.proofs.TypeShapes.{typ_of-Arrow, typ_of-Record}
use Rattle.std.proofs.lemmas.Grind.{common_steps}
use Rattle.lam_sub.proofs.deciding.+is_sub.Goals as goal

pub is_sub-returns-in-Top : goal.is_sub-returns-in-Top
is_sub-returns-in-Top t c = at_top c.args.lower.now c.args.upper.now c.args.dialect c.in-Top.is c.requires.lower

pub is_sub-returns-in-Bool-lower : goal.is_sub-returns-in-Bool-lower
is_sub-returns-in-Bool-lower t c = at_same c.args.lower.now c.args.upper.now c.args.dialect (cc) c.requires.lower

pub is_sub-returns-in_default : goal.is_sub-returns-in_default
is_sub-returns-in_default t c = not_bool c.args.lower.now c.args.upper.now c.args.dialect c.in-Bool.is c.in_default.not-Bool

pub is_sub-returns-in-Nat-lower : goal.is_sub-returns-in-Nat-lower
is_sub-returns-in-Nat-lower t c = at_same c.args.lower.now c.args.upper.now c.args.dialect (cc) c.requires.lower

pub is_sub-returns-in-Bool-lower-2 : goal.is_sub-returns-in-Bool-lower-2
is_sub-returns-in-Bool-lower-2 t c = bool_and_nat c.args.lower.now c.args.upper.now c.args.dialect c.eq.result c.in-Bool-lower-2.is c.in-Nat.is (search rules)

pub is_sub-returns-in_default-lower : goal.is_sub-returns-in_default-lower
is_sub-returns-in_default-lower t c = not_nat c.args.lower.now c.args.upper.now c.args.dialect c.in-Nat.is c.in_default-lower.not-Nat c.in_default-lower.not-Bool

pub is_sub-returns-in-Unit-lower : goal.is_sub-returns-in-Unit-lower
is_sub-returns-in-Unit-lower t c = at_same c.args.lower.now c.args.upper.now c.args.dialect (cc) c.requires.lower

pub is_sub-returns-in_default-lower-2 : goal.is_sub-returns-in_default-lower-2
is_sub-returns-in_default-lower-2 t c = not_unit c.args.lower.now c.args.upper.now c.args.dialect c.in-Unit.is c.in_default-lower-2.not-Unit

pub is_sub-returns-in_default-lower-3 : goal.is_sub-returns-in_default-lower-3
is_sub-returns-in_default-lower-3 t c = not_arrow c.args.lower.now c.args.upper.now _ _ c.args.dialect c.in-Arrow.is c.in_default-lower-3.not-Arrow

pub is_sub-returns-in_default-lower-4 : goal.is_sub-returns-in_default-lower-4
is_sub-returns-in_default-lower-4 t c = not_record c.args.lower.now c.args.upper.now _ c.args.dialect c.in-Record.is c.in_default-lower-4.not-Record

pub is_sub-returns-then-not-is_sub : goal.is_sub-returns-then-not-is_sub
is_sub-returns-then-not-is_sub t c =
    arrows_fail _ _ _ c.is_sub.result
    (two_arrows c.args.lower.now c.args.upper.now _ _ _ _ c.args.dialect c.in-Arrow-lower.is c.in-Arrow.is)
    c.if-not-is_sub.true
    (rw (sym c.deref.ensures, sym c.deref-in-Arrow.ensures) c.is_sub.ensures)

pub is_sub-returns-else-not-is_sub : goal.is_sub-returns-else-not-is_sub
is_sub-returns-else-not-is_sub t c =
    arrows_rest _ _ _ c.is_sub.result c.is_sub-in-Arrow.result
    (two_arrows c.args.lower.now c.args.upper.now _ _ _ _ c.args.dialect c.in-Arrow-lower.is c.in-Arrow.is)
    c.if-not-is_sub.false
    (rw (sym c.deref.ensures, sym c.deref-in-Arrow.ensures) c.is_sub.ensures)
    (rw (sym c.deref-in-Arrow-2.ensures, sym c.deref-in-Arrow-3.ensures) c.is_sub-in-Arrow.ensures)

pub are_fields_sub-returns-in_default : goal.are_fields_sub-returns-in_default
are_fields_sub-returns-in_default t c =
    field_fails _ _ _ _
    (field_first (fields_of c.args.lower.now) c.args.upper.now c.loop-i.i c.index-upper-i.result c.args.dialect c.loop-i-test.true c.index-upper-i.is)
    c.loop-i.invariant
    (no_field (fields_of c.args.lower.now) c.args.dialect (string_bytes c.index-upper-i.result.0) (typ_of c.index-upper-i.result.1)
    (subst (λ l. IsAbsent l (fields_of c.args.lower.now)) c.deref.ensures c.in_default.ensures.absent))

pub are_fields_sub-returns-then-not-is_sub : goal.are_fields_sub-returns-then-not-is_sub
are_fields_sub-returns-then-not-is_sub t c =
    field_fails _ _ _ _
    (field_first (fields_of c.args.lower.now) c.args.upper.now c.loop-i.i c.index-upper-i.result c.args.dialect c.loop-i-test.true c.index-upper-i.is)
    c.loop-i.invariant
    (not_true _ c.is_sub.result c.if-not-is_sub.true
    (found_field (fields_of c.args.lower.now) c.args.dialect (string_bytes c.index-upper-i.result.0) _ (typ_of c.in-Some.ty.now) (typ_of c.index-upper-i.result.1) c.is_sub.result
    c.requires.lower c.deref.ensures c.in-Some.ensures.found c.is_sub.ensures))

pub are_fields_sub-loop-i-preserved : goal.are_fields_sub-loop-i-preserved
are_fields_sub-loop-i-preserved t c =
    field_holds _ _ _ _
    (field_first (fields_of c.args.lower.now) c.args.upper.now c.loop-i.i c.index-upper-i.result c.args.dialect c.loop-i-test.true c.index-upper-i.is)
    c.loop-i.invariant
    ((found_field (fields_of c.args.lower.now) c.args.dialect (string_bytes c.index-upper-i.result.0) _ (typ_of c.in-Some.ty.now) (typ_of c.index-upper-i.result.1) c.is_sub.result
    c.requires.lower c.deref.ensures c.in-Some.ensures.found c.is_sub.ensures).0 c.if-not-is_sub.false)

pub are_fields_sub-is_sub-requires : goal.are_fields_sub-is_sub-requires
are_fields_sub-is_sub-requires t c =
    let below = subst (λ l. Has l (typ_of c.in-Some.ty.now) (fields_of c.args.lower.now)) c.deref.ensures c.in-Some.ensures.found in
    let above = item_has c.args.upper.now c.loop-i.i c.index-upper-i.result c.loop-i-test.true c.index-upper-i.is in (
      omega (arith, c.decreases, nodes_of_field _ _ _ below, nodes_of_field _ _ _ above),
      (has_wf _ c.requires.lower _ _ below, has_wf _ c.requires.upper _ _ above),
    )

pub are_fields_sub-returns : goal.are_fields_sub-returns
are_fields_sub-returns t c = grind (arith, common_steps)

pub is_sub-is_sub-requires : goal.is_sub-is_sub-requires
is_sub-is_sub-requires t c = grind (arith, typ_of-Arrow)

pub is_sub-is_sub-requires-in-Arrow : goal.is_sub-is_sub-requires-in-Arrow
is_sub-is_sub-requires-in-Arrow t c = grind (arith, typ_of-Arrow)

pub is_sub-are_fields_sub-requires : goal.is_sub-are_fields_sub-requires
is_sub-are_fields_sub-requires t c = grind (arith, typ_of-Record)

pub is_sub-returns-in-Record-lower : goal.is_sub-returns-in-Record-lower
is_sub-returns-in-Record-lower t c = grind (arith, typ_of-Record, record_iff)
