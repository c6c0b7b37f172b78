use Rattle.lam_rules.proofs.LabelOrder.{inside_more, inside_all, sorted_types}
use Rattle.std.proofs.Common.{arith}
use Rattle.lam_rules.proofs.TypeShapes.{typ_of-Bool, typ_of-Nat, typ_of-Unit, typ_of-Top, typ_of-Arrow, typ_of-Record}
use Rattle.lam_rules.proofs.texts.+sorted.Goals as goal

pub sorted_fields_of-loop-i-preserved : goal.sorted_fields_of-loop-i-preserved
sorted_fields_of-loop-i-preserved t c =
    inside_more _ _ _ _ _ _ _ c.loop-i-test.true c.index-fields-i.is c.in_ok-push.ensures.items c.in_ok-label.ensures.cases c.in_ok-ty.ensures c.loop-i.invariant

pub sorted_fields_of-returns : goal.sorted_fields_of-returns
sorted_fields_of-returns t c =
    sorted_types _ _ _ c.in_ok-sort_by_label.ensures.sorting (inside_all _ _ _ c.loop-i-test.false c.loop-i.invariant)

pub sorted_of-returns-in-Bool : goal.sorted_of-returns-in-Bool
sorted_of-returns-in-Bool t c = grind (arith, typ_of-Bool)

pub sorted_of-returns-in-Nat : goal.sorted_of-returns-in-Nat
sorted_of-returns-in-Nat t c = grind (arith, typ_of-Nat)

pub sorted_of-returns-in-Unit : goal.sorted_of-returns-in-Unit
sorted_of-returns-in-Unit t c = grind (arith, typ_of-Unit)

pub sorted_of-returns-in-Top : goal.sorted_of-returns-in-Top
sorted_of-returns-in-Top t c = grind (arith, typ_of-Top)

pub sorted_of-returns-in_ok-sorted_outcome-in-Arrow : goal.sorted_of-returns-in_ok-sorted_outcome-in-Arrow
sorted_of-returns-in_ok-sorted_outcome-in-Arrow t c = grind (arith, typ_of-Arrow)

pub sorted_of-returns-in_ok-items-in-Record : goal.sorted_of-returns-in_ok-items-in-Record
sorted_of-returns-in_ok-items-in-Record t c = grind (arith, typ_of-Record)
