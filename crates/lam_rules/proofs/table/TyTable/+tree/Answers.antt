use Rattle.std.proofs.Common.{subst, sym, arith}
use Rattle.lam_rules.specs.Numbers.{AreEarlier, IsOver}
use Rattle.lam_rules.proofs.Tables.{below_more}
use Rattle.lam_rules.proofs.TableEntries.{below_read}
use Rattle.lam_rules.proofs.TableFields.{bound_below, bound_read, made_more, made_all}
use Rattle.lam_rules.proofs.TypeShapes.{typ_of-Bool, typ_of-Nat, typ_of-Unit, typ_of-Top, typ_of-Arrow, typ_of-Record}
use Rattle.lam_rules.proofs.table.TyTable.+tree.Goals as goal

pub tree-tree_fields-requires : goal.tree-tree_fields-requires
tree-tree_fields-requires t c =
    let earlier = subst (AreEarlier c.args.number.index) (sym c.deref.ensures.value) (subst (IsOver c.args.number.index) c.in-Record.is c.shape.ensures.earlier) in
    let bound = bound_below _ _ earlier in
    let stands = c.requires in
    (omega (arith, c.decreases), below_more _ _ _ earlier (omega arith))

pub tree_fields-tree-requires : goal.tree_fields-tree-requires
tree_fields-tree-requires t c =
    let bound = bound_read _ _ _ c.loop-i-test.true c.index-fields-i.is in
    (omega (arith, c.decreases), below_read _ _ _ _ c.requires c.loop-i-test.true c.index-fields-i.is)

pub tree_fields-loop-i-preserved : goal.tree_fields-loop-i-preserved
tree_fields-loop-i-preserved t c =
    made_more _ _ _ _ _ _ _ _ _ c.loop-i-test.true c.index-fields-i.is c.in_ok-push.ensures.items c.in_ok-label.ensures.cases c.in_ok-ty.ensures c.loop-i.invariant

pub tree_fields-returns : goal.tree_fields-returns
tree_fields-returns t c = made_all _ _ _ _ c.loop-i-test.false c.loop-i.invariant

pub tree-returns-in-Bool : goal.tree-returns-in-Bool
tree-returns-in-Bool t c = grind (arith, typ_of-Bool)

pub tree-returns-in-Nat : goal.tree-returns-in-Nat
tree-returns-in-Nat t c = grind (arith, typ_of-Nat)

pub tree-returns-in-Unit : goal.tree-returns-in-Unit
tree-returns-in-Unit t c = grind (arith, typ_of-Unit)

pub tree-returns-in-Top : goal.tree-returns-in-Top
tree-returns-in-Top t c = grind (arith, typ_of-Top)

pub tree-returns-in_ok-outcome_tree-in-Arrow : goal.tree-returns-in_ok-outcome_tree-in-Arrow
tree-returns-in_ok-outcome_tree-in-Arrow t c = grind (arith, typ_of-Arrow)

pub tree-returns-in_ok-items-in-Record : goal.tree-returns-in_ok-items-in-Record
tree-returns-in_ok-items-in-Record t c = grind (arith, typ_of-Record)
