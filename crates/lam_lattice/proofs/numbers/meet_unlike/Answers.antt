use Rattle.std.proofs.Common.{◌≡◌, true, sym, subst}
use Rattle.lam_rules.specs.Numbers.{type_of}
use Rattle.lam_rules.specs.Subtyping.{IsBelow}
use Rattle.lam_lattice.proofs.Unlike.{meet_above, meet_below, no_meet_unlike}
use Rattle.lam_lattice.proofs.Orders.{meet_order_above, meet_order_below}
use Rattle.lam_lattice.proofs.numbers.meet_unlike.Goals as goal

pub returns-then-branch-clause-some : goal.returns-then-branch-clause-some
returns-then-branch-clause-some c = meet_above (type_of c.args.table.now c.args.left) (type_of c.args.table.now c.args.right) c.args.verdicts.now.dialect (c.in_ok-is_sub_no.ensures.verdict.0 c.if-branch.true)

pub returns-then-branch-2-clause-some : goal.returns-then-branch-2-clause-some
returns-then-branch-2-clause-some c =
    meet_below (type_of c.args.table.now c.args.left) (type_of c.args.table.now c.args.right) c.args.verdicts.now.dialect
    (subst (λ d. IsBelow (type_of c.args.table.now c.args.right) (type_of c.args.table.now c.args.left) d) c.in_ok-is_sub_no.ensures.dialect (c.in_ok-is_sub_no-2.ensures.verdict.0 c.if-branch-2.true))

pub returns-clause-none : goal.returns-clause-none
returns-clause-none c =
    no_meet_unlike (type_of c.args.table.now c.args.left) (type_of c.args.table.now c.args.right) c.args.verdicts.now.dialect
    (c.types_differ.ensures.wf c.args.left.index c.requires.left) (c.types_differ.ensures.wf c.args.right.index c.requires.right) c.requires.unlike
    (λ below. let e : c.in_ok-is_sub_no.field-0 ≡ true = c.in_ok-is_sub_no.ensures.verdict.1 below in cc)
    (λ below. let e : c.in_ok-is_sub_no-2.field-0 ≡ true =
    c.in_ok-is_sub_no-2.ensures.verdict.1 (subst (λ d. IsBelow (type_of c.args.table.now c.args.right) (type_of c.args.table.now c.args.left) d) (sym c.in_ok-is_sub_no.ensures.dialect) below) in cc)

pub returns-then-branch-clause-order : goal.returns-then-branch-clause-order
returns-then-branch-clause-order c = meet_order_above (type_of c.args.table.now c.args.left) (type_of c.args.table.now c.args.right) c.args.verdicts.now.dialect c.requires.unlike (c.in_ok-is_sub_no.ensures.verdict.0 c.if-branch.true)

pub returns-then-branch-2-clause-order : goal.returns-then-branch-2-clause-order
returns-then-branch-2-clause-order c =
    meet_order_below (type_of c.args.table.now c.args.left) (type_of c.args.table.now c.args.right) _ c.requires.unlike (c.in_ok-is_sub_no-2.ensures.verdict.0 c.if-branch-2.true)
