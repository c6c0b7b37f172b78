use Rattle.std.proofs.Common.{◌≡◌, true, refl, sym, subst}
use Rattle.std.proofs.lemmas.Result.{IfOk-weaker}
use Rattle.lam_rules.specs.Numbers.{type_of, Stands}
use Rattle.lam_rules.specs.Subtyping.{IsBelow}
use Rattle.lam_rules.proofs.Tables.{keeps_same}
use Rattle.lam_sub.specs.BoundOrder.{join_without_parts}
use Rattle.lam_sub.proofs.Keeping.{right_kept}
use Rattle.lam_lattice.specs.inner.Bounds.{IsJoin, JoinsInOrder}
use Rattle.lam_lattice.proofs.Unlike.{join_above, join_below, join_unlike_top, join_seen}
use Rattle.lam_lattice.proofs.Orders.{join_order_above, join_order_below}
use Rattle.lam_lattice.proofs.numbers.join_unlike.Goals as goal

pub returns-then-branch-clause-join : goal.returns-then-branch-clause-join
returns-then-branch-clause-join c = join_above (type_of c.args.table.now c.args.left) (type_of c.args.table.now c.args.right) c.args.verdicts.now.dialect (c.in_ok-is_sub_no.ensures.verdict.0 c.if-branch.true)

pub returns-then-branch-2-clause-join : goal.returns-then-branch-2-clause-join
returns-then-branch-2-clause-join c =
    join_below (type_of c.args.table.now c.args.left) (type_of c.args.table.now c.args.right) c.args.verdicts.now.dialect
    (subst (λ d. IsBelow (type_of c.args.table.now c.args.right) (type_of c.args.table.now c.args.left) d) c.in_ok-is_sub_no.ensures.dialect (c.in_ok-is_sub_no-2.ensures.verdict.0 c.if-branch-2.true))

pub returns-clause-verdicts_right : goal.returns-clause-verdicts_right
returns-clause-verdicts_right c = right_kept _ _ _ c.intern.ensures.keeps c.in_ok-is_sub_no-2.ensures.right

pub returns-clause-join : goal.returns-clause-join
returns-clause-join c =
    IfOk-weaker c.intern.result _ (λ number. IsJoin (type_of c.args.table.now c.args.left) (type_of c.args.table.now c.args.right) (type_of c.intern.new.self number) c.args.verdicts.now.dialect)
    (λ number is. join_seen (type_of c.args.table.now c.args.left) (type_of c.args.table.now c.args.right) (type_of c.intern.new.self number) _ _ _ c.args.verdicts.now.dialect refl refl (sym is.type)
    (join_unlike_top (type_of c.args.table.now c.args.left) (type_of c.args.table.now c.args.right) c.args.verdicts.now.dialect
    (c.types_differ.ensures.wf c.args.left.index c.requires.left) (c.types_differ.ensures.wf c.args.right.index c.requires.right) c.requires.unlike
    (λ below. let e : c.in_ok-is_sub_no.field-0 ≡ true = c.in_ok-is_sub_no.ensures.verdict.1 below in cc)
    (λ below. let e : c.in_ok-is_sub_no-2.field-0 ≡ true =
    c.in_ok-is_sub_no-2.ensures.verdict.1 (subst (λ d. IsBelow (type_of c.args.table.now c.args.right) (type_of c.args.table.now c.args.left) d) (sym c.in_ok-is_sub_no.ensures.dialect) below) in cc)))
    c.intern.ensures.number

pub returns-then-branch-clause-order : goal.returns-then-branch-clause-order
returns-then-branch-clause-order c = join_order_above (type_of c.args.table.now c.args.left) (type_of c.args.table.now c.args.right) c.args.verdicts.now.dialect c.requires.unlike (c.in_ok-is_sub_no.ensures.verdict.0 c.if-branch.true)

pub returns-then-branch-2-clause-order : goal.returns-then-branch-2-clause-order
returns-then-branch-2-clause-order c =
    join_order_below (type_of c.args.table.now c.args.left) (type_of c.args.table.now c.args.right) _ c.requires.unlike (c.in_ok-is_sub_no-2.ensures.verdict.0 c.if-branch-2.true)

pub returns-clause-order : goal.returns-clause-order
returns-clause-order c =
    IfOk-weaker c.intern.result _ (λ number. JoinsInOrder (type_of c.args.table.now c.args.left) (type_of c.args.table.now c.args.right) (type_of c.intern.new.self number))
    (λ number is. subst (λ j. JoinsInOrder (type_of c.args.table.now c.args.left) (type_of c.args.table.now c.args.right) j) (sym is.type) (join_without_parts tt))
    c.intern.ensures.number

pub returns-in_err-is_sub_no-clause-keeps : goal.returns-in_err-is_sub_no-clause-keeps
returns-in_err-is_sub_no-clause-keeps c = keeps_same _

pub returns-then-branch-clause-keeps : goal.returns-then-branch-clause-keeps
returns-then-branch-clause-keeps c = keeps_same _

pub returns-in_err-is_sub_no-2-clause-keeps : goal.returns-in_err-is_sub_no-2-clause-keeps
returns-in_err-is_sub_no-2-clause-keeps c = keeps_same _

pub returns-then-branch-2-clause-keeps : goal.returns-then-branch-2-clause-keeps
returns-then-branch-2-clause-keeps c = keeps_same _

pub returns-clause-stands : goal.returns-clause-stands
returns-clause-stands c = IfOk-weaker c.intern.result _ (Stands c.intern.new.self) (λ number is. is.stands) c.intern.ensures.number
