use Rattle.std.proofs.Common.{rules, ◌+◌, length, drop, get_or, map, ap, ◌∙◌, arith}
use Rattle.std.proofs.lemmas.List.{drop_more, drop_all}
use Rattle.std.proofs.lemmas.Result.{on_ok_weaker}
use Rattle.lam_query.specs.Views.{step_of}
use Rattle.lam_check.proofs.Drawing.{tree_drawn, left_all, left_first, left_none}
use Rattle.lam_check.proofs.drawings.Picture.+tree.Goals as goal
use Rattle.lam_check.proofs.drawings.Picture.+tree.Goals.{push_trees-then-number-end+in_ok-push_tree, push_trees-else-number-end}

pub push_tree-returns : goal.push_tree-returns
push_tree-returns t c =
    on_ok_weaker c.push_behind.result
    (λ closes start p stands place. tree_drawn c.args.self.now.form c.args.self.now.text.now c.args.depth c.args.role _ c.args.self.now.steps.now c.args.number c.index-steps-number.result _ _ _ _ _ (omega arith) c.index-steps-number.is
    (ap length c.premises_of-premises.ensures) c.first_role-first.ensures c.in_ok-push_before.ensures
    (λ from ps stand are within. c.in_ok-push_trees.ensures from ps stand (c.premises_of-premises.ensures ∙ are) within) closes start p stands place)
    c.push_behind.ensures

pub push_trees-loop-i-init : goal.push_trees-loop-i-init
push_trees-loop-i-init t c =
    (search rules, λ start ps stand are within. left_all c.args.self.now.form c.args.self.now.text.now c.args.depth c.args.first (map step_of c.args.self.now.steps.now) c.args.end c.args.numbers.now _ start ps stand are within)

pub push_trees-loop-i-preserved : goal.push_trees-loop-i-preserved
push_trees-loop-i-preserved t c = (
  tt,
  λ start ps stand are within.
      let numbers = c.args.numbers.now in
      let i = c.loop-i.i in
      let left = rw (drop_more numbers i 0 c.loop-i-test.true) at (c.loop-i.invariant.1 start ps stand are within) in
      let next = left_first c.args.self.now.form c.args.self.now.text.now c.args.depth c.loop-i.role (map step_of c.args.self.now.steps.now) c.args.end (get_or numbers i 0) (drop (i + 1) numbers) _ _ left in
      elim c.if-number-end.branch [
        | push_trees-then-number-end+in_ok-push_tree w ↦ rw w.out-is (next.others _ (w.in_ok-push_tree.ensures next.start next.proof next.stands next.ends))
        | push_trees-else-number-end w ↦ absurd (omega (arith, next.within, w.if-number-end.false))
      ],
)

pub push_trees-returns : goal.push_trees-returns
push_trees-returns t c = λ start ps stand are within.
    left_none c.args.self.now.form c.args.self.now.text.now c.args.depth c.loop-i.role (map step_of c.args.self.now.steps.now) c.args.end _ _ _ (drop_all c.loop-i.i c.args.numbers.now c.loop-i-test.false)
    (c.loop-i.invariant.1 start ps stand are within)
