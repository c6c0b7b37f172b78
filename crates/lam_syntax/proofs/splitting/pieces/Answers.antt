use Rattle.std.proofs.Common.{sym, ◌∙◌, ap, drop}
use Rattle.lam_syntax.proofs.Runs.{run_more, piece_kept, piece_left_out, pieces_some}
use Rattle.lam_syntax.proofs.splitting.pieces.Goals as goal
use Rattle.lam_syntax.proofs.splitting.pieces.Goals.{then-not-is_empty+in_ok-push, else-not-is_empty}

pub loop-left-preserved : goal.loop-left-preserved
loop-left-preserved c =
    let so_far = run_more c.loop-left.left.now c.split_at.result.0.now c.behind_first-left.result.now _ _ _ c.run_len.ensures.run c.split_at.ensures.front (c.behind_first-left.ensures ∙ ap (drop 1) c.split_at.ensures.back) c.loop-left.invariant in
    elim c.if-not-is_empty.branch [
      | then-not-is_empty+in_ok-push w ↦ piece_kept c.loop-left.found.items _ c.split_at.result.0 _ _ (ap (λ v. v.items) w.found-is ∙ w.in_ok-push.ensures.items) (sym w.if-not-is_empty.true ∙ c.is_empty-in-loop-left.ensures) so_far
      | else-not-is_empty w ↦ piece_left_out c.loop-left.found.items _ c.split_at.result.0.now _ _ (ap (λ v. v.items) w.found-is) (sym w.if-not-is_empty.false ∙ c.is_empty-in-loop-left.ensures) so_far
    ]

pub returns-clause-none_empty : goal.returns-clause-none_empty
returns-clause-none_empty c =
    pieces_some c.loop-left.found.items c.loop-left.left.now c.args.tokens.now c.loop-left.invariant c.loop-left-test.ensures
