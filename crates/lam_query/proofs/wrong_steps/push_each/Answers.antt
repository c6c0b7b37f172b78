use Rattle.std.proofs.Common.{◌∷◌, [], ◌++◌, ◌∙◌, ap, sym, append-nil, append_assoc, replicate}
use Rattle.lam_query.proofs.StepByStep.{replicate_more}
use Rattle.lam_query.proofs.wrong_steps.push_each.Goals as goal

pub loop-init : goal.loop-init
loop-init c = sym (append-nil c.args.pending.now.items)

pub loop-preserved : goal.loop-preserved
loop-preserved c =
    c.in_ok-push.ensures.items
    ∙ ap (λ xs. xs ++ c.args.each ∷ []) c.loop.invariant
    ∙ append_assoc c.args.pending.now.items (replicate c.loop.counter c.args.each) (c.args.each ∷ [])
    ∙ ap (λ xs. c.args.pending.now.items ++ xs) (sym (replicate_more c.loop.counter 1 c.args.each))
