use Rattle.std.proofs.Common.{◌≡◌, ◌-◌, length, map, arith}
use Rattle.lam_rules.specs.TermViews.{term_of}
use Rattle.lam_rules.specs.TypingViews.{context_of}
use Rattle.lam_query.specs.Judgements.{judgements}
use Rattle.lam_query.specs.inner.Walking.{left_of}
use Rattle.lam_query.proofs.PendingProofs.{begun, begun_walk, stepped_right, stepped_wrong, nothing_left, walked}
use Rattle.lam_query.proofs.wrong_steps.first_wrong.Goals as goal
use Rattle.lam_query.proofs.wrong_steps.first_wrong.Goals.{then-not-branch, else-not-branch}

pub loop-back-init : goal.loop-back-init
loop-back-init c = rw (c.in_ok-push.ensures.items, c.new.ensures.items) (
  begun c.args.entries.items c.args.term c.len.result c.wf_context.result (omega (arith, c.len.ensures)) (rw c.deref.ensures.value at c.wf_context.ensures),
  λ tree h. begun_walk c.args.steps.now c.args.dialect c.args.entries.items c.args.term c.len.result c.wf_context.result tree (omega (arith, c.len.ensures)) h,
)

pub returns-in_default : goal.returns-in_default
returns-in_default c = λ tree h.
    nothing_left c.args.steps.now c.args.dialect (judgements (context_of c.args.entries.items) (term_of c.args.term.now) tree) c.loop-back.back c.loop-back.state.entries.items c.loop-back.state.pending.items c.loop-back.wrong
    c.loop-back-test.true (λ lt. c.in_default.ensures.variant.1 (omega (arith, lt))) (c.loop-back.invariant.1 tree h)

pub is_right-requires : goal.is_right-requires
is_right-requires c = record { known = rw c.in-Some.ensures.items at c.loop-back.invariant.0 }

pub loop-back-preserved : goal.loop-back-preserved
loop-back-preserved c = (
  c.in_ok-is_right.ensures.known,
  λ tree h. elim c.if-not-branch.branch [
    | then-not-branch w ↦ rw w.wrong-is (stepped_wrong c.args.steps.now c.args.dialect (judgements (context_of c.args.entries.items) (term_of c.args.term.now) tree) c.loop-back.back c.loop-back.state.entries.items c.is_right.new.state.entries.items
        c.loop-back.state.pending.items c.pop.new.self.items c.is_right.new.state.pending.items c.in-Some.own c.index-steps-number.result c.loop-back.wrong
        c.loop-back-test.true c.in-Some.ensures.items c.index-steps-number.is c.in_ok-is_right.ensures.left
        (c.loop-back.invariant.1 tree h) (λ k. let right = c.in_ok-is_right.ensures.right.1 k in let not_so = w.if-not-branch.true in absurd cc))
    | else-not-branch w ↦ rw w.wrong-is (stepped_right c.args.steps.now c.args.dialect (judgements (context_of c.args.entries.items) (term_of c.args.term.now) tree) c.loop-back.back c.loop-back.state.entries.items c.is_right.new.state.entries.items
        c.loop-back.state.pending.items c.pop.new.self.items c.is_right.new.state.pending.items c.in-Some.own c.index-steps-number.result c.loop-back.wrong
        c.loop-back-test.true c.in-Some.ensures.items c.index-steps-number.is c.in_ok-is_right.ensures.left
        (c.loop-back.invariant.1 tree h) (c.in_ok-is_right.ensures.right.0 (let so = w.if-not-branch.false in cc)))
  ],
)

pub returns : goal.returns
returns c = λ tree h.
    let g = context_of c.args.entries.items in
    let e = term_of c.args.term.now in
    let none : length c.args.steps.now - c.loop-back.back ≡ 0 = omega (arith, c.loop-back-test.false) in
    walked c.args.steps.now c.args.dialect g e tree (length c.args.steps.now - c.loop-back.back) (map (left_of c.loop-back.state.entries.items) c.loop-back.state.pending.items) c.loop-back.wrong none (c.loop-back.invariant.1 tree h)
