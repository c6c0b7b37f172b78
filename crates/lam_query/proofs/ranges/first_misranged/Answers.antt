use Rattle.std.proofs.Common.{◌≡◌, ◌-◌, length, map, arith}
use Rattle.lam_scope.specs.Views.{table_of}
use Rattle.lam_query.specs.Steps.{steps_of}
use Rattle.lam_query.specs.Views.{step_of}
use Rattle.lam_query.specs.inner.Ranges.{number_of}
use Rattle.lam_query.specs.inner.RowSteps.{row_proof}
use Rattle.lam_query.proofs.RangesBack.{begun_ranges, stepped_same, stepped_other, nothing_placed, ranges_told}
use Rattle.lam_query.proofs.ranges.first_misranged.Goals as goal
use Rattle.lam_query.proofs.ranges.first_misranged.Goals.{then-not-has_range, else-not-has_range}

pub loop-back-init : goal.loop-back-init
loop-back-init c = λ tree h. rw (c.in_ok-push.ensures.items, c.new-pending.ensures.items) (begun_ranges (table_of c.args.scopes.now) c.args.steps.now c.args.place.0 tree h)

pub returns-in_default : goal.returns-in_default
returns-in_default c = λ commands tree are h.
    nothing_placed (table_of c.args.scopes.now) c.args.steps.now (steps_of 0 (row_proof (table_of c.args.scopes.now) c.args.place.0 tree)) c.loop-back.back c.loop-back.pending.items c.loop-back.other
    c.loop-back-test.true (λ lt. c.in_default.ensures.variant.1 (omega (arith, lt))) (c.loop-back.invariant tree h)

pub loop-back-preserved : goal.loop-back-preserved
loop-back-preserved c = λ tree h. elim c.if-not-has_range.branch [
  | then-not-has_range w ↦ rw w.other-is (stepped_other (table_of c.args.scopes.now) c.args.steps.now (steps_of 0 (row_proof (table_of c.args.scopes.now) c.args.place.0 tree)) c.loop-back.back
      c.loop-back.pending.items c.pop.new.self.items c.push_places.new.pending.items c.in-Some.own c.index-steps-number.result c.loop-back.other
      c.loop-back-test.true c.in-Some.ensures.items c.index-steps-number.is (rw (c.terms_of.ensures, c.premises_of.ensures) at c.in_ok-push_places.ensures)
      (c.loop-back.invariant tree h) (λ k. let ranged = c.has_range.ensures.1 k in let not_so = w.if-not-has_range.true in absurd cc))
  | else-not-has_range w ↦ rw w.other-is (stepped_same (table_of c.args.scopes.now) c.args.steps.now (steps_of 0 (row_proof (table_of c.args.scopes.now) c.args.place.0 tree)) c.loop-back.back
      c.loop-back.pending.items c.pop.new.self.items c.push_places.new.pending.items c.in-Some.own c.index-steps-number.result c.loop-back.other
      c.loop-back-test.true c.in-Some.ensures.items c.index-steps-number.is (rw (c.terms_of.ensures, c.premises_of.ensures) at c.in_ok-push_places.ensures)
      (c.loop-back.invariant tree h) (c.has_range.ensures.0 (let so = w.if-not-has_range.false in cc)))
]

pub returns : goal.returns
returns c = λ commands tree are h.
    let none : length c.args.steps.now - c.loop-back.back ≡ 0 = omega (arith, c.loop-back-test.false) in
    ranges_told commands c.args.scopes.now c.args.place.0 (map step_of c.args.steps.now) tree (length c.args.steps.now - c.loop-back.back) (map number_of c.loop-back.pending.items) c.loop-back.other are none
    (c.loop-back.invariant tree h)
