use Rattle.std.proofs.Common.{◌≡◌, ℕ, zero, suc, add-one, ◌+◌, ◌-◌, ◌<◌, List, [], ◌∷◌, ◌++◌, get_or, set, length, take, drop, map, refl, ap, arith, false}
use Rattle.lam_text.specs.declared.index.Mark.{Mark}
use Rattle.lam_text.specs.inner.Splice.{moved}
use Rattle.lam_text.proofs.splice.move_marks.Goals as goal

set-map : (f : Mark → Mark) (marks : List Mark) (i : ℕ) (d : Mark) → i < length marks →
    (let so_far = map f (take i marks) ++ drop i marks in set so_far i (f (get_or so_far i d))) ≡ map f (take (suc i) marks) ++ drop (suc i) marks
set-map f [] i d h = absurd (omega arith)
set-map f (mark ∷ marks) zero d h = refl
set-map f (mark ∷ marks) (suc i) d h = ap (λ later. f mark ∷ later) (set-map f marks i d (omega arith))

pub loop-mark-preserved : goal.loop-mark-preserved
loop-mark-preserved c =
    let later = take (length c.deref_mut.result.now - c.args.from) (drop c.args.from c.deref_mut.result.now) in
    rw (c.loop-mark.invariant, add-one c.loop-mark.mark-index)
    (set-map (moved c.args.splice.end (c.args.splice.start + c.args.splice.inserted)) later c.loop-mark.mark-index (record { start = 0; ascii = false }) c.loop-mark-test.true)
