use Rattle.std.proofs.Common.{◌∙◌, sym, arith}
use Rattle.std.proofs.lemmas.Bool.{cond-true, cond-false}
use Rattle.lam_text.proofs.Scan.{search_end, search_step, pushed}
use Rattle.lam_text.proofs.index.push_marks.Goals as goal

pub loop-plain-preserved-then-ends_line : goal.loop-plain-preserved-then-ends_line
loop-plain-preserved-then-ends_line c =
    let at = c.loop-plain.at in
    let found = c.in-Some.ensures {u = tt} in
    let step = search_step c.loop-plain.open c.args.text.now at c.args.to c.in-Some.plain c.loop-plain.invariant.1 c.requires.within found.0 found.1 in
    let step_ended = step ∙ cond-true _ _ _ (sym c.ends_line.ensures ∙ c.if-ends_line.true) in (
      omega arith,
      omega arith,
      pushed c.loop-plain.marks.items c.push.new.self.items _ c.lengthened-open.result _ _ (c.in_ok-push.ensures {u = tt}).items (rw (← c.lengthened-open.ensures) at step_ended) c.loop-plain.invariant.2,
    )

pub loop-plain-preserved : goal.loop-plain-preserved
loop-plain-preserved c =
    let at = c.loop-plain.at in
    let found = c.in-Some.ensures {u = tt} in
    let step = search_step c.loop-plain.open c.args.text.now at c.args.to c.in-Some.plain c.loop-plain.invariant.1 c.requires.within found.0 found.1 in
    let step_open = step ∙ cond-false _ _ _ (sym c.ends_line.ensures ∙ c.if-ends_line.false) in
    (omega arith, omega arith, rw (c.lengthened-open.ensures, ← step_open) c.loop-plain.invariant.2)

pub returns : goal.returns
returns c =
    let none = c.in_default.ensures {u = tt} in
    let step = search_end c.loop-plain.open c.args.text.now c.loop-plain.at c.args.to c.loop-plain.invariant.1 c.requires.within none in
    rw (c.lengthened.ensures, ← step) c.loop-plain.invariant.2
