use Rattle.std.proofs.Common.{◌+◌, ◌<◌, length, subst, sym, arith}
use Rattle.lam_query.proofs.BindersBehind.{AreSeenSoFar, none_seen, row_inside, row_starts, row_ends, without_seen, name_seen_there}
use Rattle.lam_query.proofs.analyses.Analysis.binders_before.Goals as goal
use Rattle.lam_query.proofs.analyses.Analysis.binders_before.Goals.{in-Some+in_ok-push, in_default}

pub loop-i-init : goal.loop-i-init
loop-i-init c = subst (AreSeenSoFar c.args.text.now c.args.self.now 0 0) (sym c.new-binders.ensures.items) (none_seen c.args.text.now c.args.self.now)

pub overflow_add-start : goal.overflow_add-start
overflow_add-start c =
    omega (
      arith,
      row_inside c.args.text.now c.args.self.now c.requires.of c.loop-i.i (omega (arith, c.loop-i-test.true, c.requires.inside)) c.loop-i.start c.loop-i.binders.items
          c.loop-i.invariant c.index-row.result.now _ c.index-row.ensures,
    )

pub range-requires-clause-start_boundary : goal.range-requires-clause-start_boundary
range-requires-clause-start_boundary c = λ positive.
    row_starts c.args.text.now c.args.self.now c.requires.of c.loop-i.i (omega (arith, c.loop-i-test.true, c.requires.inside)) c.loop-i.start c.loop-i.binders.items
    c.loop-i.invariant c.index-row.result.now _ c.index-row.ensures

pub range-requires-clause-end_boundary : goal.range-requires-clause-end_boundary
range-requires-clause-end_boundary c =
    row_ends c.args.text.now c.args.self.now c.requires.of c.loop-i.i (omega (arith, c.loop-i-test.true, c.requires.inside)) c.loop-i.start c.loop-i.binders.items
    c.loop-i.invariant c.index-row.result.now _ c.index-row.ensures

pub overflow_add-start-in-loop-i : goal.overflow_add-start-in-loop-i
overflow_add-start-in-loop-i c =
    omega (
      arith,
      row_inside c.args.text.now c.args.self.now c.requires.of c.loop-i.i (omega (arith, c.loop-i-test.true, c.requires.inside)) c.loop-i.start c.loop-i.binders.items
          c.loop-i.invariant c.index-row.result.now _ c.index-row.ensures,
    )

pub loop-i-preserved : goal.loop-i-preserved
loop-i-preserved c =
    let text = c.args.text.now in
    let analysis = c.args.self.now in
    let row = c.index-row.result.now in
    let inside : c.loop-i.i < length analysis.rows.items = omega (arith, c.loop-i-test.true, c.requires.inside) in
    elim c.match-name_entry.branch [
      | in-Some+in_ok-push w ↦
          let named = rw w.in-Some.is at c.name_entry.ensures.some in
          rw w.binders-is
          (subst (AreSeenSoFar text analysis (c.loop-i.i + 1) (c.loop-i.start + row.end)) (sym w.in_ok-push.ensures.items)
          (name_seen_there text analysis c.requires.of c.loop-i.i inside c.loop-i.start c.loop-i.binders.items c.loop-i.invariant row _ c.index-row.ensures
          named.0 named.2 named.1 named.3 _
          w.range.result.now w.range.ensures.value w.first_word-name.ensures.some w.first_word-name.ensures.none named.4))
      | in_default w ↦
          let none = rw w.in_default.is at c.name_entry.ensures.none in
          rw w.binders-is
          (without_seen text analysis c.requires.of c.loop-i.i inside c.loop-i.start c.loop-i.binders.items c.loop-i.invariant row _ c.index-row.ensures none)
    ]
