use Rattle.std.proofs.Common.{rules, refl, sym, ◌∙◌, ◌+◌, length, map, get_or, arith}
use Rattle.std.proofs.lemmas.List.{get_or_default}
use Rattle.lam_scope.specs.declared.intervals.Interval.{Interval}
use Rattle.lam_scope.proofs.IntervalRuns.{position_by_steps, hit_runs, miss_runs, next_run, run_within, runs_left}
use Rattle.lam_scope.proofs.intervals.first_with.Goals as goal

pub loop-i-init : goal.loop-i-init
loop-i-init g c = record { within = omega arith; runs = c.requires.runs; found = position_by_steps c.args.offset (map g.T.HasInterval.interval_of c.args.rows.now) }

pub first_in_run-requires-clause-parts : goal.first_in_run-requires-clause-parts
first_in_run-requires-clause-parts g c =
    let other : Interval = record { lowest = 0; highest = 0 } in
    let whole = get_or c.args.runs.now c.loop-i.i other in
    next_run g.T.HasInterval.interval_of c.args.rows.now c.run_behind-run.result.now c.args.runs.now c.loop-i.before c.loop-i.i whole c.loop-i-test.true (get_or_default c.args.runs.now c.loop-i.i other whole c.loop-i-test.true)
    c.loop-i.invariant.runs c.run_behind-run.ensures

pub first_in_run-requires-clause-count : goal.first_in_run-requires-clause-count
first_in_run-requires-clause-count g c =
    let run = c.run_behind-run.result.now in
    let within = run_within c.args.rows.now run c.loop-i.before (c.loop-i.before + length run) c.loop-i.invariant.within c.run_behind-run.ensures refl in
    omega (arith, within, c.requires.count)

pub overflow_add-before : goal.overflow_add-before
overflow_add-before g c =
    let run = c.run_behind-run.result.now in
    let within = run_within c.args.rows.now run c.loop-i.before (c.loop-i.before + length run) c.loop-i.invariant.within c.run_behind-run.ensures refl in
    record { fits = omega (arith, within, c.requires.count) }

pub returns-in-Some : goal.returns-in-Some
returns-in-Some g c =
    sym c.in-Some.is
    ∙ hit_runs g.T.HasInterval.interval_of c.args.offset c.loop-i.before c.args.rows.now c.run_behind-run.result.now c.first_in_run.result c.in-Some.index c.run_behind-run.ensures c.first_in_run.ensures c.in-Some.is c.loop-i.invariant.found

pub loop-i-preserved : goal.loop-i-preserved
loop-i-preserved g c =
    let f = g.T.HasInterval.interval_of in
    let run = c.run_behind-run.result.now in
    let is = c.run_behind-run.ensures in
    let other : Interval = record { lowest = 0; highest = 0 } in
    let whole = get_or c.args.runs.now c.loop-i.i other in
    record {
      within = run_within c.args.rows.now run c.loop-i.before _ c.loop-i.invariant.within is (search rules);
      runs = runs_left f c.args.rows.now run c.args.runs.now c.loop-i.before _ c.loop-i.i whole c.loop-i-test.true (get_or_default c.args.runs.now c.loop-i.i other whole c.loop-i-test.true) c.loop-i.invariant.runs is (search rules);
      found = miss_runs f c.args.offset c.loop-i.before _ c.args.rows.now run c.first_in_run.result is (search rules) c.first_in_run.ensures c.in-None.is c.loop-i.invariant.found;
    }
