use Rattle.std.proofs.Common.{◌≡◌, ◌++◌, drop, map}
use Rattle.serde_json.specs.View.{view}
use Rattle.lam_query.specs.Views.{step_of}
use Rattle.lam_session.specs.Derivations.{step_value}
use Rattle.lam_session.proofs.values.derivations.steps_value.Given as goal

-- the values so far, and those of the steps to come, are all
abbrev pub invariant-loop-step : goal.invariant-loop-step
invariant-loop-step l =
    map view l.values.items ++ map (step_value l.fn.doc.encoding l.fn.doc.text) (map step_of (drop l.step-index l.steps)) ≡ map (step_value l.fn.doc.encoding l.fn.doc.text) (map step_of l.steps)
