use Rattle.std.proofs.Common.{◌≡◌, ◌++◌, drop, map}
use Rattle.serde_json.specs.Data.{number, unsigned}
use Rattle.serde_json.specs.View.{view}
use Rattle.lam_session.proofs.values.derivations.premises_value.Given as goal

-- the values so far, and those of the numbers to come, are all
abbrev pub invariant-loop-number : goal.invariant-loop-number
invariant-loop-number l = map view l.values.items ++ map (λ n. number (unsigned n)) (drop l.number-index l.premises) ≡ map (λ n. number (unsigned n)) l.premises
