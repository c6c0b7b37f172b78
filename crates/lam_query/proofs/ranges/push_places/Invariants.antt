use Rattle.std.proofs.Common.{◌≡◌, ◌++◌, map, drop}
use Rattle.lam_scope.specs.TableViews.{place_number}
use Rattle.lam_query.specs.Views.{step_of}
use Rattle.lam_query.specs.inner.Ranges.{number_of, places_for}
use Rattle.lam_query.specs.inner.Backwards.{said_at}
use Rattle.lam_query.proofs.ranges.push_places.Given as goal

abbrev pub invariant-loop-k : goal.invariant-loop-k
invariant-loop-k l =
    let terms = map place_number l.terms in
    let said = said_at (map step_of l.steps) in
    map number_of l.pending.items ++ places_for (number_of l.own) (drop l.k terms) (map said (drop l.k l.premises))
    ≡ map number_of l.fn.pending.items ++ places_for (number_of l.own) terms (map said l.premises)
