use Rattle.std.proofs.Common.{◌≡◌, ◌++◌, drop, map}
use Rattle.serde_json.specs.View.{view}
use Rattle.lam_session.proofs.lists.values_of.Given as goal

-- the values so far, and those of the elements to come, are all
abbrev pub invariant-loop-element : goal.invariant-loop-element
invariant-loop-element g l =
    map view l.values.items ++ map (g.S.Shape.shown l.fn.shape) (drop l.element-index l.elements) ≡ map (g.S.Shape.shown l.fn.shape) l.elements
