use Rattle.std.proofs.Common.{get_or, drop, Some, None, All}
use Rattle.lam_rules.specs.Numbers.{type_of, Stands}
use Rattle.lam_typing.specs.Typings.{types_of, found_of}
use Rattle.lam_query.proofs.Collected.{IsCollected}
use Rattle.lam_query.proofs.mismatches.types_of_parts.Given as goal

abbrev pub invariant-loop-i : goal.invariant-loop-i
invariant-loop-i l =
    IsCollected (λ number. Some (type_of (types_of l.typing) number)) (λ place. get_or (found_of l.typing) place.0 None) l.parts.items (drop l.i l.places) l.places
    × All (Stands (types_of l.typing)) l.parts.items
