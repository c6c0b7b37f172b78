use Rattle.std.proofs.Common.{◌≡◌, drop, map}
use Rattle.lam_session.specs.Methods.{method_named}
use Rattle.lam_session.proofs.methods.method_named.Given as goal

-- no name before this one is the one that is sought
abbrev pub invariant-loop-known : goal.invariant-loop-known
invariant-loop-known g l =
    method_named l.fn.unknown l.fn.name (map (λ m. (m.0.now, m.1)) (drop l.known-index l.methods)) ≡ method_named l.fn.unknown l.fn.name (map (λ m. (m.0.now, m.1)) l.methods)
