use Rattle.std.proofs.Common.{◌≡◌, drop, map}
use Rattle.lam_session.specs.Diagnostics.{message_beside}
use Rattle.lam_session.proofs.values.diagnostics.message_beside.Given as goal

-- no code before this one is the one that is sought
abbrev pub invariant-loop-known : goal.invariant-loop-known
invariant-loop-known l =
    message_beside l.fn.code (map (λ m. (m.0.now, m.1.now)) (drop l.known-index l.messages)) ≡ message_beside l.fn.code (map (λ m. (m.0.now, m.1.now)) l.messages)
