-- The outcome of a step: the values sent and the state after it.
use Rattle.std.specs.Prelude.{◌≡◌, List, [], ◌∷◌}
use Rattle.serde_json.specs.Data.{Data}
use Rattle.lam_session.specs.Refusals.{refused}
use Rattle.lam_session.specs.State.{State}
use Rattle.lam_session.specs.declared.refusals.Refusal.{Refusal}

-- These values are sent, and this is the state after the step.
abbrev pub Does : List Data → State → List Data → State → Type 0
Does values after sent next = (sent ≡ values) × (next ≡ after)

-- Nothing is sent and nothing changes.
abbrev pub Ignores : State → List Data → State → Type 0
Ignores s = Does [] s

-- The message is refused in a reply with this id, and nothing changes.
abbrev pub Refuses : State → Data → Refusal → List Data → State → Type 0
Refuses s id refusal = Does (refused id refusal ∷ []) s
