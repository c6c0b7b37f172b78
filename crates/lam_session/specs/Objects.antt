-- JSON objects, built member by member.
use Rattle.std.specs.Prelude.{◌≡◌, IfOk}
use Rattle.serde_json.specs.Data.{Members}
use Rattle.serde_json.specs.View.{members_view}
use Rattle.lam_session.specs.declared.values.objects.Object.{Object}

-- These are the members so far, unless an allocation failed.
abbrev pub Has : Object → Members → Type 0
Has built members = IfOk built.members (λ map. members_view map.entries ≡ members)
