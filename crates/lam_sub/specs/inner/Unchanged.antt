-- What tells that a step between two record types changes nothing.
use Rattle.std.specs.Prelude.{◌≡◌}
use Rattle.lam_rules.specs.Types.{Fields, no_fields, field}
use Rattle.lam_rules.specs.Subtyping.{SubTrees, no_subs, sub_first, sub_step}
use Rattle.lam_rules.specs.declared.rules.SubRule.{SubRule}

-- equal labels in the same order
abbrev pub HaveSameLabels : Fields → Fields → Type 0
HaveSameLabels no_fields no_fields = Unit {0}
HaveSameLabels (field k s fs) (field l t gs) = (k ≡ l) × HaveSameLabels fs gs
HaveSameLabels _ _ = ⊥

-- the last step of each tree is by S-Refl
abbrev pub AreByRefl : SubTrees → Type 0
AreByRefl no_subs = Unit {0}
AreByRefl (sub_first (sub_step rule s t ps) rest) = (rule ≡ SubRule.Refl) × AreByRefl rest
