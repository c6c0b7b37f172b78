-- The last step of a tree of subtyping, by itself.
use Rattle.lam_rules.specs.Types.{IsWellFormed}
use Rattle.lam_rules.specs.Subtyping.{SubTree, sub_step, conclusions, BySubRule, IsRuleOf}
use Rattle.lam_rules.specs.declared.rules.Dialect.{Dialect}

-- The last step follows by its rule, one of the dialect, from the conclusions of its premises, whether these are proved or not; the labels of both types are distinct.
abbrev pub IsSubStep : SubTree → Dialect → Type 0
IsSubStep (sub_step r s t ps) d = IsWellFormed s × IsWellFormed t × IsRuleOf r d × BySubRule r (conclusions ps) s t
