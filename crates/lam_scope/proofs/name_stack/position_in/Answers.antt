use Rattle.std.proofs.Common.{sym, ap, ◌∙◌}
use Rattle.std.specs.Option.{option_copied}
use Rattle.lam_scope.specs.inner.NameStacks.{flattened}
use Rattle.lam_scope.proofs.name_stack.position_in.Goals as goal

pub returns-in-None : goal.returns-in-None
returns-in-None c = ap flattened (sym (ap option_copied c.in-None.is) ∙ c.get.ensures.value)

pub returns-in-Some : goal.returns-in-Some
returns-in-Some c = ap flattened (sym (ap option_copied c.in-Some.is) ∙ c.get.ensures.value)
