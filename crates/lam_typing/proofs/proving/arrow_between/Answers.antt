use Rattle.std.proofs.Common.{◌∙◌}
use Rattle.std.proofs.lemmas.Result.{IfOk-weaker}
use Rattle.lam_rules.specs.Types.{arrow}
use Rattle.lam_typing.proofs.proving.arrow_between.Goals as goal

pub returns : goal.returns
returns c = IfOk-weaker c.make_arrow.result _ _ (λ made is. is ∙ (λ i. arrow (c.in_ok-parameter.ensures i) (c.in_ok-outcome.ensures i))) c.make_arrow.ensures
