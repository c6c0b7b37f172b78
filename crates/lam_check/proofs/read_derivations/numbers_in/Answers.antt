use Rattle.std.proofs.Common.{refl, ap, ◌∙◌, arith}
use Rattle.serde_json.specs.View.{view}
use Rattle.lam_check.specs.inner.Read.{number_value}
use Rattle.lam_check.proofs.ReadValues.{value_there, not_a_number}
use Rattle.lam_check.proofs.read_derivations.numbers_in.Goals as goal

pub returns-in_default-clause-unread : goal.returns-in_default-clause-unread
returns-in_default-clause-unread c = λ other. (
  refl,
  λ numbers are.
      let there = value_there number_value c.args.values.now numbers c.loop-i.i c.index-values-i.result (omega arith) are in
      not_a_number (view c.index-values-i.result) there.0 (ap view c.index-values-i.is ∙ there.1) c.in_default.ensures,
)
