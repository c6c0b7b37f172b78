use Rattle.std.proofs.Common.{refl, ap, sym, arith}
use Rattle.std.specs.Option.{option_map}
use Rattle.std.proofs.lemmas.Result.{IfOk-weaker}
use Rattle.lam_rules.specs.TypeViews.{typ_of}
use Rattle.lam_rules.specs.declared.rules.TypeRule.{TypeRule}
use Rattle.lam_rules.specs.TypingViews.{typings_of}
use Rattle.lam_typing.specs.inner.Proving.{tree_in}
use Rattle.lam_typing.proofs.BuiltProofs.{variable_form, variable_none}
use Rattle.lam_typing.proofs.BuiltSteps.{step_as, first_before}
use Rattle.lam_typing.proofs.proving.prove_variable.Goals as goal

pub returns-in_default : goal.returns-in_default
returns-in_default c = λ index. record { first = tt; proves = variable_none c.args.grounds.now index c.args.place (typ_of c.args.ty.now) (sym (rw c.in_default.is at c.in_ok-entry.ensures)) }

pub returns : goal.returns
returns c = λ index. IfOk-weaker c.finish.result _ _ (λ made done. record {
  first = first_before made c.args.place 0 c.args.place done.first (omega arith);
  proves = variable_form c.args.grounds.now index c.args.place (typ_of c.in-Some.entry) (typ_of c.args.ty.now) (option_map tree_in made)
      (sym (rw c.in-Some.is at c.in_ok-entry.ensures))
      (step_as TypeRule.Var _ _ _ _ (typ_of c.args.ty.now) (option_map tree_in made) c.args.grounds.now.typing.now.dialect refl (ap typings_of c.new-premises.ensures.items) done.wide);
}) c.finish.ensures
