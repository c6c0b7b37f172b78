use Rattle.std.proofs.Common.{arith}
use Rattle.std.specs.Option.{option_map}
use Rattle.std.proofs.lemmas.Result.{IfOk-weaker}
use Rattle.lam_rules.specs.Terms.{apply}
use Rattle.lam_rules.specs.TypeViews.{typ_of}
use Rattle.lam_rules.specs.TypingViews.{typing_tree_of}
use Rattle.lam_scope.specs.Sights.{inside}
use Rattle.lam_typing.specs.inner.Proving.{tree_in}
use Rattle.lam_typing.proofs.BuiltProofs.{apply_form, apply_no_arrow, apply_not_below}
use Rattle.lam_typing.proofs.BuiltSteps.{some_wide, none_wide, arrow_in, no_arrow_in, first_before}
use Rattle.lam_typing.proofs.proving.finish_apply.Goals as goal

pub returns-in_default : goal.returns-in_default
returns-in_default c = λ f a place function argument.
    record { first = tt; proves = apply_no_arrow c.args.grounds.now f a place c.args.argument.first (typ_of c.args.ty.now) (tree_in c.args.function) argument.first function.proves (no_arrow_in c.args.function c.in_default.not-Arrow) }

pub returns-in_default-2 : goal.returns-in_default-2
returns-in_default-2 c = λ f a place function argument.
    record { first = tt; proves = apply_not_below c.args.grounds.now f a place c.args.argument.first (typ_of c.in-Arrow.parameter.value) (typ_of c.in-Arrow.outcome.value) (typ_of c.args.ty.now) (tree_in c.args.function) (tree_in c.args.argument) argument.first argument.proves function.proves (arrow_in c.args.function c.in-Arrow.parameter c.in-Arrow.outcome c.in-Arrow.is) (none_wide (typing_tree_of c.args.argument.proof) (typ_of c.in-Arrow.parameter.value) c.in_ok-operand.field-0 c.args.grounds.now.typing.now.dialect c.in_default-2.is (rw c.deref.ensures at c.in_ok-operand.ensures)) }

pub returns : goal.returns
returns c = λ f a place function argument.
    IfOk-weaker c.finish_over_two.result _ _ (λ made done. record {
      first = first_before made c.args.function.first (inside (apply f a)) place done.first (omega (arith, argument.first, function.first));
      proves = apply_form c.args.grounds.now f a place c.args.argument.first (typ_of c.in-Arrow.outcome.value) (typ_of c.in-Arrow.parameter.value) (typ_of c.args.ty.now) (tree_in c.args.function) (tree_in c.args.argument) (typing_tree_of c.in-Some.operand) (option_map tree_in made) argument.first argument.proves function.proves (arrow_in c.args.function c.in-Arrow.parameter c.in-Arrow.outcome c.in-Arrow.is)
          (some_wide (typing_tree_of c.args.argument.proof) (typ_of c.in-Arrow.parameter.value) c.in_ok-operand.field-0 c.in-Some.operand c.args.grounds.now.typing.now.dialect c.in-Some.is (rw c.deref.ensures at c.in_ok-operand.ensures))
          (rw (rw c.deref-2.ensures at c.in_ok-conclusion.ensures) at done.wide);
    }) c.finish_over_two.ensures
