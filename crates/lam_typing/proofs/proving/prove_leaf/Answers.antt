use Rattle.std.specs.Option.{option_map}
use Rattle.lam_rules.specs.TypeViews.{typ_of}
use Rattle.std.proofs.Common.{ap, refl, arith}
use Rattle.std.proofs.lemmas.Result.{IfOk-weaker}
use Rattle.lam_rules.specs.TypingViews.{typings_of}
use Rattle.lam_scope.specs.Sights.{inside}
use Rattle.lam_typing.specs.inner.Proving.{tree_in}
use Rattle.lam_typing.proofs.BuiltProofs.{leaf_form}
use Rattle.lam_typing.proofs.BuiltSteps.{step_as, first_before, inside_leaf}
use Rattle.lam_typing.proofs.proving.prove_leaf.Goals as goal

pub returns : goal.returns
returns c = λ e is. IfOk-weaker c.finish.result _ _ (λ made done. record {
  first = first_before made c.args.place (inside e) c.args.place done.first (omega (arith, inside_leaf c.args.rule e (typ_of c.args.conclusion) is));
  proves = leaf_form c.args.grounds.now c.args.rule e (typ_of c.args.conclusion) (typ_of c.args.ty.now) c.args.place (option_map tree_in made) is
      (step_as c.args.rule _ _ _ _ (typ_of c.args.ty.now) (option_map tree_in made) c.args.grounds.now.typing.now.dialect refl (ap typings_of c.new-premises.ensures.items) done.wide);
}) c.finish.ensures
