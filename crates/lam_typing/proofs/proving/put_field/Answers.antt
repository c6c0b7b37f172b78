use Rattle.std.proofs.Common.{ap, refl, sym, reverse, ◌∙◌}
use Rattle.lam_rules.specs.Types.{field}
use Rattle.lam_rules.specs.TypeViews.{fields_of}
use Rattle.lam_rules.specs.TypingViews.{typings_of}
use Rattle.lam_rules.proofs.TypingShapes.{type_in-typing_tree_of}
use Rattle.lam_typing.proofs.BuiltSteps.{trees_pushed, types_pushed}
use Rattle.lam_typing.proofs.proving.put_field.Goals as goal

pub returns : goal.returns
returns c = record {
  trees = ap (λ ps. typings_of (reverse ps)) c.in_ok-push-2.ensures.items ∙ trees_pushed c.args.made.now.proofs.items c.args.own.proof;
  types = ap (λ fs. fields_of (reverse fs)) c.in_ok-push.ensures.items ∙ types_pushed c.args.made.now.types.items (c.in_ok-name.name, c.in_ok-ty.ty)
      ∙ (λ i. field (c.in_ok-name.ensures.ok i) ((c.in_ok-ty.ensures ∙ sym (type_in-typing_tree_of c.args.own.proof)) i) (fields_of (reverse c.args.made.now.types.items)));
  first = refl;
}
