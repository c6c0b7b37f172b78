use Rattle.std.proofs.Common.{◌∙◌, ap}
use Rattle.std.specs.Option.{option_map}
use Rattle.lam_scope.specs.Stacks.{outside}
use Rattle.lam_scope.proofs.Lookups.{top_left}
use Rattle.lam_scope.proofs.few_names.FewNames.leave.Goals as goal

pub returns : goal.returns
returns c =
    top_left (option_map (λ x. x.now)) c.self.inside.stack.items c.pop.new.self.items c.pop.result c.self.inside.stack.len c.pop.ensures.items c.self.inside.stack.ok.0 c.pop.ensures.variant.1
    ∙ ap outside c.self.view_is
