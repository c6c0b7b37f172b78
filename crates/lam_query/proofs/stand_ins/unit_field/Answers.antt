use Rattle.std.proofs.Common.{ap, ◌∙◌}
use Rattle.lam_syntax.specs.Trees.{type_tree}
use Rattle.lam_syntax.proofs.Shapes.{type_node_of-Unit}
use Rattle.lam_query.specs.inner.StandIns.{nowhere}
use Rattle.lam_query.proofs.stand_ins.unit_field.Goals as goal

pub returns-clause-ty : goal.returns-clause-ty
returns-clause-ty c = c.standing_nowhere.ensures ∙ ap (type_tree nowhere) type_node_of-Unit
