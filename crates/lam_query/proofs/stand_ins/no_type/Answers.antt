use Rattle.std.proofs.Common.{ap, ◌∙◌}
use Rattle.lam_syntax.specs.Trees.{type_tree}
use Rattle.lam_syntax.proofs.Shapes.{type_node_of-Record}
use Rattle.lam_query.specs.inner.StandIns.{nowhere}
use Rattle.lam_query.proofs.StandInsMade.{no_type_made}
use Rattle.lam_query.proofs.stand_ins.no_type.Goals as goal

pub returns : goal.returns
returns c =
    c.standing_nowhere.ensures
    ∙ ap (type_tree nowhere) (type_node_of-Record c.push-2.new.self)
    ∙ no_type_made c.in_ok-fields.fields.items c.push.new.self.items c.push-2.new.self.items c.in_ok-unit_field.field-0 c.in_ok-unit_field-2.field-0
    c.in_ok-fields.ensures.items c.in_ok-push.ensures.items c.in_ok-push-2.ensures.items
    c.in_ok-unit_field.ensures.label c.in_ok-unit_field.ensures.ty c.in_ok-unit_field-2.ensures.label c.in_ok-unit_field-2.ensures.ty
