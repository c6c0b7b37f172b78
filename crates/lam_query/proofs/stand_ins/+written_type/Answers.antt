use Rattle.std.proofs.Common.{ap, ◌∙◌}
use Rattle.lam_rules.specs.Types as type
use Rattle.lam_rules.specs.TypeViews.{typ_of, fields_of}
use Rattle.lam_rules.specs.declared.types.Fields.{out-Fields}
use Rattle.lam_rules.proofs.TypeShapes.{typ_of-Bool, typ_of-Nat, typ_of-Unit, typ_of-Top, typ_of-Arrow, typ_of-Record}
use Rattle.lam_syntax.proofs.Shapes.{type_node_of-Bool, type_node_of-Nat, type_node_of-Unit, type_node_of-Top, type_node_of-Arrow, type_node_of-Record}
use Rattle.lam_syntax.specs.Trees.{arrow, record_type}
use Rattle.lam_syntax.specs.Views.{type_node_of}
use Rattle.lam_query.specs.inner.StandIns.{written_type, written_fields}
use Rattle.lam_query.proofs.StandInsMade.{type_made, written_more, written_all}
use Rattle.lam_query.proofs.stand_ins.+written_type.Goals as goal
use Rattle.lam_query.proofs.stand_ins.+written_type.Goals.{written_type-in-Bool, written_type-in-Nat, written_type-in-Unit, written_type-in-Top, written_type-in-Arrow+in_ok-parameter-in-Arrow+in_ok-written_arrow-in-Arrow, written_type-in-Record+in_ok-written_fields-in-Record}

pub written_fields-loop-i-preserved : goal.written_fields-loop-i-preserved
written_fields-loop-i-preserved t c =
    written_more c.loop-i.written.items c.push.new.self.items c.args.fields.now c.loop-i.i c.index-fields-i.result _ _
    c.loop-i-test.true c.index-fields-i.is c.in_ok-push.ensures.items
    (c.in_ok-label.ensures.letters ∙ c.as_str.ensures.value) c.in_ok-label.ensures.span c.in_ok-ty.ensures c.loop-i.invariant

pub written_fields-returns : goal.written_fields-returns
written_fields-returns t c = written_all c.loop-i.written.items c.args.fields.now c.loop-i.i _ c.loop-i-test.false c.loop-i.invariant

pub written_type-returns : goal.written_type-returns
written_type-returns t c =
    elim c.match-ty.branch [
      | written_type-in-Bool w ↦
          type_made c.standing_nowhere.result c.match-ty.node c.args.ty.now _ type.bool c.standing_nowhere.ensures w.in-Bool.is typ_of-Bool (ap type_node_of w.node-is ∙ type_node_of-Bool)
      | written_type-in-Nat w ↦
          type_made c.standing_nowhere.result c.match-ty.node c.args.ty.now _ type.nat c.standing_nowhere.ensures w.in-Nat.is typ_of-Nat (ap type_node_of w.node-is ∙ type_node_of-Nat)
      | written_type-in-Unit w ↦
          type_made c.standing_nowhere.result c.match-ty.node c.args.ty.now _ type.unit c.standing_nowhere.ensures w.in-Unit.is typ_of-Unit (ap type_node_of w.node-is ∙ type_node_of-Unit)
      | written_type-in-Top w ↦
          type_made c.standing_nowhere.result c.match-ty.node c.args.ty.now _ type.top c.standing_nowhere.ensures w.in-Top.is typ_of-Top (ap type_node_of w.node-is ∙ type_node_of-Top)
      | written_type-in-Arrow+in_ok-parameter-in-Arrow+in_ok-written_arrow-in-Arrow w ↦
          let first = w.in_ok-written_arrow-in-Arrow.ensures.parameter ∙ w.in_ok-parameter-in-Arrow.ensures ∙ ap (λ t. written_type (typ_of t)) w.deref.ensures in
          let second = w.in_ok-written_arrow-in-Arrow.ensures.outcome ∙ ap (λ t. written_type (typ_of t)) w.deref-in-Arrow.ensures in
          type_made c.standing_nowhere.result c.match-ty.node c.args.ty.now _ (type.arrow (typ_of w.in-Arrow.parameter.value) (typ_of w.in-Arrow.outcome.value))
          c.standing_nowhere.ensures w.in-Arrow.is (typ_of-Arrow w.in-Arrow.parameter w.in-Arrow.outcome)
          (ap type_node_of w.node-is
          ∙ type_node_of-Arrow w.in_ok-written_arrow-in-Arrow.field-0
          ∙ (λ i. arrow (first i) (second i)))
      | written_type-in-Record+in_ok-written_fields-in-Record w ↦
          type_made c.standing_nowhere.result c.match-ty.node c.args.ty.now _ (type.record_of (fields_of (out-Fields w.in-Record.fields).items.value.items))
          c.standing_nowhere.ensures w.in-Record.is (typ_of-Record w.in-Record.fields)
          (ap type_node_of w.node-is
          ∙ type_node_of-Record w.in_ok-written_fields-in-Record.field-0
          ∙ ap record_type (w.in_ok-written_fields-in-Record.ensures ∙ ap (λ fs. written_fields (fields_of fs)) (w.deref-in-Record-2.ensures.value ∙ ap (λ v. v.items) w.deref-in-Record.ensures)))
    ]
