use Rattle.std.proofs.Common.{[], ap, sym, subst}
use Rattle.std.specs.Prelude.{IfSome}
use Rattle.std.specs.Option.{option_map}
use Rattle.lam_syntax.specs.declared.terms.Command.TheVariants.{Abbreviation}
use Rattle.lam_scope.specs.Numbered.{StandsIfAny}
use Rattle.lam_typing.specs.Answers.{answer}
use Rattle.lam_query.specs.inner.Entries.{type_name_meant}
use Rattle.lam_query.specs.inner.StandIns.{abbreviated}
use Rattle.lam_query.proofs.Entering.{name_at}
use Rattle.lam_query.proofs.StandInsMade.{unbound_passed, one_made, all_made, abbreviation_made}
use Rattle.lam_query.proofs.stand_ins.push_abbreviations.Goals as goal
use Rattle.lam_query.proofs.stand_ins.push_abbreviations.Goals.{in-Some+in_ok-ty+in_ok-identifier+in_ok-push, in_default}

pub written_entry-requires : goal.written_entry-requires
written_entry-requires c = subst (λ o. IfSome o (StandsIfAny c.args.table.now)) (sym c.in-Some.ensures) (c.requires.types (name_at c.args.names.now c.loop-i.i (record { ref_ptr = (0, 0); now = [] })))

pub loop-i-preserved : goal.loop-i-preserved
loop-i-preserved c =
    let ts = c.args.table.now in
    let look = type_name_meant ts c.args.bound.now c.args.entries.now in
    elim c.match-of_type_name.branch [
      | in-Some+in_ok-ty+in_ok-identifier+in_ok-push w ↦
          let made = w.in_ok-identifier.field-0 in
          rw w.commands-is
          (one_made abbreviated look c.args.names.now c.loop-i.i c.args.commands.now.items c.loop-i.commands.items (record { ref_ptr = (0, 0); now = [] }) c.loop-i-test.true
          (answer ts w.in-Some.entry) w.push.new.self.items (Abbreviation made w.in_ok-ty.ty) (ap (option_map (answer ts)) (sym w.in-Some.ensures))
          (abbreviation_made made _ w.in_ok-identifier.ensures.letters w.in_ok-identifier.ensures.span w.in_ok-ty.ty (answer ts w.in-Some.entry) w.in_ok-ty.ensures)
          w.in_ok-push.ensures.items c.loop-i.invariant)
      | in_default w ↦
          rw w.commands-is
          (unbound_passed abbreviated look c.args.names.now c.loop-i.i c.args.commands.now.items c.loop-i.commands.items (record { ref_ptr = (0, 0); now = [] }) c.loop-i-test.true
          (ap (option_map (answer ts)) (sym w.in_default.ensures)) c.loop-i.invariant)
    ]

pub returns : goal.returns
returns c =
    all_made abbreviated (type_name_meant c.args.table.now c.args.bound.now c.args.entries.now) c.args.names.now c.loop-i.i c.args.commands.now.items c.loop-i.commands.items
    c.loop-i-test.false c.loop-i.invariant
