use Rattle.std.proofs.Common.{◌++◌, map, ap, sym, subst, ◌∙◌}
use Rattle.lam_syntax.specs.Views.{command_of}
use Rattle.lam_scope.specs.Names.{Name}
use Rattle.lam_query.specs.inner.Entered.{entered}
use Rattle.lam_query.specs.inner.Entries.{name_meant, type_name_meant, EntriesStand}
use Rattle.lam_query.specs.inner.StandIns.{declared}
use Rattle.lam_query.specs.inner.Bound.{names_in}
use Rattle.lam_query.proofs.StandInsMade.{commands_are, names_are}
use Rattle.lam_query.proofs.analyses.Analysis.stand_ins.Goals as goal

pub push_declarations-requires : goal.push_declarations-requires
push_declarations-requires c = subst (λ ts. EntriesStand ts c.args.self.now.bound c.args.entries.now) (sym c.table-table.ensures) c.requires

pub push_abbreviations-requires : goal.push_abbreviations-requires
push_abbreviations-requires c = subst (λ ts. EntriesStand ts c.args.self.now.bound c.args.entries.now) (sym c.table-table.ensures) c.requires

pub returns : goal.returns
returns c = λ s meant.
    let a = c.args.self.now in
    let e = c.args.entries.now in
    let ts = c.table-table.result.now in
    let names = name_meant ts a.bound e in
    let types = type_name_meant ts a.bound e in
    let same_names = λ (x : Name). ap (λ us. name_meant us a.bound e x) c.table-table.ensures ∙ meant.names x in
    let same_types = λ (x : Name). ap (λ us. type_name_meant us a.bound e x) c.table-table.ensures ∙ meant.types x in
    let free = names_in c.deref.result.now in
    let are_free = ap names_in c.deref.ensures.value ∙ c.in_ok-free.ensures.names in
    let are_types = ap names_in c.deref-2.ensures.value ∙ c.in_ok-free.ensures.type_names in
    let made = c.in_ok-push_declarations.ensures ∙ ap (λ cs. map command_of cs ++ map declared (entered names free)) c.new-commands.ensures.items in
    let more = c.in_ok-push_abbreviations.ensures in
    record {
      commands =
          commands_are s (command_of c.args.command.now) names types same_names same_types free (names_in c.deref-2.result.now) are_free are_types
          c.push_declarations.new.commands.items c.push_abbreviations.new.commands.items made more;
      names =
          c.len-names.ensures ∙ c.push_declarations.new.commands.ok.0
          ∙ names_are s (command_of c.args.command.now) names types same_names same_types free (names_in c.deref-2.result.now) are_free are_types
          c.push_declarations.new.commands.items c.push_abbreviations.new.commands.items made more;
    }
