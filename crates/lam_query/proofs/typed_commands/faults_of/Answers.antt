use Rattle.std.proofs.Common.{◌++◌, map, ap, ◌∙◌}
use Rattle.std.proofs.lemmas.List.{map-append}
use Rattle.lam_syntax.specs.Views.{command_of}
use Rattle.lam_query.specs.Views.{fault_of}
use Rattle.lam_query.proofs.FoundOfCommand.{own_faults}
use Rattle.lam_query.proofs.typed_commands.faults_of.Goals as goal

pub returns : goal.returns
returns c =
    let own = c.in_ok-blamed.ensures ∙ own_faults (command_of c.args.command.now) c.args.blames.now in
    ap (map fault_of) c.in_ok-append.ensures.items
    ∙ map-append fault_of c.in_ok-found.found.items c.in_ok-blamed.blamed.items
    ∙ (λ i. c.in_ok-found.ensures i ++ own i)
