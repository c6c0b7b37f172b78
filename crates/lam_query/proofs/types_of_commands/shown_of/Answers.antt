use Rattle.std.proofs.Common.{◌-◌, length}
use Rattle.lam_query.proofs.ShownTypes.{stands_at}
use Rattle.lam_query.proofs.types_of_commands.shown_of.Goals as goal

pub text_of-requires-in-Evaluation : goal.text_of-requires-in-Evaluation
text_of-requires-in-Evaluation c =
    let types = c.args.found.now.types.items in
    rw (c.last_of-last.ensures, c.deref.ensures.value) (stands_at c.args.table.now types (length types - 1) c.requires.types)
