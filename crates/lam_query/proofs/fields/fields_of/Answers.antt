use Rattle.std.proofs.Common.{map, refl}
use Rattle.std.proofs.lemmas.Result.{IfOk-weaker}
use Rattle.lam_syntax.specs.Views.{command_of}
use Rattle.lam_scope.specs.Views.{statements_of}
use Rattle.lam_query.specs.Views.{item_of}
use Rattle.lam_query.proofs.FoundFields.{listed_unwritten, listed_found, listed_none}
use Rattle.lam_query.proofs.fields.fields_of.Goals as goal

pub returns-in-Err-TooLarge : goal.returns-in-Err-TooLarge
returns-in-Err-TooLarge c =
    let limit = rw c.in-Err-TooLarge.field-0-is at c.in-Err-TooLarge.ensures.limit in
    rw c.new.ensures.items (listed_unwritten (map command_of c.args.commands.now) c.args.place.0 _ c.args.dialect limit)

pub returns-in-Ok-analyse_to : goal.returns-in-Ok-analyse_to
returns-in-Ok-analyse_to c =
    IfOk-weaker c.fields_at.result _ _
    (λ items told. listed_found (map command_of c.args.commands.now) (statements_of c.in-Ok.resolved) c.args.place.0 _ c.in-Ok-analyse_to.typing (map item_of items.items) c.args.dialect
    c.requires.projection refl c.in-Ok.ensures.statements c.in-Ok.ensures.limit c.in-Ok-analyse_to.ensures.analysis told)
    c.fields_at.ensures

pub returns-in-Err-TooLarge-analyse_to : goal.returns-in-Err-TooLarge-analyse_to
returns-in-Err-TooLarge-analyse_to c =
    let large = rw c.in-Err-TooLarge-analyse_to.field-0-is at c.in-Err-TooLarge-analyse_to.ensures.fault in
    rw c.new-in-Err-TooLarge-analyse_to.ensures.items
    (listed_none (map command_of c.args.commands.now) (statements_of c.in-Ok.resolved) c.args.place.0 _ _ c.args.dialect c.requires.projection refl c.in-Ok.ensures.statements large)
