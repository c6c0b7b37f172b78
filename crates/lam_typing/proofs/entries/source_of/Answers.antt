use Rattle.std.proofs.Common.{map, ap, ◌∙◌}
use Rattle.lam_scope.specs.Views.{statement_of}
use Rattle.lam_typing.specs.Entries.{entry_from}
use Rattle.lam_typing.specs.inner.Seeing.{note_among}
use Rattle.lam_typing.proofs.Sighted.{written_noted}
use Rattle.lam_typing.proofs.entries.source_of.Goals as goal

pub returns-in-Lambda : goal.returns-in-Lambda
returns-in-Lambda c = λ found.
    let ss = map statement_of c.args.statements.now in
    let k = c.in-Lambda.place.0 in
    rw (ap (λ o. entry_from ss found o) c.in-Lambda.is) (c.written_at.ensures found ∙ ap (λ ns. (note_among ns k).written) (c.requires found) ∙ written_noted found ss k)

pub returns-in-Declaration : goal.returns-in-Declaration
returns-in-Declaration c = λ found. rw (ap (λ o. entry_from (map statement_of c.args.statements.now) found o) c.in-Declaration.is) (c.declared_at.ensures found)
