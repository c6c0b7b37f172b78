use Rattle.std.proofs.Common.{[], refl, subst}
use Rattle.std.proofs.lemmas.Result.{IfOk-weaker}
use Rattle.lam_rules.specs.Terms.{variable}
use Rattle.lam_typing.specs.inner.Notes.{IsEntryAt}
use Rattle.lam_typing.proofs.NotedParts.{more_none, term_done}
use Rattle.lam_typing.proofs.noting.note_variable.Goals as goal

pub returns : goal.returns
returns c =
    let entry = subst (λ es. IsEntryAt c.note_of_index-note.result c.args.index es) c.deref.ensures.value c.note_of_index-note.ensures in
    IfOk-weaker c.note_here.result _ _
    (λ place one. term_done c.args.notes.now c.args.notes.now c.note_here.new.notes (variable c.args.index) (λ found. []) 0 c.note_of_index-note.result place.0 (λ found. refl) refl (more_none c.args.notes.now) one entry)
    c.note_here.ensures
