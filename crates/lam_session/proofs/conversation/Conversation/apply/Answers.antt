use Rattle.std.proofs.Common.{◌∙◌, ap, is_some}
use Rattle.lam_text.specs.Edits.{text_after}
use Rattle.lam_session.specs.Documents.{open_text}
use Rattle.lam_session.proofs.ChangeSteps.{some_text, changed}
use Rattle.lam_session.proofs.EntryLemmas.{found_set}
use Rattle.lam_session.proofs.conversation.Conversation.apply.Goals as goal

pub diagnostics_notice-requires : goal.diagnostics_notice-requires
diagnostics_notice-requires c =
    let there = some_text _ (rw (← c.self.view_is) at c.requires) in
    ap is_some (ap (λ held. open_text c.args.uri.now held.documents) (c.in_ok-self-inside.ensures there.0 there.1)
    ∙ found_set (record { uri = c.args.uri.now; text = text_after c.self.inside.documents.encoding there.0 c.args.changes.now; version = c.args.version }) c.self.inside.documents.documents)

pub returns : goal.returns
returns c =
    rw (← c.self.view_is)
    (changed _ c.args.uri.now _ c.args.changes.now c.args.version _ _ (rw (← c.self.view_is) at c.requires)
    (λ text stands. ap (λ held. record { life = c.self.inside.life; encoding = held.encoding; dialect = held.dialect; documents = held.documents }) (c.in_ok-self-inside.ensures text stands))
    c.in_ok-sent.ensures)
