use Rattle.std.proofs.Common.{ap, is_some, ◌∙◌}
use Rattle.serde_json.specs.View.{view}
use Rattle.lam_session.specs.Documents.{open_text}
use Rattle.lam_session.proofs.ChangeSteps.{opens_found}
use Rattle.lam_session.proofs.EntryLemmas.{found_set}
use Rattle.lam_session.proofs.conversation.Conversation.open_document.Goals as goal

pub diagnostics_notice-requires : goal.diagnostics_notice-requires
diagnostics_notice-requires c =
    ap is_some (ap (λ held. open_text c.in-Ok.uri.now held.documents) c.in_ok-self-inside.ensures
    ∙ found_set (record { uri = c.in-Ok.uri.now; text = c.in-Some.text.now; version = c.given_version-version.result }) c.self.inside.documents.documents)

pub returns : goal.returns
returns c =
    rw (← c.self.view_is)
    (opens_found _ (view c.args.params.now) c.in-Ok.uri.now c.in-Some.text.now _ _ _ c.in-Ok.ensures c.in-Some.ensures c.given_version-version.ensures
    (ap (λ held. record { life = c.self.inside.life; encoding = held.encoding; dialect = held.dialect; documents = held.documents }) c.in_ok-self-inside.ensures)
    c.in_ok-sent.ensures)
