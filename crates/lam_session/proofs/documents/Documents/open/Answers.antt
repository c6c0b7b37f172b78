use Rattle.std.proofs.Common.{ap, ◌∙◌}
use Rattle.lam_session.specs.Documents.{with_document}
use Rattle.lam_session.specs.Entries.{documents_of}
use Rattle.lam_session.proofs.EntryLemmas.{documents_of-insert_entry, AreReady-insert_entry}
use Rattle.lam_session.proofs.documents.Documents.open.Goals as goal

pub invariant_of-self : goal.invariant_of-self
invariant_of-self c =
    let made = c.in_ok-document.ensures in
    rw c.in_ok-insert.ensures.entries
    (AreReady-insert_entry _ _ _ _ _ (record { encoding_is = ap (λ d. d.encoding) made; dialect_is = ap (λ d. d.dialect) made; analysed = ap (λ d. d.analysed) made }) c.self.invariant)

pub returns : goal.returns
returns c =
    let entries = c.self.inside.by_uri.entries in
    let made = c.in_ok-document.ensures in
    let documents =
    documents_of-insert_entry entries c.in_ok-uri.uri c.in_ok-document.document
    ∙ (λ i. with_document (record { uri = c.in_ok-uri.ensures.ok i; text = (made i).text; version = (made i).version }) (documents_of entries)) in
    rw (← c.self.view_is, c.in_ok-insert.ensures.entries) (λ i. record { encoding = c.self.inside.encoding; dialect = c.self.inside.dialect; documents = documents i })
