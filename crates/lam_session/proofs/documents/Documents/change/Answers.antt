use Rattle.std.proofs.Common.{◌≡◌, ◌∙◌, sym, ap, Some}
use Rattle.std.specs.Map.{lookup}
use Rattle.lam_text.specs.Edits.{text_after}
use Rattle.lam_session.specs.Documents.{with_document}
use Rattle.lam_session.specs.Entries.{documents_of}
use Rattle.lam_session.proofs.EntryLemmas.{is_uri, text_found, not_found, documents_of-set_value, AreReady-set_value, AreReady-lookup}
use Rattle.lam_session.proofs.documents.Documents.change.Goals as goal

pub unreachable-requires : goal.unreachable-requires
unreachable-requires c = not_found c.args.uri.now c.self.inside.by_uri.entries (sym c.in_default.ensures.value) (rw (← c.self.view_is) at c.requires)

pub invariant_of-self : goal.invariant_of-self
invariant_of-self c =
    let entries = c.self.inside.by_uri.entries in
    let there : lookup (is_uri c.args.uri.now) entries ≡ Some c.in-Some.document.now = sym c.in-Some.ensures.value in
    let ready = AreReady-lookup c.self.inside.encoding c.self.inside.dialect c.args.uri.now entries c.in-Some.document.now c.self.invariant there in
    let now = c.in_ok-change.ensures in
    rw (c.get_mut.follows.holds _).0
    (AreReady-set_value c.self.inside.encoding c.self.inside.dialect c.args.uri.now entries _
    (record { encoding_is = ap (λ d. d.encoding) now ∙ ready.encoding_is; dialect_is = ap (λ d. d.dialect) now ∙ ready.dialect_is; analysed = ap (λ d. d.analysed) now }) c.self.invariant)

pub returns : goal.returns
returns c = λ text told.
    let entries = c.self.inside.by_uri.entries in
    let there : lookup (is_uri c.args.uri.now) entries ≡ Some c.in-Some.document.now = sym c.in-Some.ensures.value in
    let ready = AreReady-lookup c.self.inside.encoding c.self.inside.dialect c.args.uri.now entries c.in-Some.document.now c.self.invariant there in
    let before = text_found c.args.uri.now entries c.in-Some.document.now text there (rw (← c.self.view_is) at told) in
    let now = c.in_ok-change.ensures in
    let text_now = ap (λ d. d.text) now ∙ (λ i. text_after (ready.encoding_is i) (before i) c.args.changes.now) in
    let documents =
    documents_of-set_value c.args.uri.now entries c.in-Some.document.now c.change.new.self there
    ∙ (λ i. with_document (record { uri = c.args.uri.now; text = text_now i; version = (now i).version }) (documents_of entries)) in
    rw (← c.self.view_is, (c.get_mut.follows.holds _).0) (λ i. record { encoding = c.self.inside.encoding; dialect = c.self.inside.dialect; documents = documents i })
