use Rattle.std.proofs.Common.{◌≡◌, true}
use Rattle.lam_session.proofs.EntryLemmas.{found_text, of_found, AreReady-lookup}
use Rattle.lam_session.proofs.documents.Documents.document.Goals as goal

pub returns-clause-text : goal.returns-clause-text
returns-clause-text c = rw (← c.self.view_is) (found_text c.args.uri.now c.self.inside.by_uri.entries c.get.result c.get.ensures.value)

pub returns-clause-encoding : goal.returns-clause-encoding
returns-clause-encoding c =
    let entries = c.self.inside.by_uri.entries in
    rw (← c.self.view_is)
    (of_found (λ o. o.encoding ≡ c.self.inside.encoding) c.args.uri.now entries c.get.result c.get.ensures.value
    (λ o there. (AreReady-lookup c.self.inside.encoding c.self.inside.dialect c.args.uri.now entries o c.self.invariant there).encoding_is))

pub returns-clause-dialect : goal.returns-clause-dialect
returns-clause-dialect c =
    let entries = c.self.inside.by_uri.entries in
    rw (← c.self.view_is)
    (of_found (λ o. o.dialect ≡ c.self.inside.dialect) c.args.uri.now entries c.get.result c.get.ensures.value
    (λ o there. (AreReady-lookup c.self.inside.encoding c.self.inside.dialect c.args.uri.now entries o c.self.invariant there).dialect_is))

pub returns-clause-analysed : goal.returns-clause-analysed
returns-clause-analysed c =
    let entries = c.self.inside.by_uri.entries in
    of_found (λ o. o.analysed ≡ true) c.args.uri.now entries c.get.result c.get.ensures.value
    (λ o there. (AreReady-lookup c.self.inside.encoding c.self.inside.dialect c.args.uri.now entries o c.self.invariant there).analysed)
