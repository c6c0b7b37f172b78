use Rattle.std.proofs.Common.{◌≡◌, None}
use Rattle.std.specs.Map.{lookup, remove_entry}
use Rattle.lam_session.proofs.EntryLemmas.{is_uri, documents_of-remove_entry, AreReady-remove_entry}
use Rattle.lam_session.proofs.documents.Documents.close.Goals as goal

pub invariant_of-self : goal.invariant_of-self
invariant_of-self c = rw c.shift_remove.ensures.entries (AreReady-remove_entry _ _ c.args.uri.now c.self.inside.by_uri.entries c.self.invariant)

pub returns : goal.returns
returns c =
    let entries = c.self.inside.by_uri.entries in
    let gone : lookup (is_uri c.args.uri.now) (remove_entry (is_uri c.args.uri.now) entries) ≡ None = rw (← c.shift_remove.ensures.entries) c.shift_remove.ensures.updates.1 in
    let documents = documents_of-remove_entry c.args.uri.now entries gone in
    rw (← c.self.view_is, c.shift_remove.ensures.entries) (λ i. record { encoding = c.self.inside.encoding; dialect = c.self.inside.dialect; documents = documents i })
