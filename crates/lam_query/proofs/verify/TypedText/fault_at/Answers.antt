use Rattle.std.proofs.Common.{map, ap, ◌∙◌}
use Rattle.lam_rules.specs.TermViews.{term_of as core_of, written_of}
use Rattle.lam_scope.specs.PlacedTerms.{document_terms, term_of, tree_in}
use Rattle.lam_query.specs.Views.{derivation_of, entry_of}
use Rattle.lam_query.specs.Verified.{HasContext, entries_listed}
use Rattle.lam_query.proofs.Following.{typing_proved}
use Rattle.lam_query.proofs.OneFault.{valid_and_failing}
use Rattle.lam_query.proofs.Results.{no_difference}
use Rattle.lam_query.proofs.Verifying.{entries_are_listed, is_proof, proof_is, steps_are, typed_there, written_there}
use Rattle.lam_query.proofs.verify.TypedText.fault_at.Goals as goal

pub context_fault-requires-clause-listed : goal.context_fault-requires-clause-listed
context_fault-requires-clause-listed c = ap (map written_of) c.deref-2.ensures.value ∙ c.in_ok-entries.ensures ∙ ap (λ es. map (λ e. e.type) (map entry_of es)) c.deref.ensures.value

pub returns-in-Some : goal.returns-in-Some
returns-in-Some c = λ commands is.
    let found = rw c.in-Some.is at c.in_ok-fault.ensures commands is in
    (λ h. found.0 h.has_context, found.1)

pub returns-in-Some-2 : goal.returns-in-Some-2
returns-in-Some-2 c = λ commands is.
    let x = derivation_of c.args.derivation.now in
    let n = c.args.place.0 in
    let d = c.args.self.now.dialect in
    let term = tree_in (document_terms commands) n in
    let one = c.requires.one in
    let has : HasContext term x d = rw c.in_default.is at c.in_ok-fault.ensures commands is in
    let here = typed_there commands c.args.self.now.types.resolved n (core_of c.core_at-term.result.now) is.are_types.statements c.core_at-term.ensures in
    let types = c.in_ok-entries.ensures ∙ ap (λ es. map (λ e. e.type) (map entry_of es)) c.deref.ensures.value in
    let listed = entries_are_listed c.in_ok-entries.entries.items x types in
    let checked = rw (c.deref-3.ensures.value, listed, here) at c.in_ok-number.ensures in
    let failing = (rw c.in-Some-2.is at checked) one.tree one.make in
    (λ h. valid_and_failing term x d c.in-Some-2.number one.tree one.tree one.make one.make (proof_is term x d one.tree one.make h) failing, (has, one.tree, one.make, failing))

pub returns-in-Some-3 : goal.returns-in-Some-3
returns-in-Some-3 c = λ commands is.
    let x = derivation_of c.args.derivation.now in
    let n = c.args.place.0 in
    let d = c.args.self.now.dialect in
    let term = tree_in (document_terms commands) n in
    let one = c.requires.one in
    let has : HasContext term x d = rw c.in_default.is at c.in_ok-fault.ensures commands is in
    let here = typed_there commands c.args.self.now.types.resolved n (core_of c.core_at-term.result.now) is.are_types.statements c.core_at-term.ensures in
    let types = c.in_ok-entries.ensures ∙ ap (λ es. map (λ e. e.type) (map entry_of es)) c.deref.ensures.value in
    let listed = entries_are_listed c.in_ok-entries.entries.items x types in
    let checked = rw (c.deref-3.ensures.value, listed, here) at c.in_ok-number.ensures in
    let proof = typing_proved d (entries_listed x) (term_of term).place.here one.tree ((rw c.in_default-2.is at checked) one.tree one.make) in
    let differ = (rw (c.in-Some-3.is, c.deref-4.ensures.value) at c.in_ok-number-2.ensures) commands one.tree is.are_scopes one.make in
    (λ h. no_difference x.steps _ c.in-Some-3.number differ (steps_are term x d one.tree one.make h), (has, one.tree, one.make, proof, differ))

pub returns-in-None : goal.returns-in-None
returns-in-None c = λ commands is.
    let x = derivation_of c.args.derivation.now in
    let n = c.args.place.0 in
    let d = c.args.self.now.dialect in
    let term = tree_in (document_terms commands) n in
    let one = c.requires.one in
    let has : HasContext term x d = rw c.in_default.is at c.in_ok-fault.ensures commands is in
    let here = typed_there commands c.args.self.now.types.resolved n (core_of c.core_at-term.result.now) is.are_types.statements c.core_at-term.ensures in
    let types = c.in_ok-entries.ensures ∙ ap (λ es. map (λ e. e.type) (map entry_of es)) c.deref.ensures.value in
    let listed = entries_are_listed c.in_ok-entries.entries.items x types in
    let checked = rw (c.deref-3.ensures.value, listed, here) at c.in_ok-number.ensures in
    let proof = typing_proved d (entries_listed x) (term_of term).place.here one.tree ((rw c.in_default-2.is at checked) one.tree one.make) in
    let same = (rw (c.in-None.is, c.deref-4.ensures.value) at c.in_ok-number-2.ensures) commands one.tree is.are_scopes one.make in
    is_proof term x d one.tree (written_there commands c.args.self.now.scopes n is.are_scopes c.requires.written) has proof same
