use Rattle.std.proofs.Common.{length, map, ap, sym, ◌∙◌, arith}
use Rattle.std.proofs.lemmas.List.{length-map}
use Rattle.lam_rules.specs.TermViews.{written_of}
use Rattle.lam_scope.specs.Names.{shown_name}
use Rattle.lam_scope.specs.PlacedTerms.{document_terms, term_of, tree_in}
use Rattle.lam_scope.specs.TableViews.{binder_number}
use Rattle.lam_scope.specs.Tables.{binder_numbered, visible_at}
use Rattle.lam_scope.specs.Views.{table_of}
use Rattle.lam_query.specs.Views.{derivation_of, entry_of}
use Rattle.lam_query.specs.Verified.{HasNames, entries_listed}
use Rattle.lam_query.proofs.ListedEntries.{context_is, unfit_no_context}
use Rattle.lam_query.proofs.Verifying.{not_so, as_long, as_many, names_there}
use Rattle.lam_query.proofs.verify.TypedText.context_fault.Goals as goal

pub returns-then-not-are_named : goal.returns-then-not-are_named
returns-then-not-are_named c = λ commands is.
    let given = ap (λ es. map (λ e. e.name) (map entry_of es)) c.deref-2.ensures.value in
    let there = names_there commands c.args.self.now.scopes c.args.place.0 is.are_scopes in
    let seen = ap (map binder_number) c.deref.ensures.value ∙ c.in_ok-binders.ensures in
    let others : HasNames (tree_in (document_terms commands) c.args.place.0) (derivation_of c.args.derivation.now) → ⊥ =
    λ names. not_so c.are_named.result c.if-not-are_named.true
    (c.are_named.ensures.1 (given ∙ names ∙ sym there ∙ ap (map (λ b. shown_name (binder_numbered (table_of c.args.self.now.scopes) b).name)) (sym seen))) in
    (λ h. others h.names, others)

pub first_unfit-requires : goal.first_unfit-requires
first_unfit-requires c =
    let x = derivation_of c.args.derivation.now in
    let t = table_of c.args.self.now.scopes in
    let named = ap (λ es. map (λ e. e.name) (map entry_of es)) (sym c.deref-2.ensures.value) ∙ c.are_named.ensures.0 c.if-not-are_named.false
    ∙ ap (map (λ b. shown_name (binder_numbered t b).name)) (ap (map binder_number) c.deref.ensures.value ∙ c.in_ok-binders.ensures) in
    let seen = ap (map binder_number) c.deref-3.ensures.value ∙ c.in_ok-binders.ensures in
    as_long written_of (λ e. e.type) c.args.entries.now x.context c.requires.listed
    ∙ as_long (λ e. e.name) (λ b. shown_name (binder_numbered t b).name) x.context (visible_at t c.args.place.0) named
    ∙ sym (ap length seen) ∙ length-map c.deref-3.result.now binder_number

pub returns-in-Some : goal.returns-in-Some
returns-in-Some c = λ commands is.
    let x = derivation_of c.args.derivation.now in
    let n = c.args.place.0 in
    let t = table_of c.args.self.now.scopes in
    let named = ap (λ es. map (λ e. e.name) (map entry_of es)) (sym c.deref-2.ensures.value) ∙ c.are_named.ensures.0 c.if-not-are_named.false
    ∙ ap (map (λ b. shown_name (binder_numbered t b).name)) (ap (map binder_number) c.deref.ensures.value ∙ c.in_ok-binders.ensures) in
    let seen = ap (map binder_number) c.deref-3.ensures.value ∙ c.in_ok-binders.ensures in
    let size = as_many commands c.args.self.now.types.resolved is.are_types.statements in
    let all = context_is commands c.args.self.now is n _ x _ (omega (arith, size, c.requires.inside)) seen named
    (rw (c.origins-origins.ensures, is.are_types.dialect, c.requires.listed) at c.in_ok-number.ensures) in
    let found = rw c.in-Some.is at all in
    (λ h. unfit_no_context (term_of (tree_in (document_terms commands) n)).place.scope (entries_listed x) c.args.self.now.dialect c.in-Some.number found.1 h.context, found)

pub returns : goal.returns
returns c = λ commands is.
    let x = derivation_of c.args.derivation.now in
    let n = c.args.place.0 in
    let t = table_of c.args.self.now.scopes in
    let named = ap (λ es. map (λ e. e.name) (map entry_of es)) (sym c.deref-2.ensures.value) ∙ c.are_named.ensures.0 c.if-not-are_named.false
    ∙ ap (map (λ b. shown_name (binder_numbered t b).name)) (ap (map binder_number) c.deref.ensures.value ∙ c.in_ok-binders.ensures) in
    let seen = ap (map binder_number) c.deref-3.ensures.value ∙ c.in_ok-binders.ensures in
    let size = as_many commands c.args.self.now.types.resolved is.are_types.statements in
    let all = context_is commands c.args.self.now is n _ x _ (omega (arith, size, c.requires.inside)) seen named
    (rw (c.origins-origins.ensures, is.are_types.dialect, c.requires.listed) at c.in_ok-number.ensures) in
    rw c.in-None.is at all
