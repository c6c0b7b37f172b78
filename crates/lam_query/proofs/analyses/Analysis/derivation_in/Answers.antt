use Rattle.lam_query.proofs.DerivedAlone.{two_pushed, too_large_derived, no_term_derived, span_stands, no_type_derived, proof_derived}
use Rattle.lam_query.proofs.analyses.Analysis.derivation_in.Goals as goal

pub returns-in_default-clause-derived : goal.returns-in_default-clause-derived
returns-in_default-clause-derived c =
    let there = c.requires.there in
    let alone = c.in_ok-alone.ensures there.here.pieces there.here.sight there.here.before in
    let none = rw c.in_default.is at c.in_ok-types.ensures.none in
    too_large_derived c.args.text.now c.args.offset c.args.self.now c.args.piece c.args.command c.requires.of c.requires.small there c.in_ok-alone.alone alone
    _ c.deref-2.ensures.value none

pub returns-in_default-place_at-clause-derived : goal.returns-in_default-place_at-clause-derived
returns-in_default-place_at-clause-derived c =
    let there = c.requires.there in
    let alone = c.in_ok-alone.ensures there.here.pieces there.here.sight there.here.before in
    no_term_derived c.args.text.now c.args.offset c.args.self.now c.args.piece c.args.command c.requires.of c.requires.small there c.in_ok-alone.alone alone
    c.in_ok-scopes.scopes _ c.deref.ensures.value c.in_ok-scopes.ensures c.in_default-place_at.ensures

pub returns-in_default-2-clause-derived : goal.returns-in_default-2-clause-derived
returns-in_default-2-clause-derived c =
    let there = c.requires.there in
    let alone = c.in_ok-alone.ensures there.here.pieces there.here.sight there.here.before in
    let found = rw c.in-Some.is at c.in_ok-types.ensures.some in
    let none = rw c.in_default-2.is at c.in_ok-proof.ensures.none in
    no_type_derived c.args.text.now c.args.offset c.args.self.now c.args.piece c.args.command c.requires.of c.requires.small there c.in_ok-alone.alone alone
    c.in_ok-scopes.scopes _ c.deref.ensures.value c.in_ok-scopes.ensures c.in-Some.types _ c.deref-2.ensures.value found _ c.in-Some-place_at.ensures none

pub returns-clause-derived : goal.returns-clause-derived
returns-clause-derived c =
    let there = c.requires.there in
    let alone = c.in_ok-alone.ensures there.here.pieces there.here.sight there.here.before in
    let found = rw c.in-Some.is at c.in_ok-types.ensures.some in
    let proof = rw c.in-Some-2.is at c.in_ok-proof.ensures.some in
    proof_derived c.args.text.now c.args.offset c.args.self.now c.args.piece c.args.command c.requires.of c.requires.small there c.in_ok-alone.alone alone
    c.in_ok-scopes.scopes _ c.deref.ensures.value c.in_ok-scopes.ensures c.in-Some.types _ c.deref-2.ensures.value found _ c.in-Some-place_at.ensures
    _ proof c.in_ok-outer.outer.items c.in_ok-inner.inner.items c.in_ok-outer.ensures.names c.in_ok-outer.ensures.entries
    c.in_ok-inner.ensures.names c.in_ok-inner.ensures.entries _
    (two_pushed c.new-context.result.items _ _ _ _ _ _ _ _ _ _ c.new-context.ensures.items c.table.ensures c.table-2.ensures c.deref-3.ensures.value c.deref-4.ensures.value
    c.in_ok-push_entries.ensures c.in_ok-push_entries-2.ensures)
    c.in_ok-steps.ensures.of_term

pub returns-clause-whole_characters : goal.returns-clause-whole_characters
returns-clause-whole_characters c =
    let there = c.requires.there in
    let alone = c.in_ok-alone.ensures there.here.pieces there.here.sight there.here.before in
    c.in_ok-steps.ensures.whole_characters c.args.text.now
    (span_stands c.args.text.now c.args.offset c.args.self.now c.args.piece c.args.command c.requires.of c.requires.small there c.in_ok-alone.alone alone
    c.in_ok-scopes.scopes _ c.deref.ensures.value c.in_ok-scopes.ensures)
