use Rattle.std.proofs.Common.{◌≡◌, map, length, ap, sym, subst, ◌∙◌}
use Rattle.std.specs.Option.{option_map}
use Rattle.std.proofs.lemmas.Result.{IfOk-weaker}
use Rattle.lam_rules.specs.Numbers.{type_of}
use Rattle.lam_rules.specs.TermViews.{term_of}
use Rattle.lam_typing.specs.Typings.{types_of}
use Rattle.lam_query.specs.Views.{mismatch_of}
use Rattle.lam_query.specs.inner.Explained.{HasParts, mismatch_in}
use Rattle.lam_query.proofs.BlamedParts.{is_told, is_term, has_parts, none_missing}
use Rattle.lam_query.proofs.mismatches.mismatch_at.Goals as goal

pub returns-in_default : goal.returns-in_default
returns-in_default c =
    let missing = rw c.in_default.is at c.in_ok-parts.ensures.none in
    absurd (none_missing c.args.scopes.now c.args.types.now c.args.place c.requires missing.0 missing.1 missing.2)

pub core_at-term-requires : goal.core_at-term-requires
core_at-term-requires c = is_term c.args.scopes.now c.args.types.now c.args.place c.requires

pub mismatch_of-requires-clause-many : goal.mismatch_of-requires-clause-many
mismatch_of-requires-clause-many c =
    let some = rw c.in-Some.is at c.in_ok-parts.ensures.some in
    subst (λ ps. HasParts (term_of c.core_at-term.result.now) (length ps)) (sym c.deref.ensures.value)
    (has_parts c.args.scopes.now c.args.types.now c.args.place c.requires c.in-Some.parts.items (term_of c.core_at-term.result.now) some c.core_at-term.ensures)

pub returns : goal.returns
returns c =
    let some = rw c.in-Some.is at c.in_ok-parts.ensures.some in
    let term = term_of c.core_at-term.result.now in
    let same : map (type_of c.table.result.now) c.deref.result.now ≡ map (type_of (types_of c.args.types.now.typing)) c.in-Some.parts.items =
    λ i. map (type_of (c.table.ensures i)) (c.deref.ensures.value i) in
    IfOk-weaker c.mismatch_of.result _ _
    (λ made told. is_told c.args.scopes.now c.args.types.now c.args.place (map (type_of (types_of c.args.types.now.typing)) c.in-Some.parts.items) term (option_map mismatch_of made)
    some c.core_at-term.ensures (told ∙ ap (mismatch_in term) same))
    c.mismatch_of.ensures
