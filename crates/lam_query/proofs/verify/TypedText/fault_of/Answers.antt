use Rattle.std.proofs.Common.{◌+◌, map, Some, ap, sym, subst, ◌∙◌, arith}
use Rattle.std.proofs.lemmas.List.{length-map}
use Rattle.lam_query.specs.Views.{derivation_of, step_of}
use Rattle.lam_query.specs.FirstFaults.{HasRange}
use Rattle.lam_query.specs.inner.Verifying.{IsResultIn}
use Rattle.lam_query.proofs.Counting.{last_counted}
use Rattle.lam_query.proofs.Results.{IsSoFar, so_far_other, so_far_fault, all_terms, here_is, row_is}
use Rattle.lam_query.proofs.Verifying.{not_so, as_many}
use Rattle.lam_query.proofs.verify.TypedText.fault_of.Goals as goal
use Rattle.lam_query.specs.Steps.{last_span}

pub loop-i-preserved-then-not-ends_at : goal.loop-i-preserved-then-not-ends_at
loop-i-preserved-then-not-ends_at c = λ commands is.
    let x = derivation_of c.args.derivation.now in
    let i = c.loop-i.i in
    let given = ap (λ ss. last_span (map step_of ss)) c.deref.ensures.value in
    let other : HasRange commands x.steps i → ⊥ =
    λ here. let row = row_is commands c.args.self.now.scopes x i is.are_scopes here in not_so c.ends_at.result c.if-not-ends_at.true (c.ends_at.ensures.1 (row.0, given ∙ row.1)) in
    so_far_other commands x c.args.self.now.dialect i c.loop-i.first other (c.loop-i.invariant commands is)

pub loop-i-preserved : goal.loop-i-preserved
loop-i-preserved c = λ commands is.
    let x = derivation_of c.args.derivation.now in
    let d = c.args.self.now.dialect in
    let i = c.loop-i.i in
    let given = ap (λ ss. last_span (map step_of ss)) c.deref.ensures.value in
    let size = as_many commands c.args.self.now.types.resolved is.are_types.statements in
    let found = c.in_ok-fault.ensures commands is in
    let fault = rw c.in-Some.is at found in
    subst (λ r. IsSoFar commands x d (i + 1) (Some r)) (sym c.unwrap_or.ensures)
    (so_far_fault commands x d i c.loop-i.first c.in-Some.fault (omega (arith, size, c.loop-i-test.true, c.place_count-i-end.ensures))
    (here_is commands c.args.self.now.scopes x i is.are_scopes (let row = c.ends_at.ensures.0 c.if-not-ends_at.false in (row.0, sym given ∙ row.1))) fault.0 fault.1 (c.loop-i.invariant commands is))

pub returns : goal.returns
returns c = λ commands is.
    let x = derivation_of c.args.derivation.now in
    let d = c.args.self.now.dialect in
    let size = as_many commands c.args.self.now.types.resolved is.are_types.statements in
    let long = length-map c.args.derivation.now.steps.items step_of in
    let last = last_counted x.steps c.requires.tree c.saturating_sub-last.result c.requires.make
    (omega (arith, long, c.saturating_sub-last.ensures, c.len.ensures, c.args.derivation.now.steps.ok.0)) in
    subst (λ r. IsResultIn commands x d (Some r)) (sym c.unwrap_or-2.ensures)
    (all_terms commands x d c.loop-i.i c.saturating_sub-last.result c.loop-i.first (omega (arith, size, c.loop-i-test.false, c.place_count-i-end.ensures)) last (c.loop-i.invariant commands is))
