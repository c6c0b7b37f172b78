use Rattle.std.proofs.Common.{◌+◌, Some, None, arith}
use Rattle.lam_rules.specs.TermViews.{term_of}
use Rattle.lam_scope.specs.Views.{statements_of}
use Rattle.lam_typing.specs.inner.Proving.{tree_in}
use Rattle.lam_typing.proofs.BuiltSteps.{some_term, none_term}
use Rattle.lam_typing.proofs.PlaceProofs.{place_within, inside_within, proof_at, past_all}
use Rattle.lam_typing.proofs.grounds.Grounds.prove_at.Goals as goal

pub returns-then-place-len-clause-none : goal.returns-then-place-len-clause-none
returns-then-place-len-clause-none c = past_all c.args.self.now.typing.now c.args.place.0 (omega (arith, c.len.ensures, c.if-place-len.true))

pub core_at-term-requires : goal.core_at-term-requires
core_at-term-requires c = place_within (statements_of c.args.self.now.resolved.now) c.args.self.now.typing.now c.args.place.0 c.requires.typing (omega (arith, c.len.ensures, c.if-place-len.false))

pub prove_term-requires : goal.prove_term-requires
prove_term-requires c =
    inside_within (statements_of c.args.self.now.resolved.now) c.args.self.now.resolved.now.well_formed c.args.self.now c.requires.typing c.requires.noted c.args.place.0 (term_of c.core_at-term.result.now) (omega (arith, c.len.ensures, c.if-place-len.false)) c.core_at-term.ensures

pub returns-in_default-clause-none : goal.returns-in_default-clause-none
returns-in_default-clause-none c =
    (proof_at (statements_of c.args.self.now.resolved.now) c.args.self.now.resolved.now.well_formed c.args.self.now c.requires.typing c.requires.noted c.args.place.0 (term_of c.core_at-term.result.now) None (omega (arith, c.len.ensures, c.if-place-len.false)) c.core_at-term.ensures
    (none_term c.args.self.now (term_of c.core_at-term.result.now) (c.args.place.0 + 1) c.in_ok-made.field-0 c.in_default.is c.in_ok-made.ensures.proves)).1

pub returns-clause-some : goal.returns-clause-some
returns-clause-some c =
    (proof_at (statements_of c.args.self.now.resolved.now) c.args.self.now.resolved.now.well_formed c.args.self.now c.requires.typing c.requires.noted c.args.place.0 (term_of c.core_at-term.result.now) (Some (tree_in c.in-Some.made)) (omega (arith, c.len.ensures, c.if-place-len.false)) c.core_at-term.ensures
    (some_term c.args.self.now (term_of c.core_at-term.result.now) (c.args.place.0 + 1) c.in_ok-made.field-0 c.in-Some.made c.in-Some.is c.in_ok-made.ensures.proves)).0
