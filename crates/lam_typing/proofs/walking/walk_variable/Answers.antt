use Rattle.std.proofs.Common.{◌≡◌, [], None, refl, sym, subst, arith}
use Rattle.lam_rules.specs.Terms.{variable}
use Rattle.lam_typing.specs.Answers.{answer, AllStandIn, context_under}
use Rattle.lam_typing.specs.inner.Steps.{entry_at}
use Rattle.lam_typing.proofs.Glue.{settled_walked, unbound_parts, variable_parts}
use Rattle.lam_typing.proofs.walking.walk_variable.Goals as goal

pub returns-then-index-depth-clause-walked : goal.returns-then-index-depth-clause-walked
returns-then-index-depth-clause-walked c =
    settled_walked _ c.args.walk.now c.args.walk.now c.settle.new.walk (variable c.args.index) (λ s. []) None c.blame_if-blame.result c.settle.ensures.settled
    (unbound_parts c.args.walk.now c.args.index c.blame_if-blame.result (omega (arith, c.len-depth.ensures, c.if-index-depth.true)) c.blame_if-blame.ensures)
    refl tt (λ s. refl)

pub settle-requires-2-clause-stands : goal.settle-requires-2-clause-stands
settle-requires-2-clause-stands c =
    c.entry_of-entry.ensures.stands c.args.walk.now.table (subst (λ os. AllStandIn c.args.walk.now.table os) (sym c.deref.ensures.value) c.requires.sound.entries)

pub returns-clause-walked : goal.returns-clause-walked
returns-clause-walked c =
    settled_walked _ c.args.walk.now c.args.walk.now c.settle-2.new.walk (variable c.args.index) (λ s. []) c.entry_of-entry.result None c.settle-2.ensures.settled
    (variable_parts c.args.walk.now c.args.index c.entry_of-entry.result (omega (arith, c.len-depth.ensures, c.if-index-depth.false))
    (subst (λ os. answer c.args.walk.now.table c.entry_of-entry.result ≡ entry_at c.args.index (context_under c.args.walk.now.table os)) c.deref.ensures.value (c.entry_of-entry.ensures.entry c.args.walk.now.table)))
    refl
    (c.entry_of-entry.ensures.stands c.args.walk.now.table (subst (λ os. AllStandIn c.args.walk.now.table os) (sym c.deref.ensures.value) c.requires.sound.entries))
    (λ s. refl)
