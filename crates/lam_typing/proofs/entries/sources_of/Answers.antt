use Rattle.std.proofs.Common.{map, get_or, ap, refl, ◌∙◌}
use Rattle.lam_scope.specs.Views.{statements_of}
use Rattle.lam_scope.specs.declared.numbers.Origin.TheVariants.{Lambda}
use Rattle.lam_typing.specs.Entries.{entry_from}
use Rattle.lam_typing.proofs.Numbering.{sourced_more, sourced_all}
use Rattle.lam_typing.proofs.entries.sources_of.Goals as goal

pub loop-i-init : goal.loop-i-init
loop-i-init c = λ found. rw c.in_ok-sources.ensures.items refl

pub loop-i-preserved : goal.loop-i-preserved
loop-i-preserved c =
    let default = Lambda (record { 0 = 0 }) in
    let origin = get_or c.origins-origins.result.now c.loop-i.i default in
    sourced_more (statements_of c.args.resolved.now) c.loop-i.sources.items c.push.new.self.items _ c.loop-i.i default c.origins-origins.result.now c.loop-i-test.true
    (λ found. c.source_of-source.ensures found ∙ ap (λ ss. entry_from ss found origin) c.statements-in-loop-i.ensures) c.in_ok-push.ensures.items c.loop-i.invariant

pub returns : goal.returns
returns c = λ found.
    sourced_all (statements_of c.args.resolved.now) c.loop-i.sources.items c.loop-i.i c.origins-origins.result.now c.loop-i-test.false c.loop-i.invariant found
    ∙ ap (map (entry_from (statements_of c.args.resolved.now) found)) c.origins-origins.ensures
