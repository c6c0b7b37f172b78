use Rattle.std.proofs.Common.{sym, ap, ◌∙◌}
use Rattle.std.specs.Option.{option_map}
use Rattle.lam_scope.specs.inner.NameStacks.{found_in, with_binder}
use Rattle.lam_scope.proofs.NameStacks.{innermost_set}
use Rattle.lam_scope.proofs.name_stack.set_innermost.Goals as goal

pub returns-in-None-clause-set : goal.returns-in-None-clause-set
returns-in-None-clause-set c = λ x.
    innermost_set c.in-Some.text.now c.args.innermost.now c.insert.new.self c.args.index c.in_ok-insert.ensures.updates x
    ∙ ap (λ o. with_binder (option_map (λ y. y.now) o) c.args.index (found_in c.args.innermost.now) x) (sym c.in-Some.is)

pub returns-in-Some-2-clause-set : goal.returns-in-Some-2-clause-set
returns-in-Some-2-clause-set c = λ x.
    innermost_set c.in-Some.text.now c.args.innermost.now c.insert.new.self c.args.index c.in_ok-insert.ensures.updates x
    ∙ ap (λ o. with_binder (option_map (λ y. y.now) o) c.args.index (found_in c.args.innermost.now) x) (sym c.in-Some.is)
