use Rattle.std.proofs.Common.{◌∙◌, ◌++◌, ◌∷◌, [], ap}
use Rattle.lam_scope.specs.declared.names.Named.{Named}
use Rattle.lam_scope.specs.inner.NameStacks.{names_of}
use Rattle.lam_scope.proofs.NameStacks.{names_of-push, stack_pushed}
use Rattle.lam_scope.proofs.name_stack.enter_in.Goals as goal

pub returns-clause-stack : goal.returns-clause-stack
returns-clause-stack c =
    let top : Named = record { name = c.args.name; shadowed = c.in_ok-shadowed.shadowed } in
    stack_pushed c.args.stack.now.items _ c.args.innermost.now c.set_innermost.new.innermost top c.len-index.result c.requires (c.in_ok-push.ensures.items ∙ ap (λ s. s ++ top ∷ []) c.in_ok-reserve.ensures.items)
    (c.len-index.ensures ∙ c.args.stack.now.ok.0) c.in_ok-shadowed.ensures.before c.in_ok-shadowed.ensures.set

pub returns-clause-entered : goal.returns-clause-entered
returns-clause-entered c =
    let top : Named = record { name = c.args.name; shadowed = c.in_ok-shadowed.shadowed } in
    ap names_of (c.in_ok-push.ensures.items ∙ ap (λ s. s ++ top ∷ []) c.in_ok-reserve.ensures.items) ∙ names_of-push c.args.stack.now.items top
