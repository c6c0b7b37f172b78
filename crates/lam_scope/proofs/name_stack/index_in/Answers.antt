use Rattle.std.proofs.Common.{sym, ap, ◌∙◌, arith, length}
use Rattle.lam_scope.proofs.NameStacks.{indexed, index_standing, found_within}
use Rattle.lam_scope.proofs.name_stack.index_in.Goals as goal

pub overflow_sub-result : goal.overflow_sub-result
overflow_sub-result c =
    omega (arith, found_within c.args.stack.now c.args.innermost.now c.args.name.now c.in-Some.index c.requires (sym c.position_in.ensures ∙ c.in-Some.is))

pub overflow_sub-result-in-Some : goal.overflow_sub-result-in-Some
overflow_sub-result-in-Some c =
    omega (arith, found_within c.args.stack.now c.args.innermost.now c.args.name.now c.in-Some.index c.requires (sym c.position_in.ensures ∙ c.in-Some.is))

pub returns-in-None : goal.returns-in-None
returns-in-None c =
    sym (index_standing c.args.stack.now c.args.innermost.now c.args.name.now c.requires ∙ ap (indexed (length c.args.stack.now)) (sym c.position_in.ensures ∙ c.in-None.is))

pub returns-in-Some : goal.returns-in-Some
returns-in-Some c =
    sym (index_standing c.args.stack.now c.args.innermost.now c.args.name.now c.requires ∙ ap (indexed (length c.args.stack.now)) (sym c.position_in.ensures ∙ c.in-Some.is))
