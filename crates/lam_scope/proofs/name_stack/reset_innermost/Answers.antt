use Rattle.std.proofs.Common.{rules}
use Rattle.lam_scope.proofs.NameStacks.{innermost_reset}
use Rattle.lam_scope.proofs.name_stack.reset_innermost.Goals as goal

pub returns-in-Some : goal.returns-in-Some
returns-in-Some c =
    innermost_reset c.args.name.now c.args.innermost.now (c.get_mut.follows.lender c.args.before) c.args.before ((c.get_mut.follows.holds c.args.before).3 (search rules))
