use Rattle.lam_scope.proofs.NameStacks.{top_popped, named_popped, unnamed_popped, some_is_found, names_popped}
use Rattle.lam_scope.proofs.name_stack.leave_in.Goals as goal

pub reset_innermost-requires : goal.reset_innermost-requires
reset_innermost-requires c =
    some_is_found c.pop.new.self.items c.args.stack.now.items c.args.innermost.now c.in-Some.last c.in-Some-name.name c.requires
    (top_popped c.pop.new.self.items c.args.stack.now.items c.pop.result c.in-Some.last c.pop.ensures.items c.in-Some.is) c.in-Some-name.is

pub returns-in-Some-name-clause-stack : goal.returns-in-Some-name-clause-stack
returns-in-Some-name-clause-stack c =
    named_popped c.pop.new.self.items c.args.stack.now.items c.args.innermost.now c.reset_innermost.new.innermost c.in-Some.last c.in-Some-name.name c.requires
    (top_popped c.pop.new.self.items c.args.stack.now.items c.pop.result c.in-Some.last c.pop.ensures.items c.in-Some.is) c.in-Some-name.is c.reset_innermost.ensures

pub returns-in-Some-name-clause-left : goal.returns-in-Some-name-clause-left
returns-in-Some-name-clause-left c =
    names_popped c.pop.new.self.items c.args.stack.now.items c.in-Some.last (top_popped c.pop.new.self.items c.args.stack.now.items c.pop.result c.in-Some.last c.pop.ensures.items c.in-Some.is)

pub returns-in_default-name-clause-stack : goal.returns-in_default-name-clause-stack
returns-in_default-name-clause-stack c =
    unnamed_popped c.pop.new.self.items c.args.stack.now.items c.args.innermost.now c.in-Some.last c.requires
    (top_popped c.pop.new.self.items c.args.stack.now.items c.pop.result c.in-Some.last c.pop.ensures.items c.in-Some.is) c.in_default-name.is

pub returns-in_default-name-clause-left : goal.returns-in_default-name-clause-left
returns-in_default-name-clause-left c =
    names_popped c.pop.new.self.items c.args.stack.now.items c.in-Some.last (top_popped c.pop.new.self.items c.args.stack.now.items c.pop.result c.in-Some.last c.pop.ensures.items c.in-Some.is)
