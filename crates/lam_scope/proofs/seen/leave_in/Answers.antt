use Rattle.std.proofs.Common.{sym, ap, ◌∙◌}
use Rattle.lam_scope.specs.Stacks.{outside}
use Rattle.lam_scope.specs.Tables.{entry_names}
use Rattle.lam_scope.specs.TableViews.{entry_of, entries_of}
use Rattle.lam_scope.proofs.Lookups.{top_left, names_left}
use Rattle.lam_scope.proofs.seen.leave_in.Goals as goal

pub returns-clause-names : goal.returns-clause-names
returns-clause-names c =
    c.leave.ensures
    ∙ ap outside c.requires
    ∙ names_left (entries_of c.args.stack.now.items)
    ∙ ap entry_names (sym (top_left entry_of c.args.stack.now.items c.pop.new.self.items c.pop.result c.args.stack.now.len c.pop.ensures.items c.args.stack.now.ok.0 c.pop.ensures.variant.1))

pub returns-clause-left : goal.returns-clause-left
returns-clause-left c = top_left entry_of c.args.stack.now.items c.pop.new.self.items c.pop.result c.args.stack.now.len c.pop.ensures.items c.args.stack.now.ok.0 c.pop.ensures.variant.1
