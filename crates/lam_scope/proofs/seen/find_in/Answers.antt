use Rattle.std.proofs.Common.{ap, sym, ◌∙◌}
use Rattle.lam_scope.specs.Names.{index_of}
use Rattle.lam_scope.proofs.Lookups.{seen_within, seen_found, seen_missed}
use Rattle.lam_scope.proofs.seen.find_in.Goals as goal

pub item_under-seen-requires : goal.item_under-seen-requires
item_under-seen-requires c = seen_within c.args.stack.now c.args.names.now c.args.name.now c.in-Some.between c.requires (sym c.index_of.ensures ∙ c.in-Some.is)

pub returns-in-None-clause-binder : goal.returns-in-None-clause-binder
returns-in-None-clause-binder c = seen_missed c.args.stack.now c.args.names.now c.args.name.now c.requires (sym c.index_of.ensures ∙ c.in-None.is)

pub returns-in-None-clause-between : goal.returns-in-None-clause-between
returns-in-None-clause-between c = sym c.in-None.is ∙ c.index_of.ensures ∙ ap (index_of c.args.name.now) c.requires

pub returns-in-Some-clause-binder : goal.returns-in-Some-clause-binder
returns-in-Some-clause-binder c = seen_found c.args.stack.now c.args.names.now c.args.name.now c.in-Some.between _ c.requires (sym c.index_of.ensures ∙ c.in-Some.is) c.item_under-seen.ensures

pub returns-in-Some-clause-between : goal.returns-in-Some-clause-between
returns-in-Some-clause-between c = sym c.in-Some.is ∙ c.index_of.ensures ∙ ap (index_of c.args.name.now) c.requires
