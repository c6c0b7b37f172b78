use Rattle.std.proofs.Common.{sym, ◌∙◌}
use Rattle.lam_scope.proofs.Lookups.{abbreviation_within, abbreviation_found, abbreviation_missed}
use Rattle.lam_scope.proofs.abbreviations.find_in.Goals as goal

pub item_under-found-requires : goal.item_under-found-requires
item_under-found-requires c = abbreviation_within c.args.items.now c.args.names.now c.args.name.now c.in-Some.index c.requires (sym c.index_of.ensures ∙ c.in-Some.is)

pub returns-in-None-clause-unbound : goal.returns-in-None-clause-unbound
returns-in-None-clause-unbound c = (abbreviation_missed c.args.items.now c.args.names.now c.args.name.now c.requires (sym c.index_of.ensures ∙ c.in-None.is)).0

pub returns-in-None-clause-none : goal.returns-in-None-clause-none
returns-in-None-clause-none c = (abbreviation_missed c.args.items.now c.args.names.now c.args.name.now c.requires (sym c.index_of.ensures ∙ c.in-None.is)).1

pub returns-in-Some-clause-bound : goal.returns-in-Some-clause-bound
returns-in-Some-clause-bound c =
    (abbreviation_found c.args.items.now c.args.names.now c.args.name.now c.in-Some.index _ c.requires (sym c.index_of.ensures ∙ c.in-Some.is) c.item_under-found.ensures).0

pub returns-in-Some-clause-meaning : goal.returns-in-Some-clause-meaning
returns-in-Some-clause-meaning c =
    (abbreviation_found c.args.items.now c.args.names.now c.args.name.now c.in-Some.index _ c.requires (sym c.index_of.ensures ∙ c.in-Some.is) c.item_under-found.ensures).1
