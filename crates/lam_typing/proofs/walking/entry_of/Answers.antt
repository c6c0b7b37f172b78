use Rattle.std.proofs.Common.{◌-◌, length, slice_index_or, None, arith}
use Rattle.std.proofs.lemmas.List.{get_or_default}
use Rattle.lam_typing.proofs.Growing.{entry_of_index, stands_at}
use Rattle.lam_typing.proofs.walking.entry_of.Goals as goal

pub returns-clause-entry : goal.returns-clause-entry
returns-clause-entry c = λ ts.
    let found = slice_index_or c.args.entries.now (length c.args.entries.now - 1 - c.args.index) None in
    entry_of_index ts c.args.entries.now c.args.index found c.requires
    (get_or_default c.args.entries.now (length c.args.entries.now - 1 - c.args.index) None found (let lt = c.requires in omega arith))

pub returns-clause-stands : goal.returns-clause-stands
returns-clause-stands c = λ ts stand.
    let found = slice_index_or c.args.entries.now (length c.args.entries.now - 1 - c.args.index) None in
    stands_at ts c.args.entries.now (length c.args.entries.now - 1 - c.args.index) found (let lt = c.requires in omega arith)
    (get_or_default c.args.entries.now (length c.args.entries.now - 1 - c.args.index) None found (let lt = c.requires in omega arith)) stand
