use Rattle.std.proofs.Common.{ap, length, arith}
use Rattle.lam_rules.proofs.TableEntries.{length-types_of, entry_at}
use Rattle.lam_rules.proofs.table.TyTable.entry.Goals as goal

pub index-requires : goal.index-requires
index-requires c =
    let long = length-types_of c.self.inside.entries.items in
    let same = ap length c.self.view_is in
    let stands = c.requires in
    omega (arith, c.self.inside.entries.ok.0)

pub returns : goal.returns
returns c = entry_at _ _ _ _ c.self.view_is c.self.invariant.0 c.requires c.index.ensures
