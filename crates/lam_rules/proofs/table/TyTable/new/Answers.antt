use Rattle.std.proofs.Common.{arith}
use Rattle.lam_rules.proofs.TableEntries.{entry_lists}
use Rattle.lam_rules.proofs.table.TyTable.new.Goals as goal

pub returns : goal.returns
returns c = grind (arith, entry_lists)
