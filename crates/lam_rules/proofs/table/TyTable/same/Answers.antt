use Rattle.lam_rules.proofs.TableEntries.{same_below}
use Rattle.lam_rules.proofs.table.TyTable.same.Goals as goal

pub returns : goal.returns
returns c =
    same_below _ _ _ _ _ _ c.self.view_is c.self.invariant.0 c.requires.left c.requires.right
    c.sorted.ensures.at_most c.sorted.ensures.sorted c.sorted-2.ensures.at_most c.sorted-2.ensures.sorted _ c.eq.ensures
