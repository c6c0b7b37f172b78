use Rattle.std.proofs.Common.{length, ap, subst, sym, arith}
use Rattle.lam_rules.specs.Numbers.{AreEarlier, IsOver}
use Rattle.lam_rules.proofs.Tables.{below_more}
use Rattle.lam_query.proofs.fields.fields_at.Goals as goal

pub items_of-requires : goal.items_of-requires
items_of-requires c =
    let sorted = c.sorted-sorted.result.index in
    let earlier = subst (AreEarlier sorted) (sym c.deref.ensures.value) (subst (IsOver sorted) c.in-Record.is c.shape.ensures.earlier) in
    let stands = c.in-Some.ensures.stands in
    let size = ap length c.table-table.ensures in
    below_more _ _ _ earlier (omega arith)
