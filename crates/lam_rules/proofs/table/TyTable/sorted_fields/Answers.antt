use Rattle.lam_rules.proofs.TableFields.{inside_more, inside_all, sorted_numbers, below_permutation}
use Rattle.lam_rules.proofs.TableEntries.{below_read}
use Rattle.lam_rules.proofs.table.TyTable.sorted_fields.Goals as goal

pub loop-i-preserved : goal.loop-i-preserved
loop-i-preserved c =
    inside_more _ _ _ _ _ _ _ _ c.loop-i-test.true c.index-fields-i.is c.in_ok-push.ensures.items c.in_ok-label.ensures.cases
    c.sorted.ensures.at_most c.sorted.ensures.sorted c.requires c.loop-i.invariant

pub returns-clause-over : goal.returns-clause-over
returns-clause-over c = below_permutation _ _ _ c.sort_by_label.ensures.permutation c.loop-i.invariant.0

pub returns-clause-sorted : goal.returns-clause-sorted
returns-clause-sorted c =
    sorted_numbers _ _ _ _ c.in_ok-sort_by_label.ensures.sorting (inside_all _ _ _ _ c.loop-i-test.false c.loop-i.invariant.1)

pub sorted-requires : goal.sorted-requires
sorted-requires c = below_read _ _ _ _ c.requires c.loop-i-test.true c.index-fields-i.is
