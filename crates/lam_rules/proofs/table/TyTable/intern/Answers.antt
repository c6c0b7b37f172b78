use Rattle.std.proofs.Common.{sym}
use Rattle.lam_rules.proofs.SortedBelow.{sorted_again, sorted_wf}
use Rattle.lam_rules.proofs.Tables.{keeps_same, keeps_trans, keeps_length, kept_shaped, over_more}
use Rattle.lam_rules.proofs.table.TyTable.intern.Goals as goal

pub returns-in_err-sorted_shape-in-None-clause-keeps : goal.returns-in_err-sorted_shape-in-None-clause-keeps
returns-in_err-sorted_shape-in-None-clause-keeps c = keeps_same _

pub intern_sorted-requires-clause-over : goal.intern_sorted-requires-clause-over
intern_sorted-requires-clause-over c = c.in_ok-sorted_shape-in-None.ensures.over

pub intern_sorted-requires-clause-wf : goal.intern_sorted-requires-clause-wf
intern_sorted-requires-clause-wf c = rw c.in_ok-sorted_shape-in-None.ensures.sorted (sorted_wf _ (c.find.ensures.wf c.requires.labels))

pub intern_sorted-requires-clause-sorted : goal.intern_sorted-requires-clause-sorted
intern_sorted-requires-clause-sorted c = rw c.in_ok-sorted_shape-in-None.ensures.sorted (sorted_again _)

pub intern_beside-requires-clause-over : goal.intern_beside-requires-clause-over
intern_beside-requires-clause-over c = over_more _ _ _ c.requires.over (keeps_length _ _ c.intern_sorted.ensures.keeps)

pub intern_beside-requires-clause-wf : goal.intern_beside-requires-clause-wf
intern_beside-requires-clause-wf c = rw (kept_shaped _ _ _ c.intern_sorted.ensures.keeps c.requires.over) (c.find.ensures.wf c.requires.labels)

pub intern_beside-requires-clause-sorted : goal.intern_beside-requires-clause-sorted
intern_beside-requires-clause-sorted c = rw (kept_shaped _ _ _ c.intern_sorted.ensures.keeps c.requires.over, sym c.in_ok-sorted_shape-in-None.ensures.sorted) c.in_ok-sorted-in-None.ensures.number

pub returns-in-Some-clause-keeps : goal.returns-in-Some-clause-keeps
returns-in-Some-clause-keeps c = keeps_same _

pub returns-in-Some-clause-number : goal.returns-in-Some-clause-number
returns-in-Some-clause-number c = c.in-Some.ensures.some

pub returns-in_ok-sorted-in-None-clause-keeps : goal.returns-in_ok-sorted-in-None-clause-keeps
returns-in_ok-sorted-in-None-clause-keeps c = keeps_trans _ _ _ c.intern_sorted.ensures.keeps c.intern_beside.ensures.keeps

pub returns-in_ok-sorted-in-None-clause-number : goal.returns-in_ok-sorted-in-None-clause-number
returns-in_ok-sorted-in-None-clause-number c = rw (sym (kept_shaped _ _ _ c.intern_sorted.ensures.keeps c.requires.over)) c.intern_beside.ensures.number
