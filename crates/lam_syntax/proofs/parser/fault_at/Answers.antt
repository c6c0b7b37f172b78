use Rattle.std.proofs.Common.{sym, arith}
use Rattle.std.proofs.lemmas.Bool.{eqb-true, eqb-false}
use Rattle.lam_syntax.proofs.Answer.{left_within, ends_early, goes_wrong_at}
use Rattle.lam_syntax.proofs.parser.fault_at.Goals as goal

pub overflow_sub-result : goal.overflow_sub-result
overflow_sub-result c = left_within _ _ c.requires.stopped

pub returns-then-is_empty : goal.returns-then-is_empty
returns-then-is_empty c = (c.requires.taken, ends_early _ _ c.requires.stopped (eqb-true _ _ (sym c.if-is_empty.ensures)))

pub returns-else-is_empty : goal.returns-else-is_empty
returns-else-is_empty c =
    let some = eqb-false _ _ (sym c.if-is_empty.ensures) in
    (c.requires.taken, goes_wrong_at _ _ c.requires.stopped (omega (arith, some)))
