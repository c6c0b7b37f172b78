use Rattle.std.proofs.Common.{map, take}
use Rattle.std.specs.List.{AllZip}
use Rattle.lam_rules.specs.TermViews.{written_of}
use Rattle.lam_scope.specs.TableViews.{binder_number}
use Rattle.lam_typing.specs.Fitting.{FitsAt}
use Rattle.lam_typing.specs.Typings.{dialect_of}
use Rattle.lam_query.proofs.verify.first_unfit.Given as goal

abbrev pub invariant-loop-i : goal.invariant-loop-i
invariant-loop-i l = AllZip (FitsAt l.origins l.typing (dialect_of l.typing)) (map binder_number (take l.i l.binders)) (map written_of (take l.i l.entries))
