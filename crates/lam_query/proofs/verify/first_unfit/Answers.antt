use Rattle.std.proofs.Common.{arith}
use Rattle.lam_rules.specs.TermViews.{written_of}
use Rattle.lam_scope.specs.TableViews.{binder_number}
use Rattle.lam_typing.specs.Fitting.{FitsAt}
use Rattle.lam_typing.specs.Typings.{dialect_of}
use Rattle.lam_query.proofs.Verifying.{not_so}
use Rattle.lam_query.proofs.ListedEntries.{zip_front, zip_all, first_not}
use Rattle.lam_query.proofs.verify.first_unfit.Goals as goal

pub returns-then-not-branch : goal.returns-then-not-branch
returns-then-not-branch c =
    first_not (FitsAt c.args.origins.now c.args.typing.now (dialect_of c.args.typing.now)) binder_number written_of c.args.binders.now c.args.entries.now c.loop-i.i _ c.index-entries-i.result (omega arith) (omega arith)
    c.index-entries-i.is (λ h. not_so c.in_ok-fits.field-0 c.if-not-branch.true (c.in_ok-fits.ensures.1 h)) c.loop-i.invariant

pub loop-i-preserved : goal.loop-i-preserved
loop-i-preserved c =
    zip_front (FitsAt c.args.origins.now c.args.typing.now (dialect_of c.args.typing.now)) binder_number written_of c.args.binders.now c.args.entries.now c.loop-i.i _ c.index-entries-i.result (omega arith) (omega arith)
    c.index-entries-i.is (c.in_ok-fits.ensures.0 c.if-not-branch.false) c.loop-i.invariant

pub returns : goal.returns
returns c = zip_all (FitsAt c.args.origins.now c.args.typing.now (dialect_of c.args.typing.now)) binder_number written_of c.args.binders.now c.args.entries.now c.loop-i.i (omega arith) (omega arith) c.loop-i.invariant
