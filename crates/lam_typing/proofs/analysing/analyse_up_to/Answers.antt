use Rattle.std.proofs.Common.{sym, subst}
use Rattle.lam_scope.specs.Places.{places_of}
use Rattle.lam_scope.specs.Views.{statements_of, origins_of}
use Rattle.lam_scope.specs.WellFormed.{AreWellFormedStatements}
use Rattle.lam_typing.specs.Progress.{Went}
use Rattle.lam_typing.specs.Walk.{entries_of, progress_of, HasStoppedAmong}
use Rattle.lam_typing.specs.inner.Ends.{AreSourcesOf, AreWellFormedSources}
use Rattle.lam_typing.proofs.Numbering.{sources_wf}
use Rattle.lam_typing.proofs.Completing.{told_ok, went_through, ended}
use Rattle.lam_typing.proofs.analysing.analyse_up_to.Goals as goal

pub returns-in-Ok-walk_statements-clause-analysis : goal.returns-in-Ok-walk_statements-clause-analysis
returns-in-Ok-walk_statements-clause-analysis c =
    (went_through c.in-Ok-start.walk c.walk_statements.new.walk c.args.last (statements_of c.args.resolved.now) (origins_of c.args.resolved.now) c.complete.result c.args.dialect c.in-Ok-start.ensures.begins c.in-Ok-start.ensures.dialect c.walk_statements.ensures.grows
    (subst (λ ss. Went (entries_of c.in-Ok-start.walk) (λ s. places_of s ss) (progress_of c.in-Ok-start.walk) (progress_of c.walk_statements.new.walk) c.in-Ok-start.walk.verdicts.dialect) c.statements.ensures c.in-Ok-walk_statements.ensures.went)
    (told_ok c.complete.result c.walk_statements.new.walk (statements_of c.args.resolved.now) (origins_of c.args.resolved.now) c.deref.result.now (subst (AreSourcesOf (statements_of c.args.resolved.now) (origins_of c.args.resolved.now)) (sym c.deref.ensures.value) c.in-Ok.ensures) c.complete.ensures.completes) c.complete.ensures.fault).analysis

pub returns-in-Ok-walk_statements-clause-dialect : goal.returns-in-Ok-walk_statements-clause-dialect
returns-in-Ok-walk_statements-clause-dialect c =
    (went_through c.in-Ok-start.walk c.walk_statements.new.walk c.args.last (statements_of c.args.resolved.now) (origins_of c.args.resolved.now) c.complete.result c.args.dialect c.in-Ok-start.ensures.begins c.in-Ok-start.ensures.dialect c.walk_statements.ensures.grows
    (subst (λ ss. Went (entries_of c.in-Ok-start.walk) (λ s. places_of s ss) (progress_of c.in-Ok-start.walk) (progress_of c.walk_statements.new.walk) c.in-Ok-start.walk.verdicts.dialect) c.statements.ensures c.in-Ok-walk_statements.ensures.went)
    (told_ok c.complete.result c.walk_statements.new.walk (statements_of c.args.resolved.now) (origins_of c.args.resolved.now) c.deref.result.now (subst (AreSourcesOf (statements_of c.args.resolved.now) (origins_of c.args.resolved.now)) (sym c.deref.ensures.value) c.in-Ok.ensures) c.complete.ensures.completes) c.complete.ensures.fault).dialect

pub returns-in-Ok-walk_statements-clause-of : goal.returns-in-Ok-walk_statements-clause-of
returns-in-Ok-walk_statements-clause-of c =
    (went_through c.in-Ok-start.walk c.walk_statements.new.walk c.args.last (statements_of c.args.resolved.now) (origins_of c.args.resolved.now) c.complete.result c.args.dialect c.in-Ok-start.ensures.begins c.in-Ok-start.ensures.dialect c.walk_statements.ensures.grows
    (subst (λ ss. Went (entries_of c.in-Ok-start.walk) (λ s. places_of s ss) (progress_of c.in-Ok-start.walk) (progress_of c.walk_statements.new.walk) c.in-Ok-start.walk.verdicts.dialect) c.statements.ensures c.in-Ok-walk_statements.ensures.went)
    (told_ok c.complete.result c.walk_statements.new.walk (statements_of c.args.resolved.now) (origins_of c.args.resolved.now) c.deref.result.now (subst (AreSourcesOf (statements_of c.args.resolved.now) (origins_of c.args.resolved.now)) (sym c.deref.ensures.value) c.in-Ok.ensures) c.complete.ensures.completes) c.complete.ensures.fault).of

pub returns-in-Ok-walk_statements-clause-entries : goal.returns-in-Ok-walk_statements-clause-entries
returns-in-Ok-walk_statements-clause-entries c =
    (went_through c.in-Ok-start.walk c.walk_statements.new.walk c.args.last (statements_of c.args.resolved.now) (origins_of c.args.resolved.now) c.complete.result c.args.dialect c.in-Ok-start.ensures.begins c.in-Ok-start.ensures.dialect c.walk_statements.ensures.grows
    (subst (λ ss. Went (entries_of c.in-Ok-start.walk) (λ s. places_of s ss) (progress_of c.in-Ok-start.walk) (progress_of c.walk_statements.new.walk) c.in-Ok-start.walk.verdicts.dialect) c.statements.ensures c.in-Ok-walk_statements.ensures.went)
    (told_ok c.complete.result c.walk_statements.new.walk (statements_of c.args.resolved.now) (origins_of c.args.resolved.now) c.deref.result.now (subst (AreSourcesOf (statements_of c.args.resolved.now) (origins_of c.args.resolved.now)) (sym c.deref.ensures.value) c.in-Ok.ensures) c.complete.ensures.completes) c.complete.ensures.fault).entries

pub returns-clause-analysis : goal.returns-clause-analysis
returns-clause-analysis c =
    (ended c.in-Err.stop c.in-Ok-start.walk c.walk_statements.new.walk c.args.last (statements_of c.args.resolved.now) (origins_of c.args.resolved.now) c.end.result c.args.dialect c.in-Ok-start.ensures.begins c.in-Ok-start.ensures.dialect c.walk_statements.ensures.grows
    (subst (λ ss. HasStoppedAmong c.in-Err.stop (entries_of c.in-Ok-start.walk) (λ s. places_of s ss) c.in-Ok-start.walk c.walk_statements.new.walk c.in-Ok-start.walk.verdicts.dialect) c.statements.ensures c.in-Err.ensures.stopped)
    (c.end.ensures (statements_of c.args.resolved.now) (origins_of c.args.resolved.now) (subst (AreSourcesOf (statements_of c.args.resolved.now) (origins_of c.args.resolved.now)) (sym c.deref-in-Err.ensures.value) c.in-Ok.ensures))).analysis

pub returns-clause-of : goal.returns-clause-of
returns-clause-of c =
    (ended c.in-Err.stop c.in-Ok-start.walk c.walk_statements.new.walk c.args.last (statements_of c.args.resolved.now) (origins_of c.args.resolved.now) c.end.result c.args.dialect c.in-Ok-start.ensures.begins c.in-Ok-start.ensures.dialect c.walk_statements.ensures.grows
    (subst (λ ss. HasStoppedAmong c.in-Err.stop (entries_of c.in-Ok-start.walk) (λ s. places_of s ss) c.in-Ok-start.walk c.walk_statements.new.walk c.in-Ok-start.walk.verdicts.dialect) c.statements.ensures c.in-Err.ensures.stopped)
    (c.end.ensures (statements_of c.args.resolved.now) (origins_of c.args.resolved.now) (subst (AreSourcesOf (statements_of c.args.resolved.now) (origins_of c.args.resolved.now)) (sym c.deref-in-Err.ensures.value) c.in-Ok.ensures))).of

pub returns-clause-entries : goal.returns-clause-entries
returns-clause-entries c =
    (ended c.in-Err.stop c.in-Ok-start.walk c.walk_statements.new.walk c.args.last (statements_of c.args.resolved.now) (origins_of c.args.resolved.now) c.end.result c.args.dialect c.in-Ok-start.ensures.begins c.in-Ok-start.ensures.dialect c.walk_statements.ensures.grows
    (subst (λ ss. HasStoppedAmong c.in-Err.stop (entries_of c.in-Ok-start.walk) (λ s. places_of s ss) c.in-Ok-start.walk c.walk_statements.new.walk c.in-Ok-start.walk.verdicts.dialect) c.statements.ensures c.in-Err.ensures.stopped)
    (c.end.ensures (statements_of c.args.resolved.now) (origins_of c.args.resolved.now) (subst (AreSourcesOf (statements_of c.args.resolved.now) (origins_of c.args.resolved.now)) (sym c.deref-in-Err.ensures.value) c.in-Ok.ensures))).entries

pub returns-clause-dialect : goal.returns-clause-dialect
returns-clause-dialect c =
    (ended c.in-Err.stop c.in-Ok-start.walk c.walk_statements.new.walk c.args.last (statements_of c.args.resolved.now) (origins_of c.args.resolved.now) c.end.result c.args.dialect c.in-Ok-start.ensures.begins c.in-Ok-start.ensures.dialect c.walk_statements.ensures.grows
    (subst (λ ss. HasStoppedAmong c.in-Err.stop (entries_of c.in-Ok-start.walk) (λ s. places_of s ss) c.in-Ok-start.walk c.walk_statements.new.walk c.in-Ok-start.walk.verdicts.dialect) c.statements.ensures c.in-Err.ensures.stopped)
    (c.end.ensures (statements_of c.args.resolved.now) (origins_of c.args.resolved.now) (subst (AreSourcesOf (statements_of c.args.resolved.now) (origins_of c.args.resolved.now)) (sym c.deref-in-Err.ensures.value) c.in-Ok.ensures))).dialect

pub returns-clause-fault : goal.returns-clause-fault
returns-clause-fault c =
    (ended c.in-Err.stop c.in-Ok-start.walk c.walk_statements.new.walk c.args.last (statements_of c.args.resolved.now) (origins_of c.args.resolved.now) c.end.result c.args.dialect c.in-Ok-start.ensures.begins c.in-Ok-start.ensures.dialect c.walk_statements.ensures.grows
    (subst (λ ss. HasStoppedAmong c.in-Err.stop (entries_of c.in-Ok-start.walk) (λ s. places_of s ss) c.in-Ok-start.walk c.walk_statements.new.walk c.in-Ok-start.walk.verdicts.dialect) c.statements.ensures c.in-Err.ensures.stopped)
    (c.end.ensures (statements_of c.args.resolved.now) (origins_of c.args.resolved.now) (subst (AreSourcesOf (statements_of c.args.resolved.now) (origins_of c.args.resolved.now)) (sym c.deref-in-Err.ensures.value) c.in-Ok.ensures))).fault

pub complete-requires-clause-wf : goal.complete-requires-clause-wf
complete-requires-clause-wf c =
    subst AreWellFormedSources (sym c.deref.ensures.value) (sources_wf (statements_of c.args.resolved.now) (origins_of c.args.resolved.now) c.in-Ok.sources.items c.args.resolved.now.well_formed c.in-Ok.ensures)

pub end-requires-clause-wf : goal.end-requires-clause-wf
end-requires-clause-wf c =
    subst AreWellFormedSources (sym c.deref-in-Err.ensures.value) (sources_wf (statements_of c.args.resolved.now) (origins_of c.args.resolved.now) c.in-Ok.sources.items c.args.resolved.now.well_formed c.in-Ok.ensures)

pub walk_statements-requires-clause-wf : goal.walk_statements-requires-clause-wf
walk_statements-requires-clause-wf c = subst AreWellFormedStatements (sym c.statements.ensures) c.args.resolved.now.well_formed
