use Rattle.std.proofs.Common.{◌∙◌, ap, ◌+◌, map, drop}
use Rattle.std.proofs.lemmas.List.{drop_all}
use Rattle.lam_scope.specs.inner.Found.{seek}
use Rattle.lam_scope.specs.Views.{statement_of}
use Rattle.lam_scope.proofs.PlaceTerms.{terms_in, sought_here, sought_behind, sought_nowhere}
use Rattle.lam_scope.proofs.resolved.find_stated.Goals as goal
use Rattle.lam_scope.proofs.Resolving.{statements-drop}

pub returns-in-Here : goal.returns-in-Here
returns-in-Here c =
    sought_here (map statement_of c.args.statements.now) (map statement_of (drop (c.loop-i.i + 1) c.args.statements.now)) (statement_of c.index-statements-i.result) c.args.number c.loop-i.left _ c.requires
    (c.loop-i.invariant ∙ ap (λ ss. seek (terms_in ss) c.loop-i.left) (statements-drop c.args.statements.now c.loop-i.i c.index-statements-i.result c.loop-i-test.true c.index-statements-i.is))
    c.in-Here.ensures

pub loop-i-preserved : goal.loop-i-preserved
loop-i-preserved c =
    sought_behind (map statement_of c.args.statements.now) (map statement_of (drop (c.loop-i.i + 1) c.args.statements.now)) (statement_of c.index-statements-i.result) c.args.number c.loop-i.left _
    (c.loop-i.invariant ∙ ap (λ ss. seek (terms_in ss) c.loop-i.left) (statements-drop c.args.statements.now c.loop-i.i c.index-statements-i.result c.loop-i-test.true c.index-statements-i.is))
    c.in-Behind.ensures

pub unreachable-requires : goal.unreachable-requires
unreachable-requires c =
    sought_nowhere (map statement_of c.args.statements.now) c.args.number c.loop-i.left c.requires (rw (drop_all c.loop-i.i c.args.statements.now c.loop-i-test.false) at c.loop-i.invariant)
