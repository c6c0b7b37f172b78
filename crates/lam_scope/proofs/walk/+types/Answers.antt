use Rattle.lam_scope.specs.TableViews.{rows_of}
use Rattle.lam_scope.proofs.TableRows.{types_walked}
use Rattle.lam_scope.proofs.walk.+types.Goals as goal

pub walk_type_fields-returns-clause-table : goal.walk_type_fields-returns-clause-table
walk_type_fields-returns-clause-table t c = types_walked (rows_of c.loop-i.rows) _ c.args.types.now c.args.fields.now c.loop-i.i c.loop-i-test.false c.loop-i.invariant.table
