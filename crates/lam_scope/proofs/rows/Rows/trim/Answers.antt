use Rattle.lam_scope.specs.TableViews.{rows_table}
use Rattle.lam_scope.proofs.rows.Rows.trim.Goals as goal

pub returns : goal.returns
returns c = λ i. rows_table (c.shrink_to_fit.ensures.items i) (c.shrink_to_fit-2.ensures.items i) (c.shrink_to_fit-3.ensures.items i) (c.shrink_to_fit-4.ensures.items i)
