use Rattle.std.proofs.Common.{rules}
use Rattle.lam_syntax.specs.Letters.{letters}
use Rattle.lam_scope.proofs.TableRows.{new_use}
use Rattle.lam_scope.proofs.rows.Rows.add_use.Goals as goal

pub returns-clause-table : goal.returns-clause-table
returns-clause-table c = new_use _ _ _ _ _ _ (letters c.args.used.now.text) c.args.seen.now c.in_ok-push.ensures.items (search rules) (search rules) (search rules) (search rules)
