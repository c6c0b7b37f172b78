use Rattle.std.proofs.Common.{rules}
use Rattle.lam_query.proofs.rows.Row.name_entry.Goals as goal

pub returns-in-Some-Name-clause-some : goal.returns-in-Some-Name-clause-some
returns-in-Some-Name-clause-some c = (c.in-Some.command, c.in-Some-Name.field-0-0, c.in-Some.is, search rules, c.bound.ensures)
