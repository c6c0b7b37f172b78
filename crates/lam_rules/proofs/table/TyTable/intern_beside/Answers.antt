use Rattle.std.proofs.Common.{◌∙◌, arith}
use Rattle.lam_rules.proofs.Tables.{keeps_same, keeps_push, kept_type}
use Rattle.lam_rules.proofs.table.TyTable.intern_beside.Goals as goal

pub push-requires-clause-sorted_stands : goal.push-requires-clause-sorted_stands
push-requires-clause-sorted_stands c = let stands = c.requires.sorted.stands in omega arith

pub push-requires-clause-sorted_type : goal.push-requires-clause-sorted_type
push-requires-clause-sorted_type c = kept_type _ _ _ (keeps_push _ _) c.requires.sorted.stands ∙ c.requires.sorted.type

pub push-requires-clause-fresh : goal.push-requires-clause-fresh
push-requires-clause-fresh c = c.in-None.ensures.none

pub returns-in-Some-clause-keeps : goal.returns-in-Some-clause-keeps
returns-in-Some-clause-keeps c = keeps_same _

pub returns-in-Some-clause-number : goal.returns-in-Some-clause-number
returns-in-Some-clause-number c = c.in-Some.ensures.some

pub returns-in-None-clause-number : goal.returns-in-None-clause-number
returns-in-None-clause-number c = c.push.ensures.number
