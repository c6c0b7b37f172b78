use Rattle.std.proofs.Common.{sym, ◌∙◌, arith}
use Rattle.std.proofs.lemmas.List.{get_or_push}
use Rattle.lam_rules.specs.Types.{top}
use Rattle.lam_rules.proofs.Tables.{keeps_same}
use Rattle.lam_rules.proofs.table.TyTable.intern_sorted.Goals as goal

pub push-requires-clause-sorted_stands : goal.push-requires-clause-sorted_stands
push-requires-clause-sorted_stands c = omega (arith, c.next-own.ensures)

pub push-requires-clause-sorted_type : goal.push-requires-clause-sorted_type
push-requires-clause-sorted_type c = get_or_push _ _ top _ (sym c.next-own.ensures) ∙ sym c.requires.sorted

pub push-requires-clause-fresh : goal.push-requires-clause-fresh
push-requires-clause-fresh c = c.in-None.ensures.none

pub returns-in-Some-clause-keeps : goal.returns-in-Some-clause-keeps
returns-in-Some-clause-keeps c = keeps_same _

pub returns-in-Some-clause-number : goal.returns-in-Some-clause-number
returns-in-Some-clause-number c = c.in-Some.ensures.some

pub returns-in-None-clause-number : goal.returns-in-None-clause-number
returns-in-None-clause-number c = c.push.ensures.number
