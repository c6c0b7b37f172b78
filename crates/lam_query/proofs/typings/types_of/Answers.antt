use Rattle.lam_query.specs.Sizes.{of_written_type}
use Rattle.lam_query.proofs.Answering.{large_place, found_of_terms}
use Rattle.lam_query.proofs.typings.types_of.Goals as goal

pub returns-in-Err-TooLarge-clause-none : goal.returns-in-Err-TooLarge-clause-none
returns-in-Err-TooLarge-clause-none c =
    let limit = rw c.in-Err-TooLarge.field-0-is at c.in-Err-TooLarge.ensures.limit in
    (_, of_written_type limit)

pub returns-in-Err-TooLarge-analyse-clause-none : goal.returns-in-Err-TooLarge-analyse-clause-none
returns-in-Err-TooLarge-analyse-clause-none c =
    let large = rw c.in-Err-TooLarge-analyse.field-0-is at c.in-Err-TooLarge-analyse.ensures.fault in
    large_place _ _ _ _ c.in-Ok.ensures.statements c.in-Ok.ensures.limit large

pub returns-in-Ok-analyse-clause-some : goal.returns-in-Ok-analyse-clause-some
returns-in-Ok-analyse-clause-some c = record {
  statements = c.in-Ok.ensures.statements;
  faults = c.in-Ok.ensures.faults;
  none_too_large = c.in-Ok.ensures.limit;
  typed = found_of_terms _ c.in-Ok.resolved c.in-Ok-analyse.typing _ c.in-Ok.ensures.statements c.in-Ok-analyse.ensures.analysis;
  origins = c.in-Ok.ensures.origins;
  types_of_it = c.in-Ok-analyse.ensures.of;
  entries = c.in-Ok-analyse.ensures.entries;
  dialect = c.in-Ok-analyse.ensures.dialect;
}
