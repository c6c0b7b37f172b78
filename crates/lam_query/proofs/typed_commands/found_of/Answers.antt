use Rattle.std.proofs.Common.{◌++◌, map, refl, ◌∙◌}
use Rattle.lam_syntax.specs.Views.{command_of}
use Rattle.lam_typing.specs.Walk.{blames_of}
use Rattle.lam_query.specs.TextFaults.{written_fault}
use Rattle.lam_query.specs.inner.Rows.{own_fault}
use Rattle.lam_query.proofs.FoundOfCommand.{large_written_type, large_term, all_types}
use Rattle.lam_query.proofs.typed_commands.found_of.Goals as goal

pub returns-in-Err-TooLarge-clause-found : goal.returns-in-Err-TooLarge-clause-found
returns-in-Err-TooLarge-clause-found c b names others seen bound =
    let limit = rw c.in-Err-TooLarge.field-0-is at (c.in-Err-TooLarge.ensures.limit b seen) in
    rw c.in-Err-TooLarge.field-0-is (large_written_type names others _ _ _ bound _ c.in-Err-TooLarge.span _ limit)

pub returns-then-not-checked-clause-found : goal.returns-then-not-checked-clause-found
returns-then-not-checked-clause-found c b names others seen bound =
    let checked = rw c.deref.ensures.value at c.in_ok-checked.ensures.checked in
    large_term names others _ _ _ bound _ _ c.in-Ok.stated c.in_ok-checked.checked _ _ (c.in-Ok.ensures.stated b seen) (c.in-Ok.ensures.limit b seen)
    checked c.state_command.ensures.dialect c.len.result c.in_ok-span.span
    (c.len.ensures ∙ c.in_ok-checked.checked.types.ok.0) c.in_ok-span.ensures c.if-not-checked.true

pub returns-clause-found : goal.returns-clause-found
returns-clause-found c b names others seen bound =
    let checked = rw c.deref.ensures.value at c.in_ok-checked.ensures.checked in
    all_types names others _ _ _ bound _ _ c.in-Ok.stated c.in_ok-checked.checked _ _ (c.in-Ok.ensures.stated b seen) (c.in-Ok.ensures.limit b seen)
    checked c.state_command.ensures.dialect _ c.check.ensures.keeps refl c.bound_number.ensures
    (c.in_ok-faults.ensures ∙ (λ i. map written_fault (c.deref-2.ensures.value i) ++ map (own_fault (command_of c.args.command.now)) (blames_of (c.deref-3.ensures.value i))))
    c.if-not-checked.false
