use Rattle.std.proofs.Common.{arith}
use Rattle.std.proofs.lemmas.List.{length-map}
use Rattle.lam_query.specs.Views.{derivation_of, step_of}
use Rattle.lam_query.proofs.Results.{no_steps, result_no_step, result_premises, result_loose}
use Rattle.lam_query.proofs.verify.first_fault.Goals as goal

pub returns-then-is_empty : goal.returns-then-is_empty
returns-then-is_empty c = result_no_step c.args.text.now (derivation_of c.args.derivation.now) c.args.dialect
    (no_steps c.args.derivation.now.steps.items (grind (arith, c.args.derivation.now.steps.ok.0, c.is_empty.ensures, c.if-is_empty.true)))

pub returns-in-Misplaced : goal.returns-in-Misplaced
returns-in-Misplaced c =
    result_premises c.args.text.now (derivation_of c.args.derivation.now) c.args.dialect c.in-Misplaced.number (rw (c.in-Misplaced.is, c.deref.ensures.value) at c.in_ok-number.ensures)

pub returns-in-Loose : goal.returns-in-Loose
returns-in-Loose c =
    let placed = rw (c.in-Loose.is, c.deref.ensures.value) at c.in_ok-number.ensures in
    let long = length-map c.args.derivation.now.steps.items step_of in
    result_loose c.args.text.now (derivation_of c.args.derivation.now) c.args.dialect _ placed.0
    (grind (arith, long, c.len.ensures, c.args.derivation.now.steps.ok.0, c.is_empty.ensures, c.if-is_empty.false)) placed.1
