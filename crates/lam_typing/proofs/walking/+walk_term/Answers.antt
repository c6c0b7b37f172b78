use Rattle.std.proofs.Common.{[], ◌∷◌, ◌++◌, length, Some, None, ap, refl, sym, subst, ◌∙◌, inl, arith, codes}
use Rattle.lam_rules.specs.Types.{bool, nat, unit}
use Rattle.lam_rules.specs.Terms.{if_then_else, lambda, apply, ascribe, let_in, record_term, project, fix, numeral, free, true_term, false_term, unit_term, term_field}
use Rattle.lam_scope.specs.InternedViews.{numbered_of, numbered_terms, interned_term, interned_terms}
use Rattle.lam_rules.specs.Numbers.{fields_over, AreEarlier}
use Rattle.lam_scope.proofs.InternedShapes.{numbered_of-True, numbered_of-False, numbered_of-Num, numbered_of-Var, numbered_of-Free, numbered_of-Unit}
use Rattle.lam_rules.proofs.Tables.{keeps_same}
use Rattle.lam_scope.specs.Places.{written, of_term, places, field_places}
use Rattle.lam_typing.specs.Answers.{answer}
use Rattle.lam_typing.specs.inner.Steps.{LambdaRule, LetRule, RecordRule}
use Rattle.lam_typing.specs.Progress.{if_all}
use Rattle.lam_typing.specs.Walk.{entries_of, progress_of}
use Rattle.lam_typing.proofs.Sizes.{size_in, size_in_fields}
use Rattle.lam_typing.proofs.NumberedArms.{if_arm, succ_arm, pred_arm, is_zero_arm, lambda_arm, apply_arm, ascribe_arm, let_arm, record_arm, project_arm, fix_arm}
use Rattle.lam_typing.proofs.Growing.{answer_keep, stands_keep}
use Rattle.lam_typing.proofs.KeptForms.{still_stand, still_walked, still_stopped, fields_still_stand, fields_still_walked, fields_still_stopped, fields_still_either, written_differs}
use Rattle.lam_typing.proofs.Forms.{true_ready, false_ready, unit_ready, numeral_ready}
use Rattle.lam_typing.proofs.Glue.{Blames, grows_same, grows_trans, progress_same, stepped, stepped_grows, retabled_grows, pushed_grows, put_or_not, popped_is, popped_grows, parts_empty, err_fields_walked, no_fields_walked, fields_unfound, fields_then, fields_front, fields_behind, among_front, settled_walked, leaf_parts, free_parts, numeric_places, numeric_parts, fix_parts, project_parts, ascribe_parts, lambda_parts, let_parts, apply_parts, if_parts, record_parts, pushed_under}
use Rattle.lam_typing.proofs.Stops.{past_term, past_both, stopped_past, stopped_under_written, stopped_under_bound, part_stopped}
use Rattle.lam_typing.proofs.walking.+walk_term.Goals as goal

-- each form of a term

pub walk_term-returns-in-True-clause-walked : goal.walk_term-returns-in-True-clause-walked
walk_term-returns-in-True-clause-walked t c =
    let w = c.args.walk.now in
    rw (ap numbered_of c.in-True.is ∙ numbered_of-True)
    (settled_walked _ w w c.settle.new.walk true_term (λ s. []) (Some w.leaves.boolean) None c.settle.ensures.settled
    (leaf_parts w true_term w.leaves.boolean bool c.requires.sound.boolean (true_ready (entries_of w) (progress_of w) _)) refl c.requires.sound.boolean.stands (λ s. refl))

pub walk_term-returns-in-False-clause-walked : goal.walk_term-returns-in-False-clause-walked
walk_term-returns-in-False-clause-walked t c =
    let w = c.args.walk.now in
    rw (ap numbered_of c.in-False.is ∙ numbered_of-False)
    (settled_walked _ w w c.settle-in-False.new.walk false_term (λ s. []) (Some w.leaves.boolean) None c.settle-in-False.ensures.settled
    (leaf_parts w false_term w.leaves.boolean bool c.requires.sound.boolean (false_ready (entries_of w) (progress_of w) _)) refl c.requires.sound.boolean.stands (λ s. refl))

pub walk_term-returns-in-Unit-clause-walked : goal.walk_term-returns-in-Unit-clause-walked
walk_term-returns-in-Unit-clause-walked t c =
    let w = c.args.walk.now in
    rw (ap numbered_of c.in-Unit.is ∙ numbered_of-Unit)
    (settled_walked _ w w c.settle-in-Unit.new.walk unit_term (λ s. []) (Some w.leaves.unit) None c.settle-in-Unit.ensures.settled
    (leaf_parts w unit_term w.leaves.unit unit c.requires.sound.unit (unit_ready (entries_of w) (progress_of w) _)) refl c.requires.sound.unit.stands (λ s. refl))

pub walk_term-returns-in-Num-clause-walked : goal.walk_term-returns-in-Num-clause-walked
walk_term-returns-in-Num-clause-walked t c =
    let w = c.args.walk.now in
    let x = c.in-Num.field-0.now in
    rw (ap numbered_of c.in-Num.is ∙ numbered_of-Num _)
    (settled_walked _ w w c.settle-in-Num.new.walk (numeral x) (λ s. []) (Some w.leaves.natural) None c.settle-in-Num.ensures.settled
    (leaf_parts w (numeral x) w.leaves.natural nat c.requires.sound.natural (numeral_ready (entries_of w) x (progress_of w) _)) refl c.requires.sound.natural.stands (λ s. refl))

pub walk_term-returns-in-Free-clause-walked : goal.walk_term-returns-in-Free-clause-walked
walk_term-returns-in-Free-clause-walked t c =
    let w = c.args.walk.now in
    let x = c.in-Free.field-0.now in
    let blame = c.blame_if-blame in
    rw (ap numbered_of c.in-Free.is ∙ numbered_of-Free _)
    (settled_walked _ w w c.settle-in-Free.new.walk (free x) (λ s. []) None blame.result c.settle-in-Free.ensures.settled (free_parts w x blame.result blame.ensures) refl tt (λ s. refl))

pub walk_term-returns-in-Var-clause-walked : goal.walk_term-returns-in-Var-clause-walked
walk_term-returns-in-Var-clause-walked t c =
    rw (ap numbered_of c.in-Var.is ∙ numbered_of-Var c.in-Var.index) c.walk_variable.ensures.walked

pub walk_term-walk_if-requires : goal.walk_term-walk_if-requires
walk_term-walk_if-requires t c =
    let arm = if_arm _ _ _ _ _ c.in-If.is c.deref.ensures c.deref-in-If.ensures c.deref-in-If-2.ensures in
    let wf = rw arm at c.requires.stand in
    (omega (arith, c.decreases, ap size_in arm), (c.requires.sound, (wf.0, (wf.1, wf.2))))

pub walk_term-returns-in-If-clause-walked : goal.walk_term-returns-in-If-clause-walked
walk_term-returns-in-If-clause-walked t c = rw (if_arm _ _ _ _ _ c.in-If.is c.deref.ensures c.deref-in-If.ensures c.deref-in-If-2.ensures) c.walk_if.ensures.walked

pub walk_term-walk_number-requires : goal.walk_term-walk_number-requires
walk_term-walk_number-requires t c =
    let arm = succ_arm _ _ _ c.in-Succ.is c.deref-in-Succ.ensures in
    (omega (arith, c.decreases, ap size_in arm), (c.requires.sound, (rw arm at c.requires.stand, c.requires.sound.natural.stands)))

pub walk_term-returns-in-Succ-clause-walked : goal.walk_term-returns-in-Succ-clause-walked
walk_term-returns-in-Succ-clause-walked t c = rw (succ_arm _ _ _ c.in-Succ.is c.deref-in-Succ.ensures) (c.walk_number.ensures.walked _ (refl, c.requires.sound.natural.type))

pub walk_term-walk_number-requires-in-Pred : goal.walk_term-walk_number-requires-in-Pred
walk_term-walk_number-requires-in-Pred t c =
    let arm = pred_arm _ _ _ c.in-Pred.is c.deref-in-Pred.ensures in
    (omega (arith, c.decreases, ap size_in arm), (c.requires.sound, (rw arm at c.requires.stand, c.requires.sound.natural.stands)))

pub walk_term-returns-in-Pred-clause-walked : goal.walk_term-returns-in-Pred-clause-walked
walk_term-returns-in-Pred-clause-walked t c = rw (pred_arm _ _ _ c.in-Pred.is c.deref-in-Pred.ensures) (c.walk_number-in-Pred.ensures.walked _ (refl, c.requires.sound.natural.type))

pub walk_term-walk_number-requires-in-IsZero : goal.walk_term-walk_number-requires-in-IsZero
walk_term-walk_number-requires-in-IsZero t c =
    let arm = is_zero_arm _ _ _ c.in-IsZero.is c.deref-in-IsZero.ensures in
    (omega (arith, c.decreases, ap size_in arm), (c.requires.sound, (rw arm at c.requires.stand, c.requires.sound.boolean.stands)))

pub walk_term-returns-in-IsZero-clause-walked : goal.walk_term-returns-in-IsZero-clause-walked
walk_term-returns-in-IsZero-clause-walked t c =
    rw (is_zero_arm _ _ _ c.in-IsZero.is c.deref-in-IsZero.ensures) (c.walk_number-in-IsZero.ensures.walked _ (refl, c.requires.sound.boolean.type))

pub walk_term-walk_lambda-requires : goal.walk_term-walk_lambda-requires
walk_term-walk_lambda-requires t c =
    let arm = lambda_arm _ _ _ _ c.in-Abs.is c.deref-in-Abs.ensures in
    (omega (arith, c.decreases, ap size_in arm), (c.requires.sound, rw arm at c.requires.stand))

pub walk_term-returns-in-Abs-clause-walked : goal.walk_term-returns-in-Abs-clause-walked
walk_term-returns-in-Abs-clause-walked t c = rw (lambda_arm _ _ _ _ c.in-Abs.is c.deref-in-Abs.ensures) c.walk_lambda.ensures.walked

pub walk_term-walk_apply-requires : goal.walk_term-walk_apply-requires
walk_term-walk_apply-requires t c =
    let arm = apply_arm _ _ _ _ c.in-App.is c.deref-in-App.ensures c.deref-in-App-2.ensures in
    (omega (arith, c.decreases, ap size_in arm), (c.requires.sound, rw arm at c.requires.stand))

pub walk_term-returns-in-App-clause-walked : goal.walk_term-returns-in-App-clause-walked
walk_term-returns-in-App-clause-walked t c = rw (apply_arm _ _ _ _ c.in-App.is c.deref-in-App.ensures c.deref-in-App-2.ensures) c.walk_apply.ensures.walked

pub walk_term-walk_ascribe-requires : goal.walk_term-walk_ascribe-requires
walk_term-walk_ascribe-requires t c =
    let arm = ascribe_arm _ _ _ _ c.in-Ascribe.is c.deref-in-Ascribe.ensures in
    (omega (arith, c.decreases, ap size_in arm), (c.requires.sound, rw arm at c.requires.stand))

pub walk_term-returns-in-Ascribe-clause-walked : goal.walk_term-returns-in-Ascribe-clause-walked
walk_term-returns-in-Ascribe-clause-walked t c = rw (ascribe_arm _ _ _ _ c.in-Ascribe.is c.deref-in-Ascribe.ensures) c.walk_ascribe.ensures.walked

pub walk_term-walk_let-requires : goal.walk_term-walk_let-requires
walk_term-walk_let-requires t c =
    let arm = let_arm _ _ _ _ c.in-Let.is c.deref-in-Let.ensures c.deref-in-Let-2.ensures in
    (omega (arith, c.decreases, ap size_in arm), (c.requires.sound, rw arm at c.requires.stand))

pub walk_term-returns-in-Let-clause-walked : goal.walk_term-returns-in-Let-clause-walked
walk_term-returns-in-Let-clause-walked t c = rw (let_arm _ _ _ _ c.in-Let.is c.deref-in-Let.ensures c.deref-in-Let-2.ensures) c.walk_let.ensures.walked

pub walk_term-walk_record-requires : goal.walk_term-walk_record-requires
walk_term-walk_record-requires t c =
    let arm = record_arm _ _ _ c.in-Record.is c.deref-in-Record.ensures.value in
    (omega (arith, c.decreases, ap size_in arm), (c.requires.sound, rw arm at c.requires.stand))

pub walk_term-returns-in-Record-clause-walked : goal.walk_term-returns-in-Record-clause-walked
walk_term-returns-in-Record-clause-walked t c = rw (record_arm _ _ _ c.in-Record.is c.deref-in-Record.ensures.value) c.walk_record.ensures.walked

pub walk_term-walk_project-requires : goal.walk_term-walk_project-requires
walk_term-walk_project-requires t c =
    let arm = project_arm _ _ _ _ c.in-Proj.is c.deref-in-Proj.ensures in
    (omega (arith, c.decreases, ap size_in arm), (c.requires.sound, rw arm at c.requires.stand))

pub walk_term-returns-in-Proj-clause-walked : goal.walk_term-returns-in-Proj-clause-walked
walk_term-returns-in-Proj-clause-walked t c =
    rw (project_arm _ _ _ _ c.in-Proj.is c.deref-in-Proj.ensures) c.walk_project.ensures.walked

pub walk_term-walk_fix-requires : goal.walk_term-walk_fix-requires
walk_term-walk_fix-requires t c =
    let arm = fix_arm _ _ _ c.in-Fix.is c.deref-in-Fix.ensures in
    (omega (arith, c.decreases, ap size_in arm), (c.requires.sound, rw arm at c.requires.stand))

pub walk_term-returns-in-Fix-clause-walked : goal.walk_term-returns-in-Fix-clause-walked
walk_term-returns-in-Fix-clause-walked t c = rw (fix_arm _ _ _ c.in-Fix.is c.deref-in-Fix.ensures) c.walk_fix.ensures.walked

-- an operation on a number

pub walk_number-walk_term-requires : goal.walk_number-walk_term-requires
walk_number-walk_term-requires t c = (omega (arith, c.decreases), (c.requires.sound, c.requires.operand))

pub walk_number-type_of_numeric-requires-clause-outcome : goal.walk_number-type_of_numeric-requires-clause-outcome
walk_number-type_of_numeric-requires-clause-outcome t c =
    stands_keep c.args.walk.now.table c.walk_term.new.walk.table (Some c.args.outcome) c.in_ok-part.ensures.grows.keeps c.requires.outcome

pub walk_number-returns-in_err-part-clause-walked : goal.walk_number-returns-in_err-part-clause-walked
walk_number-returns-in_err-part-clause-walked t c =
    λ e is. part_stopped _ _ _ _ e _ c.from_residual.ensures.1 c.in_err-part.ensures.walked (numeric_places e (interned_term c.args.walk.now.table c.args.operand.now) _ is)

pub walk_number-returns-in_err-found-clause-grows : goal.walk_number-returns-in_err-found-clause-grows
walk_number-returns-in_err-found-clause-grows t c =
    stepped_grows c.in_ok-part.ensures.grows (keeps_same c.walk_term.new.walk.table) c.type_of_numeric.ensures.right c.type_of_numeric.ensures.dialect

pub walk_number-settle-requires-clause-sound : goal.walk_number-settle-requires-clause-sound
walk_number-settle-requires-clause-sound t c =
    (stepped_grows c.in_ok-part.ensures.grows (keeps_same c.walk_term.new.walk.table) c.type_of_numeric.ensures.right c.type_of_numeric.ensures.dialect).sound

pub walk_number-returns-clause-grows : goal.walk_number-returns-clause-grows
walk_number-returns-clause-grows t c =
    grows_trans (stepped_grows c.in_ok-part.ensures.grows (keeps_same c.walk_term.new.walk.table) c.type_of_numeric.ensures.right c.type_of_numeric.ensures.dialect) c.settle.ensures.grows

pub walk_number-returns-clause-walked : goal.walk_number-returns-clause-walked
walk_number-returns-clause-walked t c =
    λ e is.
    let operand = interned_term c.args.walk.now.table c.args.operand.now in
    let part = c.in_ok-part.ensures in
    let found = c.in_ok-found.found in
    let blame = c.blame_if-blame in
    settled_walked _ _ _ _ e (λ s. places s operand) found blame.result c.settle.ensures.settled
    (numeric_parts c.args.walk.now c.walk_term.new.walk operand c.in_ok-part.part found blame.result part.grows part.walked e c.args.outcome c.requires.outcome is
    c.in_ok-found.ensures.rule (subst (λ b. Blames b found (codes "E6") blame.result) c.is_some.ensures blame.ensures))
    part.walked.entries c.in_ok-found.ensures.stands (numeric_places e operand _ is)

-- a fix

pub walk_fix-walk_term-requires : goal.walk_fix-walk_term-requires
walk_fix-walk_term-requires t c = (omega (arith, c.decreases), (c.requires.sound, c.requires.operand))

pub walk_fix-returns-in_err-part-clause-walked : goal.walk_fix-returns-in_err-part-clause-walked
walk_fix-returns-in_err-part-clause-walked t c = part_stopped _ _ _ _ (fix (interned_term c.args.walk.now.table c.args.operand.now)) _ c.from_residual.ensures.1 c.in_err-part.ensures.walked (λ s. refl)

pub walk_fix-returns-in_err-found-clause-grows : goal.walk_fix-returns-in_err-found-clause-grows
walk_fix-returns-in_err-found-clause-grows t c = stepped_grows c.in_ok-part.ensures.grows (keeps_same c.walk_term.new.walk.table) c.type_of_fix.ensures.right c.type_of_fix.ensures.dialect

pub walk_fix-settle-requires-clause-sound : goal.walk_fix-settle-requires-clause-sound
walk_fix-settle-requires-clause-sound t c = (stepped_grows c.in_ok-part.ensures.grows (keeps_same c.walk_term.new.walk.table) c.type_of_fix.ensures.right c.type_of_fix.ensures.dialect).sound

pub walk_fix-returns-clause-grows : goal.walk_fix-returns-clause-grows
walk_fix-returns-clause-grows t c =
    grows_trans (stepped_grows c.in_ok-part.ensures.grows (keeps_same c.walk_term.new.walk.table) c.type_of_fix.ensures.right c.type_of_fix.ensures.dialect) c.settle.ensures.grows

pub walk_fix-returns-clause-walked : goal.walk_fix-returns-clause-walked
walk_fix-returns-clause-walked t c =
    let operand = interned_term c.args.walk.now.table c.args.operand.now in
    let part = c.in_ok-part.ensures in
    let found = c.in_ok-found.found in
    let blame = c.blame_if-blame in
    settled_walked _ _ _ _ (fix operand) (λ s. places s operand) found blame.result c.settle.ensures.settled
    (fix_parts c.args.walk.now c.walk_term.new.walk operand c.in_ok-part.part found blame.result part.grows part.walked
    c.in_ok-found.ensures.rule (subst (λ b. Blames b found (codes "E8") blame.result) c.is_some.ensures blame.ensures))
    part.walked.entries c.in_ok-found.ensures.stands (λ s. refl)

-- a projection

pub walk_project-returns-in_err-part-clause-walked : goal.walk_project-returns-in_err-part-clause-walked
walk_project-returns-in_err-part-clause-walked t c =
    part_stopped _ _ _ _ (project (interned_term c.args.walk.now.table c.args.operand.now) c.args.label.now) _ c.from_residual.ensures.1 c.in_err-part.ensures.walked (λ s. refl)

pub walk_project-returns-clause-grows : goal.walk_project-returns-clause-grows
walk_project-returns-clause-grows t c = grows_trans c.in_ok-part.ensures.grows c.settle.ensures.grows

pub walk_project-returns-clause-walked : goal.walk_project-returns-clause-walked
walk_project-returns-clause-walked t c =
    let operand = interned_term c.args.walk.now.table c.args.operand.now in
    let part = c.in_ok-part.ensures in
    let found = c.type_of_project-found in
    let blame = c.blame_if-blame in
    settled_walked _ _ _ _ (project operand c.args.label.now) (λ s. places s operand) found.result blame.result c.settle.ensures.settled
    (project_parts c.args.walk.now c.walk_term.new.walk operand c.in_ok-part.part found.result blame.result part.grows part.walked c.args.label.now
    found.ensures.rule (subst (λ b. Blames b found.result (codes "E4") blame.result) c.is_some.ensures blame.ensures))
    part.walked.entries found.ensures.stands (λ s. refl)

-- an application

pub walk_apply-walk_term-requires : goal.walk_apply-walk_term-requires
walk_apply-walk_term-requires t c = (omega (arith, c.decreases), (c.requires.sound, c.requires.function))

pub walk_apply-walk_term-requires-2 : goal.walk_apply-walk_term-requires-2
walk_apply-walk_term-requires-2 t c = (omega (arith, c.decreases), (c.in_ok-first.ensures.grows.sound, still_stand c.args.argument.now c.in_ok-first.ensures.grows.keeps c.requires.argument))

pub walk_apply-type_of_apply-requires-clause-function : goal.walk_apply-type_of_apply-requires-clause-function
walk_apply-type_of_apply-requires-clause-function t c =
    stands_keep c.walk_term.new.walk.table c.walk_term-2.new.walk.table c.in_ok-first.first c.in_ok-second.ensures.grows.keeps c.in_ok-first.ensures.walked.stands

pub walk_apply-returns-in_err-first-clause-walked : goal.walk_apply-returns-in_err-first-clause-walked
walk_apply-returns-in_err-first-clause-walked t c =
    let f = interned_term c.args.walk.now.table c.args.function.now in
    let a = interned_term c.args.walk.now.table c.args.argument.now in
    part_stopped _ _ _ _ (apply f a) _ c.from_residual.ensures.1 (among_front _ _ _ (λ s. places s a) _ _ _ c.in_err-first.ensures.walked) (λ s. refl)

pub walk_apply-returns-in_err-second-clause-grows : goal.walk_apply-returns-in_err-second-clause-grows
walk_apply-returns-in_err-second-clause-grows t c = grows_trans c.in_ok-first.ensures.grows c.in_err-second.ensures.grows

pub walk_apply-returns-in_err-second-clause-walked : goal.walk_apply-returns-in_err-second-clause-walked
walk_apply-returns-in_err-second-clause-walked t c =
    let f = interned_term c.args.walk.now.table c.args.function.now in
    let a = interned_term c.args.walk.now.table c.args.argument.now in
    let first = past_term c.requires.sound c.in_ok-first.ensures.grows c.in_ok-first.ensures.walked in
    part_stopped _ _ _ _ (apply f a) _ c.from_residual-in_err-second.ensures.1 (stopped_past _ _ (λ s. places s a) first (still_stopped c.args.argument.now c.in_ok-first.ensures.grows.keeps c.requires.argument _ c.walk_term.new.walk c.walk_term-2.new.walk c.in_err-second.ensures.walked)) (λ s. refl)

pub walk_apply-returns-in_err-found-clause-grows : goal.walk_apply-returns-in_err-found-clause-grows
walk_apply-returns-in_err-found-clause-grows t c =
    stepped_grows (grows_trans c.in_ok-first.ensures.grows c.in_ok-second.ensures.grows) (keeps_same c.walk_term-2.new.walk.table) c.type_of_apply.ensures.right c.type_of_apply.ensures.dialect

pub walk_apply-settle-requires-clause-sound : goal.walk_apply-settle-requires-clause-sound
walk_apply-settle-requires-clause-sound t c =
    (stepped_grows c.in_ok-second.ensures.grows (keeps_same c.walk_term-2.new.walk.table) c.type_of_apply.ensures.right c.type_of_apply.ensures.dialect).sound

pub walk_apply-returns-clause-grows : goal.walk_apply-returns-clause-grows
walk_apply-returns-clause-grows t c =
    let parts = grows_trans c.in_ok-first.ensures.grows c.in_ok-second.ensures.grows in
    grows_trans (stepped_grows parts (keeps_same c.walk_term-2.new.walk.table) c.type_of_apply.ensures.right c.type_of_apply.ensures.dialect) c.settle.ensures.grows

pub walk_apply-returns-clause-walked : goal.walk_apply-returns-clause-walked
walk_apply-returns-clause-walked t c =
    let f = interned_term c.args.walk.now.table c.args.function.now in
    let a = interned_term c.args.walk.now.table c.args.argument.now in
    let first = c.in_ok-first.ensures in
    let second = c.in_ok-second.ensures in
    let found = c.in_ok-found.found in
    let code = c.application_code-code in
    let blame = c.blame_if-blame in
    settled_walked _ _ _ _ (apply f a) (λ s. places s f ++ places s a) found blame.result c.settle.ensures.settled
    (apply_parts c.args.walk.now c.walk_term.new.walk c.walk_term-2.new.walk f a c.in_ok-first.first c.in_ok-second.second found code.result.now blame.result
    c.requires.sound first.grows first.walked second.grows (still_walked c.args.argument.now first.grows.keeps c.requires.argument second.walked) c.in_ok-found.ensures.rule code.ensures
    (subst (λ b. Blames b found code.result.now blame.result) c.are_both_found.ensures blame.ensures))
    (second.walked.entries ∙ first.walked.entries) c.in_ok-found.ensures.stands (λ s. refl)

-- an if

pub walk_if-walk_term-requires : goal.walk_if-walk_term-requires
walk_if-walk_term-requires t c = (omega (arith, c.decreases), (c.requires.sound, c.requires.condition))

pub walk_if-walk_term-requires-2 : goal.walk_if-walk_term-requires-2
walk_if-walk_term-requires-2 t c = (omega (arith, c.decreases), (c.in_ok-first.ensures.grows.sound, still_stand c.args.then_term.now c.in_ok-first.ensures.grows.keeps c.requires.then_term))

pub walk_if-walk_term-requires-3 : goal.walk_if-walk_term-requires-3
walk_if-walk_term-requires-3 t c =
    let parts = grows_trans c.in_ok-first.ensures.grows c.in_ok-second.ensures.grows in
    (omega (arith, c.decreases), (c.in_ok-second.ensures.grows.sound, still_stand c.args.else_term.now parts.keeps c.requires.else_term))

pub walk_if-type_of_if-requires-clause-condition : goal.walk_if-type_of_if-requires-clause-condition
walk_if-type_of_if-requires-clause-condition t c =
    let parts = grows_trans c.in_ok-second.ensures.grows c.in_ok-third.ensures.grows in
    stands_keep c.walk_term.new.walk.table c.walk_term-3.new.walk.table c.in_ok-first.first parts.keeps c.in_ok-first.ensures.walked.stands

pub walk_if-type_of_if-requires-clause-then_term : goal.walk_if-type_of_if-requires-clause-then_term
walk_if-type_of_if-requires-clause-then_term t c =
    stands_keep c.walk_term-2.new.walk.table c.walk_term-3.new.walk.table c.in_ok-second.second c.in_ok-third.ensures.grows.keeps c.in_ok-second.ensures.walked.stands

pub walk_if-returns-in_err-first-clause-walked : goal.walk_if-returns-in_err-first-clause-walked
walk_if-returns-in_err-first-clause-walked t c =
    let e1 = interned_term c.args.walk.now.table c.args.condition.now in
    let e2 = interned_term c.args.walk.now.table c.args.then_term.now in
    let e3 = interned_term c.args.walk.now.table c.args.else_term.now in
    part_stopped _ _ _ _ (if_then_else e1 e2 e3) _ c.from_residual.ensures.1
    (among_front _ _ _ (λ s. places s e3) _ _ _ (among_front _ _ _ (λ s. places s e2) _ _ _ c.in_err-first.ensures.walked)) (λ s. refl)

pub walk_if-returns-in_err-second-clause-grows : goal.walk_if-returns-in_err-second-clause-grows
walk_if-returns-in_err-second-clause-grows t c = grows_trans c.in_ok-first.ensures.grows c.in_err-second.ensures.grows

pub walk_if-returns-in_err-second-clause-walked : goal.walk_if-returns-in_err-second-clause-walked
walk_if-returns-in_err-second-clause-walked t c =
    let e1 = interned_term c.args.walk.now.table c.args.condition.now in
    let e2 = interned_term c.args.walk.now.table c.args.then_term.now in
    let e3 = interned_term c.args.walk.now.table c.args.else_term.now in
    let first = past_term c.requires.sound c.in_ok-first.ensures.grows c.in_ok-first.ensures.walked in
    part_stopped _ _ _ _ (if_then_else e1 e2 e3) _ c.from_residual-in_err-second.ensures.1
    (among_front _ _ _ (λ s. places s e3) _ _ _ (stopped_past _ _ (λ s. places s e2) first (still_stopped c.args.then_term.now c.in_ok-first.ensures.grows.keeps c.requires.then_term _ c.walk_term.new.walk c.walk_term-2.new.walk c.in_err-second.ensures.walked))) (λ s. refl)

pub walk_if-returns-in_err-third-clause-grows : goal.walk_if-returns-in_err-third-clause-grows
walk_if-returns-in_err-third-clause-grows t c = grows_trans (grows_trans c.in_ok-first.ensures.grows c.in_ok-second.ensures.grows) c.in_err-third.ensures.grows

pub walk_if-returns-in_err-third-clause-walked : goal.walk_if-returns-in_err-third-clause-walked
walk_if-returns-in_err-third-clause-walked t c =
    let e1 = interned_term c.args.walk.now.table c.args.condition.now in
    let e2 = interned_term c.args.walk.now.table c.args.then_term.now in
    let e3 = interned_term c.args.walk.now.table c.args.else_term.now in
    let first = past_term c.requires.sound c.in_ok-first.ensures.grows c.in_ok-first.ensures.walked in
    let second = past_term c.in_ok-first.ensures.grows.sound c.in_ok-second.ensures.grows
    (still_walked c.args.then_term.now c.in_ok-first.ensures.grows.keeps c.requires.then_term c.in_ok-second.ensures.walked) in
    let parts = grows_trans c.in_ok-first.ensures.grows c.in_ok-second.ensures.grows in
    part_stopped _ _ _ _ (if_then_else e1 e2 e3) _ c.from_residual-in_err-third.ensures.1
    (stopped_past _ _ (λ s. places s e3) (past_both first second) (still_stopped c.args.else_term.now parts.keeps c.requires.else_term _ c.walk_term-2.new.walk c.walk_term-3.new.walk c.in_err-third.ensures.walked)) (λ s. refl)

pub walk_if-returns-in_err-found-clause-grows : goal.walk_if-returns-in_err-found-clause-grows
walk_if-returns-in_err-found-clause-grows t c =
    let parts = grows_trans (grows_trans c.in_ok-first.ensures.grows c.in_ok-second.ensures.grows) c.in_ok-third.ensures.grows in
    stepped_grows parts c.type_of_if.ensures.keeps c.type_of_if.ensures.right c.type_of_if.ensures.dialect

pub walk_if-settle-requires-clause-sound : goal.walk_if-settle-requires-clause-sound
walk_if-settle-requires-clause-sound t c = (stepped_grows c.in_ok-third.ensures.grows c.type_of_if.ensures.keeps c.type_of_if.ensures.right c.type_of_if.ensures.dialect).sound

pub walk_if-returns-clause-grows : goal.walk_if-returns-clause-grows
walk_if-returns-clause-grows t c =
    let parts = grows_trans (grows_trans c.in_ok-first.ensures.grows c.in_ok-second.ensures.grows) c.in_ok-third.ensures.grows in
    grows_trans (stepped_grows parts c.type_of_if.ensures.keeps c.type_of_if.ensures.right c.type_of_if.ensures.dialect) c.settle.ensures.grows

pub walk_if-returns-clause-walked : goal.walk_if-returns-clause-walked
walk_if-returns-clause-walked t c =
    let e1 = interned_term c.args.walk.now.table c.args.condition.now in
    let e2 = interned_term c.args.walk.now.table c.args.then_term.now in
    let e3 = interned_term c.args.walk.now.table c.args.else_term.now in
    let first = c.in_ok-first.ensures in
    let second = c.in_ok-second.ensures in
    let third = c.in_ok-third.ensures in
    let w3 = c.walk_term-3.new.walk in
    let w4 = stepped w3 c.type_of_if.new.table c.type_of_if.new.verdicts in
    let found = c.in_ok-found.found in
    let blame = c.blame_if-blame in
    settled_walked _ _ w4 _ (if_then_else e1 e2 e3) (λ s. (places s e1 ++ places s e2) ++ places s e3) found blame.result c.settle.ensures.settled
    (if_parts c.args.walk.now c.walk_term.new.walk c.walk_term-2.new.walk w3 w4 e1 e2 e3 c.in_ok-first.first c.in_ok-second.second c.in_ok-third.third found blame.result
    c.requires.sound first.grows first.walked second.grows (still_walked c.args.then_term.now first.grows.keeps c.requires.then_term second.walked)
    third.grows (still_walked c.args.else_term.now (grows_trans first.grows second.grows).keeps c.requires.else_term third.walked)
    (progress_same w3 w4 third.grows.sound c.type_of_if.ensures.keeps refl refl)
    c.in_ok-found.ensures.rule (subst (λ b. Blames b found (codes "E5") blame.result) c.are_all_found.ensures blame.ensures))
    (third.walked.entries ∙ second.walked.entries ∙ first.walked.entries) c.in_ok-found.ensures.stands (λ s. refl)

-- an ascription

pub walk_ascribe-walk_term-requires : goal.walk_ascribe-walk_term-requires
walk_ascribe-walk_term-requires t c = (omega (arith, c.decreases), (c.requires.sound, c.requires.operand))

pub walk_ascribe-returns-in_err-part-clause-walked : goal.walk_ascribe-returns-in_err-part-clause-walked
walk_ascribe-returns-in_err-part-clause-walked t c =
    let w0 = c.args.walk.now in
    part_stopped _ _ _ _ (ascribe (interned_term w0.table c.args.operand.now) (answer w0.table c.args.written)) _ c.from_residual.ensures.1 c.in_err-part.ensures.walked (λ s. refl)

pub walk_ascribe-type_of_ascribe-requires-clause-written : goal.walk_ascribe-type_of_ascribe-requires-clause-written
walk_ascribe-type_of_ascribe-requires-clause-written t c =
    stands_keep c.args.walk.now.table c.walk_term.new.walk.table c.args.written c.in_ok-part.ensures.grows.keeps c.requires.written

pub walk_ascribe-returns-in_err-found-clause-grows : goal.walk_ascribe-returns-in_err-found-clause-grows
walk_ascribe-returns-in_err-found-clause-grows t c =
    stepped_grows c.in_ok-part.ensures.grows (keeps_same c.walk_term.new.walk.table) c.type_of_ascribe.ensures.right c.type_of_ascribe.ensures.dialect

pub walk_ascribe-settle-requires-clause-sound : goal.walk_ascribe-settle-requires-clause-sound
walk_ascribe-settle-requires-clause-sound t c =
    (stepped_grows c.in_ok-part.ensures.grows (keeps_same c.walk_term.new.walk.table) c.type_of_ascribe.ensures.right c.type_of_ascribe.ensures.dialect).sound

pub walk_ascribe-returns-clause-grows : goal.walk_ascribe-returns-clause-grows
walk_ascribe-returns-clause-grows t c =
    grows_trans (stepped_grows c.in_ok-part.ensures.grows (keeps_same c.walk_term.new.walk.table) c.type_of_ascribe.ensures.right c.type_of_ascribe.ensures.dialect) c.settle.ensures.grows

pub walk_ascribe-returns-clause-walked : goal.walk_ascribe-returns-clause-walked
walk_ascribe-returns-clause-walked t c =
    let w0 = c.args.walk.now in
    let operand = interned_term w0.table c.args.operand.now in
    let part = c.in_ok-part.ensures in
    let found = c.in_ok-found.found in
    let blame = c.blame_if-blame in
    settled_walked _ _ _ _ (ascribe operand (answer w0.table c.args.written)) (λ s. places s operand) found blame.result c.settle.ensures.settled
    (ascribe_parts w0 c.walk_term.new.walk operand c.in_ok-part.part found blame.result part.grows part.walked c.args.written c.requires.written
    c.in_ok-found.ensures.rule (subst (λ b. Blames b found (codes "E7") blame.result) c.are_both_found.ensures blame.ensures))
    part.walked.entries c.in_ok-found.ensures.stands (λ s. refl)

-- a lambda

pub walk_lambda-returns-in_err-push-clause-grows : goal.walk_lambda-returns-in_err-push-clause-grows
walk_lambda-returns-in_err-push-clause-grows t c =
    pushed_grows c.push.new.self c.args.written c.requires.sound (keeps_same c.args.walk.now.table) (put_or_not _ _ _ _ c.push.ensures.items) c.requires.written

pub walk_lambda-walk_term-requires : goal.walk_lambda-walk_term-requires
walk_lambda-walk_term-requires t c =
    let pushed = pushed_grows c.push.new.self c.args.written c.requires.sound (keeps_same c.args.walk.now.table) (inl c.in_ok-push.ensures.items) c.requires.written in
    (omega (arith, c.decreases), (pushed.sound, c.requires.body))

pub walk_lambda-type_of_lambda-requires-clause-written : goal.walk_lambda-type_of_lambda-requires-clause-written
walk_lambda-type_of_lambda-requires-clause-written t c =
    stands_keep c.args.walk.now.table c.walk_term.new.walk.table c.args.written c.in_ok-outcome.ensures.grows.keeps c.requires.written

pub walk_lambda-returns-in_err-outcome-clause-grows : goal.walk_lambda-returns-in_err-outcome-clause-grows
walk_lambda-returns-in_err-outcome-clause-grows t c =
    let pushed = pushed_grows c.push.new.self c.args.written c.requires.sound (keeps_same c.args.walk.now.table) (inl c.in_ok-push.ensures.items) c.requires.written in
    grows_trans pushed c.in_err-outcome.ensures.grows

pub walk_lambda-returns-in_err-outcome-clause-walked : goal.walk_lambda-returns-in_err-outcome-clause-walked
walk_lambda-returns-in_err-outcome-clause-walked t c =
    let ts = c.args.walk.now.table in
    let e = interned_term ts c.args.body.now in
    let w = answer ts c.args.written in
    let wf = written_differs ts c.args.written c.types_differ.ensures.wf c.requires.written in
    let under = pushed_under c.push.new.self c.args.written c.requires.sound (keeps_same ts) c.in_ok-push.ensures.items refl in
    part_stopped _ _ _ _ (lambda w e) _ c.from_residual-in_err-outcome.ensures.1 (stopped_under_written _ _ e wf under c.in_err-outcome.ensures.walked) (λ s. refl)

pub walk_lambda-returns-in_err-found-clause-grows : goal.walk_lambda-returns-in_err-found-clause-grows
walk_lambda-returns-in_err-found-clause-grows t c =
    let pushed = pushed_grows c.push.new.self c.args.written c.requires.sound (keeps_same c.args.walk.now.table) (inl c.in_ok-push.ensures.items) c.requires.written in
    let popped = popped_is _ c.in_ok-push.ensures.items c.in_ok-outcome.ensures.walked.entries c.pop.ensures.rest c.walk_term.new.walk.entries.ok.0 in
    popped_grows c.pop.new.self pushed c.in_ok-outcome.ensures.grows c.type_of_lambda.ensures.keeps popped c.requires.sound

pub walk_lambda-settle-requires-clause-sound : goal.walk_lambda-settle-requires-clause-sound
walk_lambda-settle-requires-clause-sound t c =
    let pushed = pushed_grows c.push.new.self c.args.written c.requires.sound (keeps_same c.args.walk.now.table) (inl c.in_ok-push.ensures.items) c.requires.written in
    let popped = popped_is _ c.in_ok-push.ensures.items c.in_ok-outcome.ensures.walked.entries c.pop.ensures.rest c.walk_term.new.walk.entries.ok.0 in
    (popped_grows c.pop.new.self pushed c.in_ok-outcome.ensures.grows c.type_of_lambda.ensures.keeps popped c.requires.sound).sound

pub walk_lambda-returns-clause-grows : goal.walk_lambda-returns-clause-grows
walk_lambda-returns-clause-grows t c =
    let pushed = pushed_grows c.push.new.self c.args.written c.requires.sound (keeps_same c.args.walk.now.table) (inl c.in_ok-push.ensures.items) c.requires.written in
    let popped = popped_is _ c.in_ok-push.ensures.items c.in_ok-outcome.ensures.walked.entries c.pop.ensures.rest c.walk_term.new.walk.entries.ok.0 in
    grows_trans (popped_grows c.pop.new.self pushed c.in_ok-outcome.ensures.grows c.type_of_lambda.ensures.keeps popped c.requires.sound) c.settle.ensures.grows

pub walk_lambda-returns-clause-walked : goal.walk_lambda-returns-clause-walked
walk_lambda-returns-clause-walked t c =
    let w0 = c.args.walk.now in
    let w2 = record w0 { entries = c.push.new.self } in
    let w3 = c.walk_term.new.walk in
    let w5 = record w3 { table = c.type_of_lambda.new.table; entries = c.pop.new.self } in
    let e = interned_term w0.table c.args.body.now in
    let w = answer w0.table c.args.written in
    let body = c.in_ok-outcome.ensures in
    let found = c.in_ok-found.found in
    let wf = written_differs w0.table c.args.written c.types_differ.ensures.wf c.requires.written in
    let under = pushed_under c.push.new.self c.args.written c.requires.sound (keeps_same w0.table) c.in_ok-push.ensures.items refl in
    let popped = popped_is _ c.in_ok-push.ensures.items body.walked.entries c.pop.ensures.rest w3.entries.ok.0 in
    let entry = answer_keep w0.table w3.table c.args.written body.grows.keeps c.requires.written in
    settled_walked _ _ w5 _ (lambda w e) (λ s. places (written w ∷ s) e) found None c.settle.ensures.settled
    (lambda_parts w0 w2 w3 w5 e w c.in_ok-outcome.outcome found wf under body.walked (progress_same w3 w5 body.grows.sound c.type_of_lambda.ensures.keeps refl refl)
    (subst (λ v. LambdaRule v (answer w3.table c.in_ok-outcome.outcome) (answer w5.table found)) entry c.in_ok-found.ensures.rule))
    popped c.in_ok-found.ensures.stands (λ s. refl)

-- a let

pub walk_let-walk_term-requires : goal.walk_let-walk_term-requires
walk_let-walk_term-requires t c = (omega (arith, c.decreases), (c.requires.sound, c.requires.bound))

pub walk_let-walk_term-requires-2 : goal.walk_let-walk_term-requires-2
walk_let-walk_term-requires-2 t c =
    let bound = c.in_ok-entry.ensures in
    let pushed = pushed_grows c.push.new.self c.in_ok-entry.entry bound.grows.sound (keeps_same c.walk_term.new.walk.table) (inl c.in_ok-push.ensures.items) bound.walked.stands in
    (omega (arith, c.decreases), (pushed.sound, still_stand c.args.body.now bound.grows.keeps c.requires.body))

pub walk_let-returns-in_err-entry-clause-walked : goal.walk_let-returns-in_err-entry-clause-walked
walk_let-returns-in_err-entry-clause-walked t c =
    let a = interned_term c.args.walk.now.table c.args.bound.now in
    let b = interned_term c.args.walk.now.table c.args.body.now in
    part_stopped _ _ _ _ (let_in a b) _ c.from_residual.ensures.1 (among_front _ _ _ (λ s. places (of_term a ∷ s) b) _ _ _ c.in_err-entry.ensures.walked) (λ s. refl)

pub walk_let-returns-in_err-push-clause-grows : goal.walk_let-returns-in_err-push-clause-grows
walk_let-returns-in_err-push-clause-grows t c =
    let bound = c.in_ok-entry.ensures in
    grows_trans bound.grows
    (pushed_grows c.push.new.self c.in_ok-entry.entry bound.grows.sound (keeps_same c.walk_term.new.walk.table) (put_or_not _ _ _ _ c.push.ensures.items) bound.walked.stands)

pub walk_let-returns-in_err-outcome-clause-grows : goal.walk_let-returns-in_err-outcome-clause-grows
walk_let-returns-in_err-outcome-clause-grows t c =
    let bound = c.in_ok-entry.ensures in
    let pushed = pushed_grows c.push.new.self c.in_ok-entry.entry bound.grows.sound (keeps_same c.walk_term.new.walk.table) (inl c.in_ok-push.ensures.items) bound.walked.stands in
    grows_trans bound.grows (grows_trans pushed c.in_err-outcome.ensures.grows)

pub walk_let-returns-in_err-outcome-clause-walked : goal.walk_let-returns-in_err-outcome-clause-walked
walk_let-returns-in_err-outcome-clause-walked t c =
    let a = interned_term c.args.walk.now.table c.args.bound.now in
    let b = interned_term c.args.walk.now.table c.args.body.now in
    let bound = c.in_ok-entry.ensures in
    let under = pushed_under c.push.new.self c.in_ok-entry.entry bound.grows.sound (keeps_same c.walk_term.new.walk.table) c.in_ok-push.ensures.items refl in
    part_stopped _ _ _ _ (let_in a b) _ c.from_residual-in_err-outcome.ensures.1
    (stopped_under_bound _ _ b c.requires.sound bound.grows bound.walked under (still_stopped c.args.body.now bound.grows.keeps c.requires.body _ (record c.walk_term.new.walk { entries = c.push.new.self }) c.walk_term-2.new.walk c.in_err-outcome.ensures.walked)) (λ s. refl)

pub walk_let-settle-requires-clause-sound : goal.walk_let-settle-requires-clause-sound
walk_let-settle-requires-clause-sound t c =
    let bound = c.in_ok-entry.ensures in
    let pushed = pushed_grows c.push.new.self c.in_ok-entry.entry bound.grows.sound (keeps_same c.walk_term.new.walk.table) (inl c.in_ok-push.ensures.items) bound.walked.stands in
    let popped = popped_is _ c.in_ok-push.ensures.items c.in_ok-outcome.ensures.walked.entries c.pop.ensures.rest c.walk_term-2.new.walk.entries.ok.0 in
    (popped_grows c.pop.new.self pushed c.in_ok-outcome.ensures.grows (keeps_same c.walk_term-2.new.walk.table) popped bound.grows.sound).sound

pub walk_let-settle-requires-clause-stands : goal.walk_let-settle-requires-clause-stands
walk_let-settle-requires-clause-stands t c = (c.type_of_let.ensures c.walk_term-2.new.walk.table).0 c.in_ok-outcome.ensures.walked.stands

pub walk_let-returns-clause-grows : goal.walk_let-returns-clause-grows
walk_let-returns-clause-grows t c =
    let bound = c.in_ok-entry.ensures in
    let pushed = pushed_grows c.push.new.self c.in_ok-entry.entry bound.grows.sound (keeps_same c.walk_term.new.walk.table) (inl c.in_ok-push.ensures.items) bound.walked.stands in
    let popped = popped_is _ c.in_ok-push.ensures.items c.in_ok-outcome.ensures.walked.entries c.pop.ensures.rest c.walk_term-2.new.walk.entries.ok.0 in
    let over = popped_grows c.pop.new.self pushed c.in_ok-outcome.ensures.grows (keeps_same c.walk_term-2.new.walk.table) popped bound.grows.sound in
    grows_trans bound.grows (grows_trans over c.settle.ensures.grows)

pub walk_let-returns-clause-walked : goal.walk_let-returns-clause-walked
walk_let-returns-clause-walked t c =
    let w1 = c.walk_term.new.walk in
    let w2 = record w1 { entries = c.push.new.self } in
    let w3 = c.walk_term-2.new.walk in
    let w4 = record w3 { entries = c.pop.new.self } in
    let a = interned_term c.args.walk.now.table c.args.bound.now in
    let b = interned_term c.args.walk.now.table c.args.body.now in
    let bound = c.in_ok-entry.ensures in
    let body = c.in_ok-outcome.ensures in
    let found = c.type_of_let.result in
    let step = c.type_of_let.ensures w3.table in
    let under = pushed_under c.push.new.self c.in_ok-entry.entry bound.grows.sound (keeps_same w1.table) c.in_ok-push.ensures.items refl in
    let popped = popped_is _ c.in_ok-push.ensures.items body.walked.entries c.pop.ensures.rest w3.entries.ok.0 in
    let entry = answer_keep w1.table w3.table c.in_ok-entry.entry body.grows.keeps bound.walked.stands in
    settled_walked _ _ w4 _ (let_in a b) (λ s. places s a ++ places (of_term a ∷ s) b) found None c.settle.ensures.settled
    (let_parts c.args.walk.now w1 w2 w3 w4 a b c.in_ok-entry.entry c.in_ok-outcome.outcome found c.requires.sound bound.grows bound.walked under
    (still_walked c.args.body.now bound.grows.keeps c.requires.body body.walked) refl
    (subst (λ v. LetRule v (answer w3.table c.in_ok-outcome.outcome) (answer w3.table found)) entry step.1))
    (popped ∙ bound.walked.entries) (step.0 body.walked.stands) (λ s. refl)

-- a record

pub walk_record-returns-in_err-parts-clause-grows : goal.walk_record-returns-in_err-parts-clause-grows
walk_record-returns-in_err-parts-clause-grows t c = grows_same c.requires.sound

pub walk_record-walk_fields-requires : goal.walk_record-walk_fields-requires
walk_record-walk_fields-requires t c = (omega (arith, c.decreases), (c.requires.sound, c.requires.fields))

pub walk_record-type_of_record-requires : goal.walk_record-type_of_record-requires
walk_record-type_of_record-requires t c =
    let over = c.in_ok-all.ensures.walked in
    subst (λ items. AreEarlier (length c.walk_fields.new.walk.table) items) (sym (parts_empty _ _ _ over.parts_are c.in_ok-parts.ensures.items)) over.stand

pub walk_record-returns-in_err-all-clause-walked : goal.walk_record-returns-in_err-all-clause-walked
walk_record-returns-in_err-all-clause-walked t c =
    part_stopped _ _ _ _ (record_term (interned_terms c.args.walk.now.table c.args.fields.now)) _ c.from_residual-in_err-all.ensures.1 c.in_err-all.ensures.walked (λ s. refl)

pub walk_record-returns-in_err-found-clause-grows : goal.walk_record-returns-in_err-found-clause-grows
walk_record-returns-in_err-found-clause-grows t c = retabled_grows c.in_ok-all.ensures.grows c.type_of_record.ensures.keeps

pub walk_record-settle-requires-clause-sound : goal.walk_record-settle-requires-clause-sound
walk_record-settle-requires-clause-sound t c = (retabled_grows c.in_ok-all.ensures.grows c.type_of_record.ensures.keeps).sound

pub walk_record-returns-clause-grows : goal.walk_record-returns-clause-grows
walk_record-returns-clause-grows t c = grows_trans (retabled_grows c.in_ok-all.ensures.grows c.type_of_record.ensures.keeps) c.settle.ensures.grows

pub walk_record-returns-clause-walked : goal.walk_record-returns-clause-walked
walk_record-returns-clause-walked t c =
    let w1 = c.walk_fields.new.walk in
    let w2 = record w1 { table = c.type_of_record.new.table } in
    let es = interned_terms c.args.walk.now.table c.args.fields.now in
    let all = c.in_ok-all.all in
    let over = c.in_ok-all.ensures.walked in
    let found = c.in_ok-found.found in
    let blame = c.blame_if-blame in
    let items = parts_empty _ _ _ over.parts_are c.in_ok-parts.ensures.items in
    let rule = subst (λ fs. RecordRule (if_all all (fields_over w1.table fs)) (answer w2.table found)) items c.in_ok-found.ensures.rule in
    settled_walked _ _ _ _ (record_term es) (λ s. field_places s es) found blame.result c.settle.ensures.settled
    (record_parts c.args.walk.now w1 w2 es _ _ all found blame.result over (progress_same w1 w2 c.in_ok-all.ensures.grows.sound c.type_of_record.ensures.keeps refl refl) rule blame.ensures)
    over.entries c.in_ok-found.ensures.stands (λ s. refl)

-- the terms of a record

pub walk_fields-walk_term-requires : goal.walk_fields-walk_term-requires
walk_fields-walk_term-requires t c =
    let cases = c.in-Some.ensures.cases.0 in
    (omega (arith, c.decreases, ap (λ fs. size_in_fields (numbered_terms fs)) cases), (c.requires.sound, (rw (ap numbered_terms cases) at c.requires.stand).0))

pub walk_fields-walk_fields-requires : goal.walk_fields-walk_fields-requires
walk_fields-walk_fields-requires t c =
    let cases = c.in-Some.ensures.cases.0 in
    let stand = rw (ap numbered_terms cases) at c.requires.stand in (
      omega (arith, c.decreases, ap (λ fs. size_in_fields (numbered_terms fs)) cases),
      (c.in_ok-found.ensures.grows.sound, fields_still_stand c.in-Some.others.now c.in_ok-found.ensures.grows.keeps stand.1),
    )

pub walk_fields-walk_fields-requires-2 : goal.walk_fields-walk_fields-requires-2
walk_fields-walk_fields-requires-2 t c =
    let cases = c.in-Some.ensures.cases.0 in
    let stand = rw (ap numbered_terms cases) at c.requires.stand in (
      omega (arith, c.decreases, ap (λ fs. size_in_fields (numbered_terms fs)) cases),
      (c.in_ok-found.ensures.grows.sound, fields_still_stand c.in-Some.others.now c.in_ok-found.ensures.grows.keeps stand.1),
    )

pub walk_fields-returns-in_default-clause-walked : goal.walk_fields-returns-in_default-clause-walked
walk_fields-returns-in_default-clause-walked t c = no_fields_walked c.args.walk.now c.args.fields.now c.args.parts.now.items c.in_default.ensures.cases

pub walk_fields-returns-in_err-found-clause-walked : goal.walk_fields-returns-in_err-found-clause-walked
walk_fields-returns-in_err-found-clause-walked t c =
    let w0 = c.args.walk.now in
    let w1 = c.walk_term.new.walk in
    let l = c.in-Some.field.now.label.now in
    let e = interned_term w0.table c.in-Some.field.now.term in
    let es = interned_terms w0.table c.in-Some.others.now in
    rw (ap numbered_terms c.in-Some.ensures.cases.0)
    (err_fields_walked c.from_residual.result _ w0 w1 (term_field l e es) _ _ c.from_residual.ensures.1 (fields_front _ w0 w1 l e es c.in_err-found.ensures.walked))

pub walk_fields-returns-in_err-walk_fields-clause-grows : goal.walk_fields-returns-in_err-walk_fields-clause-grows
walk_fields-returns-in_err-walk_fields-clause-grows t c = grows_trans c.in_ok-found.ensures.grows c.in_err-walk_fields.ensures.grows

pub walk_fields-returns-in_err-walk_fields-clause-walked : goal.walk_fields-returns-in_err-walk_fields-clause-walked
walk_fields-returns-in_err-walk_fields-clause-walked t c =
    let w0 = c.args.walk.now in
    let w1 = c.walk_term.new.walk in
    let w2 = c.walk_fields.new.walk in
    let l = c.in-Some.field.now.label.now in
    let e = interned_term w0.table c.in-Some.field.now.term in
    let es = interned_terms w0.table c.in-Some.others.now in
    let first = c.in_ok-found.ensures in
    let stand = rw (ap numbered_terms c.in-Some.ensures.cases.0) at c.requires.stand in
    rw (ap numbered_terms c.in-Some.ensures.cases.0)
    (err_fields_walked c.from_residual-in_err-walk_fields.result _ w0 w2 (term_field l e es) _ _ c.from_residual-in_err-walk_fields.ensures.1
    (fields_behind _ w0 w1 w2 l e es c.in_ok-found.found c.requires.sound first.grows first.walked
    (fields_still_stopped c.in-Some.others.now first.grows.keeps stand.1 _ w1 w2 c.in_err-walk_fields.ensures.walked)))

pub walk_fields-returns-in_default-found-clause-grows : goal.walk_fields-returns-in_default-found-clause-grows
walk_fields-returns-in_default-found-clause-grows t c = grows_trans c.in_ok-found.ensures.grows c.in_ok-walk_fields.ensures.grows

pub walk_fields-returns-in_default-found-clause-walked : goal.walk_fields-returns-in_default-found-clause-walked
walk_fields-returns-in_default-found-clause-walked t c =
    let w0 = c.args.walk.now in
    let l = c.in-Some.field.now.label.now in
    let e = interned_term w0.table c.in-Some.field.now.term in
    let es = interned_terms w0.table c.in-Some.others.now in
    let first = c.in_ok-found.ensures in
    let stand = rw (ap numbered_terms c.in-Some.ensures.cases.0) at c.requires.stand in
    rw (ap numbered_terms c.in-Some.ensures.cases.0)
    (fields_unfound w0 c.walk_term.new.walk c.walk_fields.new.walk l e es c.in_ok-found.found _ _ _ c.requires.sound first.grows first.walked
    c.in_default-found.is (fields_still_walked c.in-Some.others.now first.grows.keeps stand.1 c.in_ok-walk_fields.ensures.walked))

pub walk_fields-returns-clause-grows : goal.walk_fields-returns-clause-grows
walk_fields-returns-clause-grows t c = grows_trans c.in_ok-found.ensures.grows c.walk_fields-2.ensures.grows

pub walk_fields-returns-clause-walked : goal.walk_fields-returns-clause-walked
walk_fields-returns-clause-walked t c =
    let w0 = c.args.walk.now in
    let l = c.in-Some.field.now.label.now in
    let e = interned_term w0.table c.in-Some.field.now.term in
    let es = interned_terms w0.table c.in-Some.others.now in
    let first = c.in_ok-found.ensures in
    let rest = c.walk_fields-2 in
    let stand = rw (ap numbered_terms c.in-Some.ensures.cases.0) at c.requires.stand in
    rw (ap numbered_terms c.in-Some.ensures.cases.0)
    (fields_then rest.result w0 c.walk_term.new.walk rest.new.walk l e es c.in_ok-found.found c.in_ok-label.label c.in-Some-found.number _ _ _
    c.requires.sound first.grows first.walked c.in-Some-found.is rest.ensures.grows c.in_ok-push.ensures.items c.in_ok-label.ensures.ok
    (fields_still_either c.in-Some.others.now first.grows.keeps stand.1 rest.result c.walk_term.new.walk rest.new.walk _ _ rest.ensures.walked))
