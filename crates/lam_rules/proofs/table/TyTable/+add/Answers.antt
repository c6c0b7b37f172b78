use Rattle.std.proofs.Common.{◌∙◌, ap, sym, subst, arith}
use Rattle.lam_rules.specs.Types.{IsWellFormed, AreWellFormed}
use Rattle.lam_rules.specs.TypeViews.{typ_of, fields_of}
use Rattle.lam_rules.proofs.TypeShapes.{typ_of-Record, typ_of-Bool, typ_of-Nat, typ_of-Unit, typ_of-Top, typ_of-Arrow}
use Rattle.lam_rules.proofs.TableFields.{distinct_fields, nodes_read, wf_read, added_more, added_all}
use Rattle.lam_rules.proofs.Tables.{numbers, keeps_trans, keeps_same}
use Rattle.std.proofs.lemmas.Grind.{common_steps}
use Rattle.lam_rules.proofs.table.TyTable.+add.Goals as goal

pub add-intern-requires-in-Record-clause-labels : goal.add-intern-requires-in-Record-clause-labels
add-intern-requires-in-Record-clause-labels t c =
    distinct_fields _ _ _ c.in_ok-items-in-Record.ensures.fields
    (subst AreWellFormed (ap fields_of (sym (c.deref-in-Record-2.ensures.value ∙ ap (λ v. v.items) c.deref-in-Record.ensures))) (subst IsWellFormed (ap typ_of c.in-Record.is ∙ typ_of-Record c.in-Record.fields) c.requires))

pub add_fields-add-requires : goal.add_fields-add-requires
add_fields-add-requires t c =
    (omega (arith, c.decreases, nodes_read _ _ _ c.loop-i-test.true c.index-fields-i.is), wf_read _ _ _ c.requires c.loop-i-test.true c.index-fields-i.is)

pub add_fields-loop-i-preserved : goal.add_fields-loop-i-preserved
add_fields-loop-i-preserved t c =
    added_more _ _ _ _ _ _ _ _ _ _ _ c.loop-i.invariant c.loop-i-test.true c.index-fields-i.is
    c.in_ok-number.ensures.keeps c.in_ok-number.ensures.number c.in_ok-clone.ensures.cases c.in_ok-push.ensures.items

pub add_fields-returns-clause-fields : goal.add_fields-returns-clause-fields
add_fields-returns-clause-fields t c = added_all _ _ _ _ _ c.loop-i.invariant c.loop-i-test.false

pub add-add-requires : goal.add-add-requires
add-add-requires t c = grind (arith, typ_of-Arrow)

pub add-returns-in_err-parameter_number-in-Arrow-clause-keeps : goal.add-returns-in_err-parameter_number-in-Arrow-clause-keeps
add-returns-in_err-parameter_number-in-Arrow-clause-keeps t c = grind (arith, keeps_same, keeps_trans)

pub add-add-requires-in-Arrow : goal.add-add-requires-in-Arrow
add-add-requires-in-Arrow t c = grind (arith, typ_of-Arrow)

pub add-returns-in_err-outcome_number-in-Arrow-clause-keeps : goal.add-returns-in_err-outcome_number-in-Arrow-clause-keeps
add-returns-in_err-outcome_number-in-Arrow-clause-keeps t c = grind (arith, keeps_same, keeps_trans)

pub add-arrow-requires-clause-parameter : goal.add-arrow-requires-clause-parameter
add-arrow-requires-clause-parameter t c = grind (arith, numbers)

pub add-arrow-requires-clause-outcome : goal.add-arrow-requires-clause-outcome
add-arrow-requires-clause-outcome t c = grind (arith, numbers)

pub add-add_fields-requires : goal.add-add_fields-requires
add-add_fields-requires t c = grind (arith, typ_of-Record)

pub add-returns-in_err-items-in-Record-clause-keeps : goal.add-returns-in_err-items-in-Record-clause-keeps
add-returns-in_err-items-in-Record-clause-keeps t c = grind (arith, keeps_same, keeps_trans)

pub add-returns-in-Bool-clause-keeps : goal.add-returns-in-Bool-clause-keeps
add-returns-in-Bool-clause-keeps t c = grind (arith, keeps_same, keeps_trans)

pub add-returns-in-Bool-clause-number : goal.add-returns-in-Bool-clause-number
add-returns-in-Bool-clause-number t c = grind (arith, typ_of-Bool)

pub add-returns-in-Nat-clause-keeps : goal.add-returns-in-Nat-clause-keeps
add-returns-in-Nat-clause-keeps t c = grind (arith, keeps_same, keeps_trans)

pub add-returns-in-Nat-clause-number : goal.add-returns-in-Nat-clause-number
add-returns-in-Nat-clause-number t c = grind (arith, typ_of-Nat)

pub add-returns-in-Unit-clause-keeps : goal.add-returns-in-Unit-clause-keeps
add-returns-in-Unit-clause-keeps t c = grind (arith, keeps_same, keeps_trans)

pub add-returns-in-Unit-clause-number : goal.add-returns-in-Unit-clause-number
add-returns-in-Unit-clause-number t c = grind (arith, typ_of-Unit)

pub add-returns-in-Top-clause-keeps : goal.add-returns-in-Top-clause-keeps
add-returns-in-Top-clause-keeps t c = grind (arith, keeps_same, keeps_trans)

pub add-returns-in-Top-clause-number : goal.add-returns-in-Top-clause-number
add-returns-in-Top-clause-number t c = grind (arith, typ_of-Top)

pub add-returns-in_ok-outcome_number-in-Arrow-clause-keeps : goal.add-returns-in_ok-outcome_number-in-Arrow-clause-keeps
add-returns-in_ok-outcome_number-in-Arrow-clause-keeps t c = grind (arith, keeps_same, keeps_trans)

pub add-returns-in_ok-outcome_number-in-Arrow-clause-number : goal.add-returns-in_ok-outcome_number-in-Arrow-clause-number
add-returns-in_ok-outcome_number-in-Arrow-clause-number t c = grind (arith, numbers, typ_of-Arrow, typ_of-Record)

pub add-returns-in_ok-items-in-Record-clause-keeps : goal.add-returns-in_ok-items-in-Record-clause-keeps
add-returns-in_ok-items-in-Record-clause-keeps t c = grind (arith, keeps_same, keeps_trans)

pub add-returns-in_ok-items-in-Record-clause-number : goal.add-returns-in_ok-items-in-Record-clause-number
add-returns-in_ok-items-in-Record-clause-number t c = grind (arith, numbers, typ_of-Arrow, typ_of-Record)

pub add_fields-returns-in_err-items-clause-keeps : goal.add_fields-returns-in_err-items-clause-keeps
add_fields-returns-in_err-items-clause-keeps t c = grind (arith, keeps_same, keeps_trans)

pub add_fields-loop-i-init : goal.add_fields-loop-i-init
add_fields-loop-i-init t c = grind (arith, common_steps, numbers)

pub add_fields-returns-in_err-number-clause-keeps : goal.add_fields-returns-in_err-number-clause-keeps
add_fields-returns-in_err-number-clause-keeps t c = grind (arith, keeps_same, keeps_trans)

pub add_fields-returns-in_err-clone-clause-keeps : goal.add_fields-returns-in_err-clone-clause-keeps
add_fields-returns-in_err-clone-clause-keeps t c = grind (arith, keeps_same, keeps_trans)

pub add_fields-returns-in_err-push-clause-keeps : goal.add_fields-returns-in_err-push-clause-keeps
add_fields-returns-in_err-push-clause-keeps t c = grind (arith, keeps_same, keeps_trans)

pub add_fields-returns-clause-keeps : goal.add_fields-returns-clause-keeps
add_fields-returns-clause-keeps t c = grind (arith, keeps_same, keeps_trans)

pub add_fields-returns-clause-over : goal.add_fields-returns-clause-over
add_fields-returns-clause-over t c = grind (arith, common_steps, numbers)
