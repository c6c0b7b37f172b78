use Rattle.std.proofs.Common.{◌+◌, ◌*◌}
use Rattle.lam_rules.specs.TermViews.{term_of, terms_of}
use Rattle.lam_typing.proofs.Sizes.{size_of, size_of_fields}
use Rattle.lam_typing.proofs.proving.+prove_term.Given as goal

abbrev pub decreases-prove_term : goal.decreases-prove_term
decreases-prove_term l = 4 * size_of (term_of l.term.now) + 1

abbrev pub decreases-prove_form : goal.decreases-prove_form
decreases-prove_form l = 4 * size_of (term_of l.term.now)

abbrev pub decreases-prove_number : goal.decreases-prove_number
decreases-prove_number l = 4 * size_of (term_of l.operand.now) + 3

abbrev pub decreases-prove_if : goal.decreases-prove_if
decreases-prove_if l = 4 * (size_of (term_of l.condition.now) + size_of (term_of l.then_term.now) + size_of (term_of l.else_term.now)) + 3

abbrev pub decreases-prove_lambda : goal.decreases-prove_lambda
decreases-prove_lambda l = 4 * size_of (term_of l.body.now) + 2

abbrev pub decreases-prove_apply : goal.decreases-prove_apply
decreases-prove_apply l = 4 * (size_of (term_of l.function.now) + size_of (term_of l.argument.now)) + 2

abbrev pub decreases-prove_ascribe : goal.decreases-prove_ascribe
decreases-prove_ascribe l = 4 * size_of (term_of l.operand.now) + 3

abbrev pub decreases-prove_let : goal.decreases-prove_let
decreases-prove_let l = 4 * (size_of (term_of l.bound.now) + size_of (term_of l.body.now)) + 2

abbrev pub decreases-prove_record : goal.decreases-prove_record
decreases-prove_record l = 4 * size_of_fields (terms_of l.fields.now) + 2

abbrev pub decreases-prove_fields : goal.decreases-prove_fields
decreases-prove_fields l = 4 * size_of_fields (terms_of l.fields.now) + 1

abbrev pub decreases-prove_project : goal.decreases-prove_project
decreases-prove_project l = 4 * size_of (term_of l.operand.now) + 2

abbrev pub decreases-prove_fix : goal.decreases-prove_fix
decreases-prove_fix l = 4 * size_of (term_of l.operand.now) + 3

abbrev pub decreases-prove_as : goal.decreases-prove_as
decreases-prove_as l = 4 * size_of (term_of l.term.now) + 2
