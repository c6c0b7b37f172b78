use Rattle.std.proofs.Common.{◌+◌, ◌*◌}
use Rattle.lam_rules.specs.TermViews.{term_of, terms_of}
use Rattle.lam_typing.proofs.Sizes.{size_of, size_of_fields}
use Rattle.lam_typing.proofs.interning.+intern_term.Given as goal

abbrev pub decreases-intern_term : goal.decreases-intern_term
decreases-intern_term l = 3 * size_of (term_of l.term.now)

abbrev pub decreases-intern_part : goal.decreases-intern_part
decreases-intern_part l = 3 * size_of (term_of l.part.now) + 1

abbrev pub decreases-intern_if : goal.decreases-intern_if
decreases-intern_if l = 3 * (size_of (term_of l.condition.now) + size_of (term_of l.then_term.now) + size_of (term_of l.else_term.now)) + 2

abbrev pub decreases-intern_lambda : goal.decreases-intern_lambda
decreases-intern_lambda l = 3 * size_of (term_of l.body.now) + 2

abbrev pub decreases-intern_apply : goal.decreases-intern_apply
decreases-intern_apply l = 3 * (size_of (term_of l.function.now) + size_of (term_of l.argument.now)) + 2

abbrev pub decreases-intern_ascribe : goal.decreases-intern_ascribe
decreases-intern_ascribe l = 3 * size_of (term_of l.operand.now) + 2

abbrev pub decreases-intern_let : goal.decreases-intern_let
decreases-intern_let l = 3 * (size_of (term_of l.bound.now) + size_of (term_of l.body.now)) + 2

abbrev pub decreases-intern_record : goal.decreases-intern_record
decreases-intern_record l = 3 * size_of_fields (terms_of l.fields.now) + 2

abbrev pub decreases-intern_fields : goal.decreases-intern_fields
decreases-intern_fields l = 3 * size_of_fields (terms_of l.fields.now) + 1

abbrev pub decreases-intern_project : goal.decreases-intern_project
decreases-intern_project l = 3 * size_of (term_of l.operand.now) + 2
