use Rattle.std.proofs.Common.{◌+◌, ◌*◌}
use Rattle.lam_rules.specs.TermViews.{term_of, terms_of}
use Rattle.lam_typing.proofs.Sizes.{size_of, size_of_fields}
use Rattle.lam_typing.proofs.noting.+note_term.Given as goal

abbrev pub decreases-note_term : goal.decreases-note_term
decreases-note_term l = 3 * size_of (term_of l.term.now)

abbrev pub decreases-note_over : goal.decreases-note_over
decreases-note_over l = 3 * size_of (term_of l.operand.now) + 1

abbrev pub decreases-note_if : goal.decreases-note_if
decreases-note_if l = 3 * (size_of (term_of l.condition.now) + size_of (term_of l.then_term.now) + size_of (term_of l.else_term.now)) + 1

abbrev pub decreases-note_lambda : goal.decreases-note_lambda
decreases-note_lambda l = 3 * size_of (term_of l.body.now) + 1

abbrev pub decreases-note_apply : goal.decreases-note_apply
decreases-note_apply l = 3 * (size_of (term_of l.function.now) + size_of (term_of l.argument.now)) + 1

abbrev pub decreases-note_let : goal.decreases-note_let
decreases-note_let l = 3 * (size_of (term_of l.bound.now) + size_of (term_of l.body.now)) + 1

abbrev pub decreases-note_record : goal.decreases-note_record
decreases-note_record l = 3 * size_of_fields (terms_of l.fields.now) + 2

abbrev pub decreases-note_fields : goal.decreases-note_fields
decreases-note_fields l = 3 * size_of_fields (terms_of l.fields.now) + 1
