use Rattle.std.proofs.Common.{◌+◌, ◌*◌}
use Rattle.lam_scope.specs.InternedViews.{numbered_of, numbered_terms}
use Rattle.lam_typing.proofs.Sizes.{size_in, size_in_fields}
use Rattle.lam_typing.proofs.walking.+walk_term.Given as goal

abbrev pub decreases-walk_term : goal.decreases-walk_term
decreases-walk_term l = 3 * size_in (numbered_of l.term.now)

abbrev pub decreases-walk_if : goal.decreases-walk_if
decreases-walk_if l = 3 * (size_in (numbered_of l.condition.now) + size_in (numbered_of l.then_term.now) + size_in (numbered_of l.else_term.now)) + 1

abbrev pub decreases-walk_number : goal.decreases-walk_number
decreases-walk_number l = 3 * size_in (numbered_of l.operand.now) + 1

abbrev pub decreases-walk_lambda : goal.decreases-walk_lambda
decreases-walk_lambda l = 3 * size_in (numbered_of l.body.now) + 1

abbrev pub decreases-walk_apply : goal.decreases-walk_apply
decreases-walk_apply l = 3 * (size_in (numbered_of l.function.now) + size_in (numbered_of l.argument.now)) + 1

abbrev pub decreases-walk_ascribe : goal.decreases-walk_ascribe
decreases-walk_ascribe l = 3 * size_in (numbered_of l.operand.now) + 1

abbrev pub decreases-walk_let : goal.decreases-walk_let
decreases-walk_let l = 3 * (size_in (numbered_of l.bound.now) + size_in (numbered_of l.body.now)) + 1

abbrev pub decreases-walk_record : goal.decreases-walk_record
decreases-walk_record l = 3 * size_in_fields (numbered_terms l.fields.now) + 2

abbrev pub decreases-walk_fields : goal.decreases-walk_fields
decreases-walk_fields l = 3 * size_in_fields (numbered_terms l.fields.now) + 1

abbrev pub decreases-walk_project : goal.decreases-walk_project
decreases-walk_project l = 3 * size_in (numbered_of l.operand.now) + 1

abbrev pub decreases-walk_fix : goal.decreases-walk_fix
decreases-walk_fix l = 3 * size_in (numbered_of l.operand.now) + 1
