use Rattle.std.proofs.Common.{◌≡◌, ◌+◌, ◌*◌, ◌≤◌, ◌++◌, length, codes}
use denote.Text.{Utf8}
use denote.Shadow.{shadow}
use Rattle.lam_rules.specs.ReadableLabels.{HaveReadableLabels}
use Rattle.lam_rules.specs.Texts.{Text, plain_fields}
use Rattle.lam_rules.specs.Types.{Fields}
use Rattle.lam_rules.specs.TypeViews.{fields_of}
use Rattle.lam_check.proofs.PlainTypes.{AreFieldsLeft}
use Rattle.lam_check.specs.Readable.{depth_in}
use Rattle.lam_check.proofs.plain_types.+types.Given as goal

-- The measures of the functions: the levels that are left, and within a level the order of the calls.

abbrev pub decreases-operand_at : goal.decreases-operand_at
decreases-operand_at l = 4 * l.levels

abbrev pub decreases-record_at : goal.decreases-record_at
decreases-record_at l = 4 * l.levels + 2

abbrev pub decreases-type_at : goal.decreases-type_at
decreases-type_at l = 4 * l.levels + 1

abbrev pub decreases-type_in_parentheses : goal.decreases-type_in_parentheses
decreases-type_in_parentheses l = 4 * l.levels + 2

abbrev pub invariant-record_at-loop-left : goal.invariant-record_at-loop-left
invariant-record_at-loop-left l =
    shadow (Utf8 l.rest)
    × (length l.rest ≤ length l.text)
    × ((fs : Fields) (rest : Text) → HaveReadableLabels fs → depth_in fs ≤ l.levels → l.text ≡ plain_fields fs ++ (codes "}" ++ rest)
    → AreFieldsLeft (fields_of l.fields.items) l.rest l.levels fs rest)

abbrev pub decreases-record_at-loop-left : goal.decreases-record_at-loop-left
decreases-record_at-loop-left l = length l.rest
