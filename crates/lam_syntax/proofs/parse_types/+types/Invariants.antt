use Rattle.std.proofs.Common.{◌≡◌, length, ◌+◌, ◌*◌, ◌<◌}
use Rattle.lam_syntax.specs.inner.Run.{InType, need_type_field, run, look}
use Rattle.lam_syntax.specs.Views.{type_fields_of}
use Rattle.lam_syntax.specs.inner.Reads.{type_fields_next}
use Rattle.lam_syntax.proofs.parse_types.+types.Given as goal

abbrev pub decreases-parse_type : goal.decreases-parse_type
decreases-parse_type l = 4 * length l.tokens.now + 1

abbrev pub decreases-parse_atype : goal.decreases-parse_atype
decreases-parse_atype l = 4 * length l.tokens.now

abbrev pub decreases-parse_type_parens : goal.decreases-parse_type_parens
decreases-parse_type_parens l = 4 * length l.tokens.now + 3

abbrev pub decreases-parse_record_type : goal.decreases-parse_record_type
decreases-parse_record_type l = 4 * length l.tokens.now + 3

abbrev pub decreases-parse_type_field : goal.decreases-parse_type_field
decreases-parse_type_field l = 4 * length l.tokens.now + 2

-- the run goes on behind the fields so far
abbrev pub invariant-parse_record_type-loop-next : goal.invariant-parse_record_type-loop-next
invariant-parse_record_type-loop-next l = record {
  read : (k : InType) → run l.fn.tokens (need_type_field l.fn.first k) ≡ look l.rest (λ o. type_fields_next o l.fn.first (type_fields_of l.fields.items) k);
  shorter : length l.rest < length l.fn.tokens;
}

abbrev pub decreases-parse_record_type-loop-next : goal.decreases-parse_record_type-loop-next
decreases-parse_record_type-loop-next l = length l.rest
