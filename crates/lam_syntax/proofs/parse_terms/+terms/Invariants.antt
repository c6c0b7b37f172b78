use Rattle.std.proofs.Common.{◌≡◌, length, ◌+◌, ◌*◌, ◌<◌}
use Rattle.lam_syntax.specs.inner.Run.{InTerm, InPath, need_field, begin_app, ended_app, run, look}
use Rattle.lam_syntax.specs.Views.{term_of, fields_of}
use Rattle.lam_syntax.specs.inner.Reads.{fields_next}
use Rattle.lam_syntax.proofs.parse_terms.+terms.Given as goal

abbrev pub decreases-parse_term : goal.decreases-parse_term
decreases-parse_term l = 7 * length l.tokens.now + 3

abbrev pub decreases-parse_term_behind : goal.decreases-parse_term_behind
decreases-parse_term_behind l = 7 * length l.tokens.now + 4

abbrev pub decreases-parse_lambda : goal.decreases-parse_lambda
decreases-parse_lambda l = 7 * length l.tokens.now + 6

abbrev pub decreases-parse_if : goal.decreases-parse_if
decreases-parse_if l = 7 * length l.tokens.now + 6

abbrev pub decreases-parse_let : goal.decreases-parse_let
decreases-parse_let l = 7 * length l.tokens.now + 6

abbrev pub decreases-parse_letrec : goal.decreases-parse_letrec
decreases-parse_letrec l = 7 * length l.tokens.now + 6

abbrev pub decreases-parse_app : goal.decreases-parse_app
decreases-parse_app l = 7 * length l.tokens.now + 2

abbrev pub decreases-parse_path : goal.decreases-parse_path
decreases-parse_path l = 7 * length l.tokens.now + 1

abbrev pub decreases-parse_atom : goal.decreases-parse_atom
decreases-parse_atom l = 7 * length l.tokens.now + 0

abbrev pub decreases-parse_parens : goal.decreases-parse_parens
decreases-parse_parens l = 7 * length l.tokens.now + 5

abbrev pub decreases-parse_record : goal.decreases-parse_record
decreases-parse_record l = 7 * length l.tokens.now + 5

abbrev pub decreases-parse_field : goal.decreases-parse_field
decreases-parse_field l = 7 * length l.tokens.now + 4

-- the run goes on behind the application so far
abbrev pub invariant-parse_app-loop-alloc : goal.invariant-parse_app-loop-alloc
invariant-parse_app-loop-alloc l = record {
  read : (k : InTerm) → look l.fn.tokens (λ o. begin_app o k) ≡ look l.rest (λ o. ended_app o (term_of l.head) k);
  shorter : length l.rest < length l.fn.tokens;
}

abbrev pub decreases-parse_app-loop-alloc : goal.decreases-parse_app-loop-alloc
decreases-parse_app-loop-alloc l = length l.rest

-- the run goes on behind the fields so far
abbrev pub invariant-parse_record-loop-next : goal.invariant-parse_record-loop-next
invariant-parse_record-loop-next l = record {
  read : (k : InPath) → run l.fn.tokens (need_field l.fn.first k) ≡ look l.rest (λ o. fields_next o l.fn.first (fields_of l.fields.items) k);
  shorter : length l.rest < length l.fn.tokens;
}

abbrev pub decreases-parse_record-loop-next : goal.decreases-parse_record-loop-next
decreases-parse_record-loop-next l = length l.rest
