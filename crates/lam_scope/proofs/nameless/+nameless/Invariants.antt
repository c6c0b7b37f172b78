use Rattle.std.proofs.Common.{◌≡◌, ◌+◌, ◌*◌, ◌++◌, drop}
use Rattle.lam_rules.specs.TermViews.{terms_of}
use Rattle.lam_syntax.specs.Views.{term_of, fields_of}
use Rattle.lam_scope.specs.Indexed.{indexed_fields, past_fields}
use Rattle.lam_scope.specs.Nameless.{written_in_fields, faults_in, first_over_limit}
use Rattle.lam_scope.specs.Views.{abbreviations_of}
use Rattle.lam_scope.proofs.Forms.{joined_terms}
use Rattle.lam_scope.proofs.TreeSizes.{tree_size, tree_sizes}
use Rattle.lam_scope.proofs.nameless.+nameless.Given as goal

abbrev pub invariant-nameless_fields-loop-i : goal.invariant-nameless_fields-loop-i
invariant-nameless_fields-loop-i l = record {
  form : joined_terms (terms_of l.forms.items) (indexed_fields (abbreviations_of l.seen) (fields_of (drop l.i l.fields)) l.forming.uses)
      ≡ indexed_fields (abbreviations_of l.seen) (fields_of l.fields) l.initial.forming.uses;
  uses : past_fields (fields_of (drop l.i l.fields)) l.forming.uses ≡ past_fields (fields_of l.fields) l.initial.forming.uses;
  faults : l.forming.faults.items ++ faults_in (abbreviations_of l.seen) (written_in_fields (fields_of (drop l.i l.fields)))
      ≡ l.initial.forming.faults.items ++ faults_in (abbreviations_of l.seen) (written_in_fields (fields_of l.fields));
  limit : first_over_limit (abbreviations_of l.seen) (written_in_fields (fields_of l.fields)) ≡ first_over_limit (abbreviations_of l.seen) (written_in_fields (fields_of (drop l.i l.fields)));
}

abbrev pub decreases-nameless : goal.decreases-nameless
decreases-nameless l = 4 * tree_size (term_of l.term.now)

abbrev pub decreases-lambda_of : goal.decreases-lambda_of
decreases-lambda_of l = 4 * tree_size (term_of l.term.now.body) + 2

abbrev pub decreases-if_of : goal.decreases-if_of
decreases-if_of l = 4 * (tree_size (term_of l.term.now.condition) + tree_size (term_of l.term.now.then_term) + tree_size (term_of l.term.now.else_term)) + 2

abbrev pub decreases-let_of : goal.decreases-let_of
decreases-let_of l = 4 * (tree_size (term_of l.term.now.bound) + tree_size (term_of l.term.now.body)) + 2

abbrev pub decreases-letrec_of : goal.decreases-letrec_of
decreases-letrec_of l = 4 * (tree_size (term_of l.term.now.bound) + tree_size (term_of l.term.now.body)) + 2

abbrev pub decreases-prefixed_of : goal.decreases-prefixed_of
decreases-prefixed_of l = 4 * tree_size (term_of l.operand.now) + 2

abbrev pub decreases-apply_of : goal.decreases-apply_of
decreases-apply_of l = 4 * (tree_size (term_of l.term.now.function) + tree_size (term_of l.term.now.argument)) + 2

abbrev pub decreases-project_of : goal.decreases-project_of
decreases-project_of l = 4 * tree_size (term_of l.term.now.record) + 2

abbrev pub decreases-ascribe_of : goal.decreases-ascribe_of
decreases-ascribe_of l = 4 * tree_size (term_of l.term.now.operand) + 2

abbrev pub decreases-record_of : goal.decreases-record_of
decreases-record_of l = 4 * tree_sizes (fields_of l.fields.now) + 2

abbrev pub decreases-nameless_fields : goal.decreases-nameless_fields
decreases-nameless_fields l = 4 * tree_sizes (fields_of l.fields.now) + 1
