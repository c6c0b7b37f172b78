use Rattle.std.proofs.Common.{◌≡◌, ◌+◌, ◌*◌, ◌++◌, drop}
use Rattle.lam_rules.specs.Numbers.{Keeps}
use Rattle.lam_syntax.specs.Views.{term_of, fields_of}
use Rattle.lam_scope.specs.Nameless.{nameless_fields, written_in_fields, faults_in, first_over_limit}
use Rattle.lam_scope.specs.NumberedNames.{abbreviations_over}
use Rattle.lam_scope.specs.InternedViews.{interned_terms, StandInTerms}
use Rattle.lam_scope.proofs.Forms.{joined_terms}
use Rattle.lam_scope.proofs.TreeSizes.{tree_size, tree_sizes}
use Rattle.lam_scope.proofs.interning.+terms.Given as goal

abbrev pub invariant-intern_fields-loop-i : goal.invariant-intern_fields-loop-i
invariant-intern_fields-loop-i l = record {
  keeps : Keeps l.initial.table l.table;
  stand : StandInTerms l.table l.forms.items;
  forms : joined_terms (interned_terms l.table l.forms.items) (nameless_fields (abbreviations_over l.initial.table l.seen) l.initial.names (fields_of (drop l.i l.fields)))
      ≡ nameless_fields (abbreviations_over l.initial.table l.seen) l.initial.names (fields_of l.fields);
  faults : l.interning.faults.items ++ faults_in (abbreviations_over l.initial.table l.seen) (written_in_fields (fields_of (drop l.i l.fields)))
      ≡ l.initial.interning.faults.items ++ faults_in (abbreviations_over l.initial.table l.seen) (written_in_fields (fields_of l.fields));
  limit : first_over_limit (abbreviations_over l.initial.table l.seen) (written_in_fields (fields_of l.fields))
      ≡ first_over_limit (abbreviations_over l.initial.table l.seen) (written_in_fields (fields_of (drop l.i l.fields)));
  names : l.names ≡ l.initial.names;
}

abbrev pub decreases-intern_term : goal.decreases-intern_term
decreases-intern_term l = 4 * tree_size (term_of l.term.now)

abbrev pub decreases-intern_under : goal.decreases-intern_under
decreases-intern_under l = 4 * tree_size (term_of l.body.now) + 1

abbrev pub decreases-lambda_of : goal.decreases-lambda_of
decreases-lambda_of l = 4 * tree_size (term_of l.term.now.body) + 2

abbrev pub decreases-if_of : goal.decreases-if_of
decreases-if_of l = 4 * (tree_size (term_of l.term.now.condition) + tree_size (term_of l.term.now.then_term) + tree_size (term_of l.term.now.else_term)) + 2

abbrev pub decreases-let_of : goal.decreases-let_of
decreases-let_of l = 4 * (tree_size (term_of l.term.now.bound) + tree_size (term_of l.term.now.body)) + 2

abbrev pub decreases-letrec_of : goal.decreases-letrec_of
decreases-letrec_of l = 4 * (tree_size (term_of l.term.now.bound) + tree_size (term_of l.term.now.body)) + 2

abbrev pub decreases-prefixed_of : goal.decreases-prefixed_of
decreases-prefixed_of l = 4 * tree_size (term_of l.operand.now) + 2

abbrev pub decreases-apply_of : goal.decreases-apply_of
decreases-apply_of l = 4 * (tree_size (term_of l.term.now.function) + tree_size (term_of l.term.now.argument)) + 2

abbrev pub decreases-project_of : goal.decreases-project_of
decreases-project_of l = 4 * tree_size (term_of l.term.now.record) + 2

abbrev pub decreases-ascribe_of : goal.decreases-ascribe_of
decreases-ascribe_of l = 4 * tree_size (term_of l.term.now.operand) + 2

abbrev pub decreases-record_of : goal.decreases-record_of
decreases-record_of l = 4 * tree_sizes (fields_of l.fields.now) + 2

abbrev pub decreases-intern_fields : goal.decreases-intern_fields
decreases-intern_fields l = 4 * tree_sizes (fields_of l.fields.now) + 1
