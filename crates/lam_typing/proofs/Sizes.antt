-- How many nodes a term has: the measure by which walks over it end.
use Rattle.std.proofs.Common.{ℕ, ◌+◌, []}
use Rattle.lam_rules.specs.Terms.{Term, if_then_else, succ, pred, is_zero, lambda, apply, ascribe, let_in, record_term, project, fix, TermFields, no_terms, term_field}
use Rattle.lam_scope.specs.Numbered.{Numbered, NumberedFields, term_over, terms_over}

abbrev mutual
  pub size_of : Term → ℕ
  size_of (if_then_else c a b) = 1 + size_of c + size_of a + size_of b
  size_of (succ e) = 1 + size_of e
  size_of (pred e) = 1 + size_of e
  size_of (is_zero e) = 1 + size_of e
  size_of (lambda w e) = 1 + size_of e
  size_of (apply f a) = 1 + size_of f + size_of a
  size_of (ascribe e w) = 1 + size_of e
  size_of (let_in a b) = 1 + size_of a + size_of b
  size_of (record_term es) = 1 + size_of_fields es
  size_of (project e l) = 1 + size_of e
  size_of (fix e) = 1 + size_of e
  size_of e = 1

  pub size_of_fields : TermFields → ℕ
  size_of_fields no_terms = 0
  size_of_fields (term_field l e es) = 1 + size_of e + size_of_fields es

-- a term over the numbers of a table has as many, whatever the table

abbrev pub size_in : Numbered → ℕ
size_in e = size_of (term_over [] e)

abbrev pub size_in_fields : NumberedFields → ℕ
size_in_fields es = size_of_fields (terms_over [] es)
