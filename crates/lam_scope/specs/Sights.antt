-- The origins of the binders in scope at each subterm, by the indices of subterms and statements.
use Rattle.std.specs.Prelude.{ℕ, ◌+◌, List, [], ◌∷◌, ◌++◌, get_or}
use Rattle.lam_rules.specs.Terms.{Term, if_then_else, succ, pred, is_zero, lambda, apply, ascribe, let_in, record_term, project, fix, TermFields, no_terms, term_field}
use Rattle.lam_scope.specs.declared.numbers.Origin.{Origin}
use Rattle.lam_scope.specs.declared.numbers.Origin.TheVariants.{Lambda, Term as TermAt, Declaration}
use Rattle.lam_scope.specs.Places.{Statement, defines, declares, abbreviates, states}

-- the origins of the binders of names in scope at a subterm, innermost first
abbrev pub Sight : Type 0
Sight = List Origin

-- the number of proper subterms of a term, which come before it
abbrev mutual
  pub inside : Term → ℕ
  inside (if_then_else c a b) = inside c + 1 + inside a + 1 + inside b + 1
  inside (succ e) = inside e + 1
  inside (pred e) = inside e + 1
  inside (is_zero e) = inside e + 1
  inside (lambda w e) = inside e + 1
  inside (apply f a) = inside f + 1 + inside a + 1
  inside (ascribe e w) = inside e + 1
  inside (let_in a b) = inside a + 1 + inside b + 1
  inside (record_term es) = inside_fields es
  inside (project e l) = inside e + 1
  inside (fix e) = inside e + 1
  inside e = 0

  -- the number of subterms of the terms of a record, these included
  pub inside_fields : TermFields → ℕ
  inside_fields no_terms = 0
  inside_fields (term_field l e es) = inside e + 1 + inside_fields es

-- the index of a term whose first subterm is k
abbrev pub place_of_term : ℕ → Term → ℕ
place_of_term k e = k + inside e

-- the index after that of a term whose first subterm is k
abbrev pub behind_term : ℕ → Term → ℕ
behind_term k e = place_of_term k e + 1

-- the origin of the binder of the lambda at an index
abbrev pub lambda_at : ℕ → Origin
lambda_at k = Lambda (record { 0 = k })

-- the origin of a binder that takes its type from the term at an index
abbrev pub term_at : ℕ → Origin
term_at k = TermAt (record { 0 = k })

-- what is in scope at each subterm of a term, in order, where the first one has index k
abbrev mutual
  pub sights : (k : ℕ) → Sight → Term → List Sight
  sights k s (if_then_else c a b) = sights k s c ++ sights (behind_term k c) s a ++ sights (behind_term (behind_term k c) a) s b ++ s ∷ []
  sights k s (succ e) = sights k s e ++ s ∷ []
  sights k s (pred e) = sights k s e ++ s ∷ []
  sights k s (is_zero e) = sights k s e ++ s ∷ []
  sights k s (lambda w e) = sights k (lambda_at (behind_term k e) ∷ s) e ++ s ∷ []
  sights k s (apply f a) = sights k s f ++ sights (behind_term k f) s a ++ s ∷ []
  sights k s (ascribe e w) = sights k s e ++ s ∷ []
  sights k s (let_in a b) = sights k s a ++ sights (behind_term k a) (term_at (place_of_term k a) ∷ s) b ++ s ∷ []
  sights k s (record_term es) = sights_in k s es ++ s ∷ []
  sights k s (project e l) = sights k s e ++ s ∷ []
  sights k s (fix e) = sights k s e ++ s ∷ []
  sights k s e = s ∷ []

  -- what is in scope at each subterm of a record's terms
  pub sights_in : (k : ℕ) → Sight → TermFields → List Sight
  sights_in k s no_terms = []
  sights_in k s (term_field l e es) = sights k s e ++ sights_in (behind_term k e) s es

-- what is in scope at each subterm of the statements, where the first subterm has index k and the first statement index i
abbrev pub sights_of : (k i : ℕ) → Sight → List Statement → List Sight
sights_of k i s [] = []
sights_of k i s (defines e ∷ rest) = sights k s e ++ sights_of (behind_term k e) (i + 1) (term_at (place_of_term k e) ∷ s) rest
sights_of k i s (declares w ∷ rest) = sights_of k (i + 1) (Declaration i ∷ s) rest
sights_of k i s (abbreviates w ∷ rest) = sights_of k (i + 1) s rest
sights_of k i s (states e ∷ rest) = sights k s e ++ sights_of (behind_term k e) (i + 1) s rest

-- what is in scope at the subterm with this index
abbrev pub sight_numbered : List Statement → ℕ → Sight
sight_numbered ss n = get_or (sights_of 0 0 [] ss) n []
