-- The search for the subterm with an index.
use Rattle.std.specs.Prelude.{ℕ, zero, suc, List, [], ◌∷◌, ◌++◌}
use Rattle.lam_rules.specs.Terms.{Term, if_then_else, succ, pred, is_zero, lambda, apply, ascribe, let_in, record_term, project, fix, TermFields, no_terms, term_field}
use Rattle.lam_rules.specs.TermViews.{term_of}
use Rattle.lam_scope.specs.declared.search.Found.{Found}
use Rattle.lam_scope.specs.declared.search.Found.TheVariants.{Here, Behind}
use Rattle.lam_scope.specs.Places.{Statement, defines, declares, abbreviates, states}

-- the subterms of a term, in order
abbrev mutual
  pub terms_at : Term → List Term
  terms_at (if_then_else c a b) = terms_at c ++ terms_at a ++ terms_at b ++ if_then_else c a b ∷ []
  terms_at (succ e) = terms_at e ++ succ e ∷ []
  terms_at (pred e) = terms_at e ++ pred e ∷ []
  terms_at (is_zero e) = terms_at e ++ is_zero e ∷ []
  terms_at (lambda w e) = terms_at e ++ lambda w e ∷ []
  terms_at (apply f a) = terms_at f ++ terms_at a ++ apply f a ∷ []
  terms_at (ascribe e w) = terms_at e ++ ascribe e w ∷ []
  terms_at (let_in a b) = terms_at a ++ terms_at b ++ let_in a b ∷ []
  terms_at (record_term es) = terms_at_fields es ++ record_term es ∷ []
  terms_at (project e l) = terms_at e ++ project e l ∷ []
  terms_at (fix e) = terms_at e ++ fix e ∷ []
  terms_at e = e ∷ []

  -- those of a record's terms
  pub terms_at_fields : TermFields → List Term
  terms_at_fields no_terms = []
  terms_at_fields (term_field l e es) = terms_at e ++ terms_at_fields es

-- the subterms of a statement
abbrev pub terms_stated : Statement → List Term
terms_stated (defines e) = terms_at e
terms_stated (declares w) = []
terms_stated (abbreviates w) = []
terms_stated (states e) = terms_at e

-- the state of a search: the term found, or how far past the terms its index is
pub data Sought : Type 0 where
  here : Term → Sought
  behind : ℕ → Sought

-- the search for the term with this zero-based index
abbrev pub seek : List Term → ℕ → Sought
seek [] n = behind n
seek (t ∷ ts) zero = here t
seek (t ∷ ts) (suc n) = seek ts n

-- the search continues among more terms
abbrev pub seek_on : Sought → List Term → Sought
seek_on (here t) ts = here t
seek_on (behind n) ts = seek ts n

-- what a `Found` stands for
abbrev pub sought_of : Found → Sought
sought_of (Here c) = here (term_of c.now)
sought_of (Behind n) = behind n
