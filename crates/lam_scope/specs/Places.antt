-- A document in nameless form: its statements, their subterms, and the binders in scope at each.
use Rattle.std.specs.Prelude.{ℕ, List, [], ◌∷◌, ◌++◌, Option, None, get_or}
use Rattle.lam_rules.specs.Types.{Typ}
use Rattle.lam_rules.specs.Terms.{Term, if_then_else, succ, pred, is_zero, lambda, apply, unit_term, ascribe, let_in, record_term, project, fix, TermFields, no_terms, term_field}

-- What gives a binder its type: the expansion of a written type, or none if that is faulty; or a term.
pub data Binding : Type 0 where
  written : Option Typ → Binding
  of_term : Term → Binding

-- The bindings of names in scope at a subterm, innermost first. The term of a binding is in the scope just outside of it, which is the rest of the list.
abbrev pub Scope : Type 0
Scope = List Binding

-- a subterm of a statement, with its scope
pub record Place : Type 0 where
  pub scope : Scope
  pub here : Term

-- the subterms of a term: those of its parts from left to right, and then the term itself
abbrev mutual
  pub places : Scope → Term → List Place
  places s (if_then_else c a b) = places s c ++ places s a ++ places s b ++ record { scope = s; here = if_then_else c a b } ∷ []
  places s (succ e) = places s e ++ record { scope = s; here = succ e } ∷ []
  places s (pred e) = places s e ++ record { scope = s; here = pred e } ∷ []
  places s (is_zero e) = places s e ++ record { scope = s; here = is_zero e } ∷ []
  places s (lambda w e) = places (written w ∷ s) e ++ record { scope = s; here = lambda w e } ∷ []
  places s (apply f a) = places s f ++ places s a ++ record { scope = s; here = apply f a } ∷ []
  places s (ascribe e w) = places s e ++ record { scope = s; here = ascribe e w } ∷ []
  places s (let_in a b) = places s a ++ places (of_term a ∷ s) b ++ record { scope = s; here = let_in a b } ∷ []
  places s (record_term es) = field_places s es ++ record { scope = s; here = record_term es } ∷ []
  places s (project e l) = places s e ++ record { scope = s; here = project e l } ∷ []
  places s (fix e) = places s e ++ record { scope = s; here = fix e } ∷ []
  places s e = record { scope = s; here = e } ∷ []

  -- those of the terms of a record, from left to right
  pub field_places : Scope → TermFields → List Place
  field_places s no_terms = []
  field_places s (term_field l e es) = places s e ++ field_places s es

-- A command in nameless form: what it states, and what it binds for the commands after it.
pub data Statement : Type 0 where
  defines : Term → Statement
  declares : Option Typ → Statement
  abbreviates : Option Typ → Statement
  states : Term → Statement

-- the subterms of statements, from first to last, each with the binders of earlier statements in scope
abbrev pub places_of : Scope → List Statement → List Place
places_of s [] = []
places_of s (defines e ∷ rest) = places s e ++ places_of (of_term e ∷ s) rest
places_of s (declares w ∷ rest) = places_of (written w ∷ s) rest
places_of s (abbreviates w ∷ rest) = places_of s rest
places_of s (states e ∷ rest) = places s e ++ places_of s rest

-- the subterm with this zero-based index
abbrev pub place_numbered : List Statement → ℕ → Place
place_numbered ss n = get_or (places_of [] ss) n (record { scope = []; here = unit_term })

-- the statement with this zero-based index
abbrev pub statement_numbered : List Statement → ℕ → Statement
statement_numbered ss n = get_or ss n (abbreviates None)
