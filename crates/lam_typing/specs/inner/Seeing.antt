-- What was found and noted of a term and of its parts, each at its index among all subterms: the data for a proof of its type.
use Rattle.std.specs.Prelude.{◌≡◌, ◌<◌, ℕ, List, [], ◌∷◌, length, Option, None, get_or}
use Rattle.lam_rules.specs.Types.{Typ}
use Rattle.lam_rules.specs.Terms.{Term, true_term, false_term, if_then_else, numeral, succ, pred, is_zero, variable, free, lambda, apply, unit_term, ascribe, let_in, record_term, project, fix, TermFields, no_terms, term_field}
use Rattle.lam_rules.specs.Typing.{Context}
use Rattle.lam_rules.specs.declared.rules.Dialect.{Dialect}
use Rattle.lam_scope.specs.Places.{written, of_term, Scope, Place}
use Rattle.lam_scope.specs.Sights.{place_of_term, behind_term}
use Rattle.lam_typing.specs.LeastTypes.{IsLeastAt}
use Rattle.lam_typing.specs.inner.Steps.{entry_at}
use Rattle.lam_typing.specs.inner.Notes.{Noted}

-- the subterm with this zero-based index
abbrev pub place_among : List Place → ℕ → Place
place_among all n = get_or all n (record { scope = []; here = unit_term })

-- the note of the subterm with this index
abbrev pub note_among : List Noted → ℕ → Noted
note_among ns n = get_or ns n (record { written = None; bound = None })

-- each type found is the least one of its subterm
abbrev pub LeastAmong : List Place → List (Option Typ) → Dialect → Type 0
LeastAmong all found d = (n : ℕ) → n < length found → IsLeastAt (place_among all n).scope (place_among all n).here (get_or found n None) d

-- the term is the one at this index
abbrev pub IsPlace : List Place → ℕ → Scope → Term → Type 0
IsPlace all n s e = place_among all n ≡ record { scope = s; here = e }

-- The subterms of a term are among all, the first of them at index k. For a variable, the noted entry is that of this context; under a let, the binder's entry is the
-- type found for its term.
abbrev mutual
  pub Sees : List Place → List (Option Typ) → List Noted → (k : ℕ) → Scope → Context → Term → Type 0
  Sees all found ns k s g (if_then_else c a b) =
      IsPlace all (place_of_term k (if_then_else c a b)) s (if_then_else c a b)
      × Sees all found ns k s g c × Sees all found ns (behind_term k c) s g a × Sees all found ns (behind_term (behind_term k c) a) s g b
  Sees all found ns k s g (succ e) = IsPlace all (place_of_term k (succ e)) s (succ e) × Sees all found ns k s g e
  Sees all found ns k s g (pred e) = IsPlace all (place_of_term k (pred e)) s (pred e) × Sees all found ns k s g e
  Sees all found ns k s g (is_zero e) = IsPlace all (place_of_term k (is_zero e)) s (is_zero e) × Sees all found ns k s g e
  Sees all found ns k s g (variable n) = IsPlace all (place_of_term k (variable n)) s (variable n) × ((note_among ns (place_of_term k (variable n))).bound ≡ entry_at n g)
  Sees all found ns k s g (lambda w e) = IsPlace all (place_of_term k (lambda w e)) s (lambda w e) × Sees all found ns k (written w ∷ s) (w ∷ g) e
  Sees all found ns k s g (apply f a) = IsPlace all (place_of_term k (apply f a)) s (apply f a) × Sees all found ns k s g f × Sees all found ns (behind_term k f) s g a
  Sees all found ns k s g (ascribe e w) = IsPlace all (place_of_term k (ascribe e w)) s (ascribe e w) × Sees all found ns k s g e
  Sees all found ns k s g (let_in a b) =
      IsPlace all (place_of_term k (let_in a b)) s (let_in a b)
      × Sees all found ns k s g a × Sees all found ns (behind_term k a) (of_term a ∷ s) (get_or found (place_of_term k a) None ∷ g) b
  Sees all found ns k s g (record_term es) = IsPlace all (place_of_term k (record_term es)) s (record_term es) × SeesFields all found ns k s g es
  Sees all found ns k s g (project e l) = IsPlace all (place_of_term k (project e l)) s (project e l) × Sees all found ns k s g e
  Sees all found ns k s g (fix e) = IsPlace all (place_of_term k (fix e)) s (fix e) × Sees all found ns k s g e
  Sees all found ns k s g true_term = IsPlace all (place_of_term k true_term) s true_term × Unit {0}
  Sees all found ns k s g false_term = IsPlace all (place_of_term k false_term) s false_term × Unit {0}
  Sees all found ns k s g (numeral digits) = IsPlace all (place_of_term k (numeral digits)) s (numeral digits) × Unit {0}
  Sees all found ns k s g (free x) = IsPlace all (place_of_term k (free x)) s (free x) × Unit {0}
  Sees all found ns k s g unit_term = IsPlace all (place_of_term k unit_term) s unit_term × Unit {0}

  -- the same of the terms of a record
  pub SeesFields : List Place → List (Option Typ) → List Noted → (k : ℕ) → Scope → Context → TermFields → Type 0
  SeesFields all found ns k s g no_terms = Unit {0}
  SeesFields all found ns k s g (term_field l e es) = Sees all found ns k s g e × SeesFields all found ns (behind_term k e) s g es
