-- The terms at the places of statements, and how the search for one ends.
use Rattle.std.proofs.Common.{◌≡◌, ℕ, ◌<◌, List, [], ◌∷◌, ◌++◌, length, get_or, zero, suc, refl, ap, sym, ◌∙◌, arith}
use Rattle.lam_rules.specs.Terms.{Term, true_term, false_term, if_then_else, numeral, succ, pred, is_zero, variable, free, lambda, apply, unit_term, ascribe, let_in, record_term, project, fix, TermFields, no_terms, term_field}
use Rattle.lam_scope.specs.Places.{written, of_term, Scope, Place, places, field_places, Statement, defines, declares, abbreviates, states, places_of, place_numbered}
use Rattle.lam_scope.specs.inner.Found.{terms_at, terms_at_fields, terms_stated, here, behind, seek, seek_on}
use Rattle.lam_scope.proofs.Finding.{seek-append}

-- the terms at the places of statements
abbrev pub terms_in : List Statement → List Term
terms_in [] = []
terms_in (s ∷ ss) = terms_stated s ++ terms_in ss

abbrev terms_of_places : List Place → List Term
terms_of_places [] = []
terms_of_places (p ∷ ps) = p.here ∷ terms_of_places ps

joined_places : (ps qs : List Place) → terms_of_places (ps ++ qs) ≡ terms_of_places ps ++ terms_of_places qs
joined_places [] qs = refl
joined_places (p ∷ ps) qs = ap (λ es. p.here ∷ es) (joined_places ps qs)

one : (ps : List Place) (p : Place) (es : List Term) → terms_of_places ps ≡ es → terms_of_places (ps ++ p ∷ []) ≡ es ++ p.here ∷ []
one ps p es e = joined_places ps (p ∷ []) ∙ ap (λ fs. fs ++ p.here ∷ []) e

two : (ps qs : List Place) (es fs : List Term) → terms_of_places ps ≡ es → terms_of_places qs ≡ fs → terms_of_places (ps ++ qs) ≡ es ++ fs
two ps qs es fs e f = joined_places ps qs ∙ (λ i. e i ++ f i)

mutual
  terms-places : (s : Scope) (e : Term) → terms_of_places (places s e) ≡ terms_at e
  terms-places s (if_then_else c a b) =
      one (places s c ++ places s a ++ places s b) (record { scope = s; here = if_then_else c a b }) (terms_at c ++ terms_at a ++ terms_at b)
      (two (places s c ++ places s a) (places s b) (terms_at c ++ terms_at a) (terms_at b) (two (places s c) (places s a) (terms_at c) (terms_at a) (terms-places s c) (terms-places s a)) (terms-places s b))
  terms-places s (succ e) = one (places s e) (record { scope = s; here = succ e }) (terms_at e) (terms-places s e)
  terms-places s (pred e) = one (places s e) (record { scope = s; here = pred e }) (terms_at e) (terms-places s e)
  terms-places s (is_zero e) = one (places s e) (record { scope = s; here = is_zero e }) (terms_at e) (terms-places s e)
  terms-places s (lambda w e) = one (places (written w ∷ s) e) (record { scope = s; here = lambda w e }) (terms_at e) (terms-places (written w ∷ s) e)
  terms-places s (apply f a) =
      one (places s f ++ places s a) (record { scope = s; here = apply f a }) (terms_at f ++ terms_at a)
      (two (places s f) (places s a) (terms_at f) (terms_at a) (terms-places s f) (terms-places s a))
  terms-places s (ascribe e w) = one (places s e) (record { scope = s; here = ascribe e w }) (terms_at e) (terms-places s e)
  terms-places s (let_in a b) =
      one (places s a ++ places (of_term a ∷ s) b) (record { scope = s; here = let_in a b }) (terms_at a ++ terms_at b)
      (two (places s a) (places (of_term a ∷ s) b) (terms_at a) (terms_at b) (terms-places s a) (terms-places (of_term a ∷ s) b))
  terms-places s (record_term es) = one (field_places s es) (record { scope = s; here = record_term es }) (terms_at_fields es) (terms-places_in s es)
  terms-places s (project e l) = one (places s e) (record { scope = s; here = project e l }) (terms_at e) (terms-places s e)
  terms-places s (fix e) = one (places s e) (record { scope = s; here = fix e }) (terms_at e) (terms-places s e)
  terms-places s true_term = refl
  terms-places s false_term = refl
  terms-places s unit_term = refl
  terms-places s (numeral d) = refl
  terms-places s (variable n) = refl
  terms-places s (free x) = refl

  terms-places_in : (s : Scope) (es : TermFields) → terms_of_places (field_places s es) ≡ terms_at_fields es
  terms-places_in s no_terms = refl
  terms-places_in s (term_field l e es) = two (places s e) (field_places s es) (terms_at e) (terms_at_fields es) (terms-places s e) (terms-places_in s es)

terms-places_of : (s : Scope) (ss : List Statement) → terms_of_places (places_of s ss) ≡ terms_in ss
terms-places_of s [] = refl
terms-places_of s (defines e ∷ ss) = two (places s e) (places_of (of_term e ∷ s) ss) (terms_at e) (terms_in ss) (terms-places s e) (terms-places_of (of_term e ∷ s) ss)
terms-places_of s (declares w ∷ ss) = terms-places_of (written w ∷ s) ss
terms-places_of s (abbreviates w ∷ ss) = terms-places_of s ss
terms-places_of s (states e ∷ ss) = two (places s e) (places_of s ss) (terms_at e) (terms_in ss) (terms-places s e) (terms-places_of s ss)

seek-here : (ps : List Place) (n : ℕ) (d : Place) → n < length ps → seek (terms_of_places ps) n ≡ here (get_or ps n d).here
seek-here [] n d lt = absurd (omega arith)
seek-here (p ∷ ps) zero d lt = refl
seek-here (p ∷ ps) (suc n) d lt = seek-here ps n d (omega arith)

seek-place : (ss : List Statement) (n : ℕ) → n < length (places_of [] ss) → seek (terms_in ss) n ≡ here (place_numbered ss n).here
seek-place ss n lt = ap (λ ts. seek ts n) (sym (terms-places_of [] ss)) ∙ seek-here (places_of [] ss) n (record { scope = []; here = unit_term }) lt

here-same : (t u : Term) → here t ≡ here u → t ≡ u
here-same t u e = cc

-- the search over statements ends at the place of the number

pub sought_here : (ss rest : List Statement) (s : Statement) (n left : ℕ) (t : Term) → n < length (places_of [] ss)
    → seek (terms_in ss) n ≡ seek (terms_in (s ∷ rest)) left → here t ≡ seek (terms_stated s) left → t ≡ (place_numbered ss n).here
sought_here ss rest s n left t lt so_far found =
    here-same t (place_numbered ss n).here
    (ap (λ r. seek_on r (terms_in rest)) found ∙ sym (seek-append (terms_stated s) (terms_in rest) left) ∙ sym so_far ∙ seek-place ss n lt)

pub sought_behind : (ss rest : List Statement) (s : Statement) (n left more : ℕ)
    → seek (terms_in ss) n ≡ seek (terms_in (s ∷ rest)) left → behind more ≡ seek (terms_stated s) left → seek (terms_in ss) n ≡ seek (terms_in rest) more
sought_behind ss rest s n left more so_far gone =
    so_far ∙ seek-append (terms_stated s) (terms_in rest) left ∙ ap (λ r. seek_on r (terms_in rest)) (sym gone)

pub sought_nowhere : (ss : List Statement) (n left : ℕ) → n < length (places_of [] ss) → seek (terms_in ss) n ≡ seek (terms_in []) left → ⊥
sought_nowhere ss n left lt so_far = let met = sym (seek-place ss n lt) ∙ so_far in cc
