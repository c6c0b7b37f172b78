-- A place sees as many binders by their origins as its scope has.
use Rattle.std.proofs.Common.{◌≡◌, ℕ, zero, suc, ◌+◌, List, [], ◌∷◌, ◌++◌, length, get_or, refl, ap}
use Rattle.lam_rules.specs.Terms.{Term, true_term, false_term, if_then_else, numeral, succ, pred, is_zero, variable, free, lambda, apply, unit_term, ascribe, let_in, record_term, project, fix, TermFields, no_terms, term_field}
use Rattle.lam_scope.specs.Places.{Scope, Place, places, field_places, Statement, defines, declares, abbreviates, states, places_of, place_numbered}
use Rattle.lam_scope.specs.Sights.{Sight, behind_term, sights, sights_in, sights_of, sight_numbered}

abbrev SeeAlike : List Sight → List Place → Type 0
SeeAlike [] [] = Unit {0}
SeeAlike (t ∷ ts) (p ∷ ps) = (length t ≡ length p.scope) × SeeAlike ts ps
SeeAlike [] (p ∷ ps) = ⊥
SeeAlike (t ∷ ts) [] = ⊥

both : (ts us : List Sight) (ps qs : List Place) → SeeAlike ts ps → SeeAlike us qs → SeeAlike (ts ++ us) (ps ++ qs)
both [] us [] qs h k = k
both (t ∷ ts) us (p ∷ ps) qs h k = (h.0, both ts us ps qs h.1 k)
both [] us (p ∷ ps) qs h k = absurd h
both (t ∷ ts) us [] qs h k = absurd h

mutual
  in_term : (k : ℕ) (t : Sight) (s : Scope) (e : Term) → length t ≡ length s → SeeAlike (sights k t e) (places s e)
  in_term k t s (if_then_else c a b) h =
      both (sights k t c ++ sights (behind_term k c) t a ++ sights (behind_term (behind_term k c) a) t b) _ (places s c ++ places s a ++ places s b) _
      (both (sights k t c ++ sights (behind_term k c) t a) _ (places s c ++ places s a) _
      (both (sights k t c) _ (places s c) _ (in_term k t s c h) (in_term (behind_term k c) t s a h)) (in_term (behind_term (behind_term k c) a) t s b h)) (h, tt)
  in_term k t s (succ e) h = both (sights k t e) _ (places s e) _ (in_term k t s e h) (h, tt)
  in_term k t s (pred e) h = both (sights k t e) _ (places s e) _ (in_term k t s e h) (h, tt)
  in_term k t s (is_zero e) h = both (sights k t e) _ (places s e) _ (in_term k t s e h) (h, tt)
  in_term k t s (lambda w e) h = both (sights k _ e) _ (places _ e) _ (in_term k _ _ e (ap suc h)) (h, tt)
  in_term k t s (apply f a) h =
      both (sights k t f ++ sights (behind_term k f) t a) _ (places s f ++ places s a) _
      (both (sights k t f) _ (places s f) _ (in_term k t s f h) (in_term (behind_term k f) t s a h)) (h, tt)
  in_term k t s (ascribe e w) h = both (sights k t e) _ (places s e) _ (in_term k t s e h) (h, tt)
  in_term k t s (let_in a b) h =
      both (sights k t a ++ sights (behind_term k a) _ b) _ (places s a ++ places _ b) _
      (both (sights k t a) _ (places s a) _ (in_term k t s a h) (in_term (behind_term k a) _ _ b (ap suc h))) (h, tt)
  in_term k t s (record_term es) h = both (sights_in k t es) _ (field_places s es) _ (in_fields k t s es h) (h, tt)
  in_term k t s (project e l) h = both (sights k t e) _ (places s e) _ (in_term k t s e h) (h, tt)
  in_term k t s (fix e) h = both (sights k t e) _ (places s e) _ (in_term k t s e h) (h, tt)
  in_term k t s true_term h = (h, tt)
  in_term k t s false_term h = (h, tt)
  in_term k t s (numeral digits) h = (h, tt)
  in_term k t s (variable n) h = (h, tt)
  in_term k t s (free x) h = (h, tt)
  in_term k t s unit_term h = (h, tt)

  in_fields : (k : ℕ) (t : Sight) (s : Scope) (es : TermFields) → length t ≡ length s → SeeAlike (sights_in k t es) (field_places s es)
  in_fields k t s no_terms h = tt
  in_fields k t s (term_field l e es) h = both (sights k t e) _ (places s e) _ (in_term k t s e h) (in_fields (behind_term k e) t s es h)

in_statements : (k i : ℕ) (t : Sight) (s : Scope) (ss : List Statement) → length t ≡ length s → SeeAlike (sights_of k i t ss) (places_of s ss)
in_statements k i t s [] h = tt
in_statements k i t s (defines e ∷ rest) h = both (sights k t e) _ (places s e) _ (in_term k t s e h) (in_statements (behind_term k e) (i + 1) _ _ rest (ap suc h))
in_statements k i t s (declares w ∷ rest) h = in_statements k (i + 1) _ _ rest (ap suc h)
in_statements k i t s (abbreviates w ∷ rest) h = in_statements k (i + 1) t s rest h
in_statements k i t s (states e ∷ rest) h = both (sights k t e) _ (places s e) _ (in_term k t s e h) (in_statements (behind_term k e) (i + 1) t s rest h)

at_number : (ts : List Sight) (ps : List Place) (n : ℕ) → SeeAlike ts ps → length (get_or ts n []) ≡ length (get_or ps n (record { scope = []; here = unit_term })).scope
at_number [] [] n h = refl
at_number [] (p ∷ ps) n h = absurd h
at_number (t ∷ ts) [] n h = absurd h
at_number (t ∷ ts) (p ∷ ps) zero h = h.0
at_number (t ∷ ts) (p ∷ ps) (suc n) h = at_number ts ps n h.1

pub sight_length : (ss : List Statement) (n : ℕ) → length (sight_numbered ss n) ≡ length (place_numbered ss n).scope
sight_length ss n = at_number (sights_of 0 0 [] ss) (places_of [] ss) n (in_statements 0 0 [] [] ss refl)
