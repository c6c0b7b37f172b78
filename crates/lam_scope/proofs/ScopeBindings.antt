-- What a place sees by its origins and by its bindings is the same: each origin leads to the binding beside it.
use Rattle.std.proofs.Common.{◌≡◌, ℕ, ◌+◌, List, [], ◌∷◌, ◌++◌, length, zero, suc, refl, ap, sym, ◌∙◌, arith, map, reverse, get_or, Option, None}
use Rattle.std.proofs.lemmas.List.{length-append}
use Rattle.std.proofs.lemmas.Simd.{map-map}
use Rattle.lam_rules.specs.Types.{Typ}
use Rattle.lam_rules.specs.Terms.{Term, if_then_else, succ, pred, is_zero, lambda, apply, unit_term, ascribe, let_in, record_term, project, fix, TermFields, no_terms, term_field}
use Rattle.lam_syntax.specs.Trees.{CommandTree}
use Rattle.lam_scope.specs.declared.numbers.Origin.TheVariants.{Declaration}
use Rattle.lam_scope.specs.Bindings.{lambda_type, declared_type, binding_from, AreOriginsOf}
use Rattle.lam_scope.specs.Nameless.{statements}
use Rattle.lam_scope.specs.PlacedTerms.{term_of, tree_in, document_terms}
use Rattle.lam_scope.specs.Places.{written, of_term, Scope, Place, places, field_places, Statement, defines, declares, abbreviates, states, places_of, place_numbered, statement_numbered}
use Rattle.lam_scope.specs.Sights.{Sight, inside, place_of_term, behind_term, lambda_at, term_at, sights, sights_in, sights_of, sight_numbered}
use Rattle.lam_scope.specs.Tables.{table, binder_numbered, place_row_numbered, seen_in, visible_at}
use Rattle.lam_scope.proofs.BinderRows.{Along, along_append, StandAt, stand_left, stand_right, stand_all}
use Rattle.lam_scope.proofs.PlaceCounts.{places-length}
use Rattle.lam_scope.proofs.PlacedRows.{row_told}
use Rattle.lam_scope.proofs.Reading.{map-reverse}
use Rattle.lam_scope.proofs.SeenOrigins.{visible_origins}

module _ (ss : List Statement) where
  -- the origins of what a place sees lead to its scope
  abbrev LeadsTo : Scope → Sight → Type 0
  LeadsTo s t = (map (binding_from ss) t ≡ s) × AreOriginsOf ss t s

  abbrev Leads : Place → Sight → Type 0
  Leads p t = LeadsTo p.scope t

  abbrev Stand : ℕ → List Place → Type 0
  Stand = StandAt (place_numbered ss) (length (places_of [] ss))

  abbrev Follow : ℕ → List Statement → Type 0
  Follow = StandAt (statement_numbered ss) (length ss)

  front : (k : ℕ) (ps qs : List Place) → Stand k (ps ++ qs) → Stand k ps
  front k ps qs h = stand_left (place_numbered ss) (length (places_of [] ss)) k ps qs h

  back : (k m : ℕ) (ps qs : List Place) → k + length ps ≡ m → Stand k (ps ++ qs) → Stand m qs
  back k m ps qs e h = stand_right (place_numbered ss) (length (places_of [] ss)) k m ps qs e h

  -- the places behind those of one term, and of two
  next : (k : ℕ) (s : Scope) (e : Term) (qs : List Place) → Stand k (places s e ++ qs) → Stand (behind_term k e) qs
  next k s e qs h = let count = places-length s e in back k (behind_term k e) (places s e) qs (omega arith) h

  after_next : (k : ℕ) (s : Scope) (e f : Term) (qs : List Place) → Stand k (places s e ++ places s f ++ qs) → Stand (behind_term (behind_term k e) f) qs
  after_next k s e f qs h =
      let first = places-length s e in
      let second = places-length s f in
      let both = length-append (places s e) (places s f) in
      back k (behind_term (behind_term k e) f) (places s e ++ places s f) qs (omega (arith, first, second, both)) h

  -- the place of a term is the last of its places
  last_stands : (k n : ℕ) (s : Scope) (e : Term) (ps : List Place) → length (ps ++ record { scope = s; here = e } ∷ []) ≡ n + 1 → Stand k (ps ++ record { scope = s; here = e } ∷ [])
      → place_numbered ss (k + n) ≡ record { scope = s; here = e }
  last_stands k n s e ps count h =
      let whole = length-append ps (record { scope = s; here = e } ∷ []) in
      (back k (k + n) ps (record { scope = s; here = e } ∷ []) (omega (arith, whole, count)) h).1

  root_stands : (k : ℕ) (s : Scope) (e : Term) → Stand k (places s e) → place_numbered ss (place_of_term k e) ≡ record { scope = s; here = e }
  root_stands k s (if_then_else c a b) h = last_stands k (inside (if_then_else c a b)) s (if_then_else c a b) (places s c ++ places s a ++ places s b) (places-length s (if_then_else c a b)) h
  root_stands k s (succ e) h = last_stands k (inside (succ e)) s (succ e) (places s e) (places-length s (succ e)) h
  root_stands k s (pred e) h = last_stands k (inside (pred e)) s (pred e) (places s e) (places-length s (pred e)) h
  root_stands k s (is_zero e) h = last_stands k (inside (is_zero e)) s (is_zero e) (places s e) (places-length s (is_zero e)) h
  root_stands k s (lambda w e) h = last_stands k (inside (lambda w e)) s (lambda w e) (places (written w ∷ s) e) (places-length s (lambda w e)) h
  root_stands k s (apply f a) h = last_stands k (inside (apply f a)) s (apply f a) (places s f ++ places s a) (places-length s (apply f a)) h
  root_stands k s (ascribe e w) h = last_stands k (inside (ascribe e w)) s (ascribe e w) (places s e) (places-length s (ascribe e w)) h
  root_stands k s (let_in a b) h = last_stands k (inside (let_in a b)) s (let_in a b) (places s a ++ places (of_term a ∷ s) b) (places-length s (let_in a b)) h
  root_stands k s (record_term es) h = last_stands k (inside (record_term es)) s (record_term es) (field_places s es) (places-length s (record_term es)) h
  root_stands k s (project e l) h = last_stands k (inside (project e l)) s (project e l) (places s e) (places-length s (project e l)) h
  root_stands k s (fix e) h = last_stands k (inside (fix e)) s (fix e) (places s e) (places-length s (fix e)) h
  root_stands k s e h = last_stands k 0 s e [] refl h

  -- what a lambda and a let bind
  under_lambda : (k : ℕ) (s : Scope) (t : Sight) (w : Option Typ) (e : Term) → LeadsTo s t → Stand k (places s (lambda w e))
      → LeadsTo (written w ∷ s) (lambda_at (behind_term k e) ∷ t)
  under_lambda k s t w e seen h =
      let at : place_of_term k (lambda w e) ≡ behind_term k e = omega arith in
      let own = ap (place_numbered ss) (sym at) ∙ root_stands k s (lambda w e) h in
      ((λ i. ap (λ p. written (lambda_type p.here)) own i ∷ seen.0 i), ((e, own), seen.1))

  under_term : (k : ℕ) (s : Scope) (t : Sight) (e : Term) → LeadsTo s t → Stand k (places s e) → LeadsTo (of_term e ∷ s) (term_at (place_of_term k e) ∷ t)
  under_term k s t e seen h = let own = root_stands k s e h in ((λ i. ap (λ p. of_term p.here) own i ∷ seen.0 i), (own, seen.1))

  -- a term behind its parts
  with_own : (s : Scope) (t : Sight) (e : Term) (ps : List Place) (ts : List Sight) → LeadsTo s t → Along Leads ps ts → Along Leads (ps ++ record { scope = s; here = e } ∷ []) (ts ++ t ∷ [])
  with_own s t e ps ts seen parts = along_append Leads ps (record { scope = s; here = e } ∷ []) ts (t ∷ []) parts (seen, tt)

  mutual
    term_leads : (k : ℕ) (s : Scope) (t : Sight) (e : Term) → LeadsTo s t → Stand k (places s e) → Along Leads (places s e) (sights k t e)
    term_leads k s t (if_then_else c a b) seen h =
        let three = front k (places s c ++ places s a ++ places s b) (record { scope = s; here = if_then_else c a b } ∷ []) h in
        let two = front k (places s c ++ places s a) (places s b) three in
        let at_two = behind_term k c in
        let at_three = behind_term (behind_term k c) a in
        with_own s t (if_then_else c a b) (places s c ++ places s a ++ places s b) (sights k t c ++ sights at_two t a ++ sights at_three t b) seen
        (along_append Leads (places s c ++ places s a) (places s b) (sights k t c ++ sights at_two t a) (sights at_three t b)
        (along_append Leads (places s c) (places s a) (sights k t c) (sights at_two t a) (term_leads k s t c seen (front k (places s c) (places s a) two)) (term_leads at_two s t a seen (next k s c (places s a) two)))
        (term_leads at_three s t b seen (after_next k s c a (places s b) three)))
    term_leads k s t (succ e) seen h = with_own s t (succ e) (places s e) (sights k t e) seen (term_leads k s t e seen (front k (places s e) (record { scope = s; here = succ e } ∷ []) h))
    term_leads k s t (pred e) seen h = with_own s t (pred e) (places s e) (sights k t e) seen (term_leads k s t e seen (front k (places s e) (record { scope = s; here = pred e } ∷ []) h))
    term_leads k s t (is_zero e) seen h = with_own s t (is_zero e) (places s e) (sights k t e) seen (term_leads k s t e seen (front k (places s e) (record { scope = s; here = is_zero e } ∷ []) h))
    term_leads k s t (lambda w e) seen h =
        let inner = lambda_at (behind_term k e) ∷ t in
        with_own s t (lambda w e) (places (written w ∷ s) e) (sights k inner e) seen
        (term_leads k (written w ∷ s) inner e (under_lambda k s t w e seen h) (front k (places (written w ∷ s) e) (record { scope = s; here = lambda w e } ∷ []) h))
    term_leads k s t (apply f a) seen h =
        let two = front k (places s f ++ places s a) (record { scope = s; here = apply f a } ∷ []) h in
        with_own s t (apply f a) (places s f ++ places s a) (sights k t f ++ sights (behind_term k f) t a) seen
        (along_append Leads (places s f) (places s a) (sights k t f) (sights (behind_term k f) t a)
        (term_leads k s t f seen (front k (places s f) (places s a) two)) (term_leads (behind_term k f) s t a seen (next k s f (places s a) two)))
    term_leads k s t (ascribe e w) seen h = with_own s t (ascribe e w) (places s e) (sights k t e) seen (term_leads k s t e seen (front k (places s e) (record { scope = s; here = ascribe e w } ∷ []) h))
    term_leads k s t (let_in a b) seen h =
        let inner = term_at (place_of_term k a) ∷ t in
        let scope = of_term a ∷ s in
        let two = front k (places s a ++ places scope b) (record { scope = s; here = let_in a b } ∷ []) h in
        let first = front k (places s a) (places scope b) two in
        with_own s t (let_in a b) (places s a ++ places scope b) (sights k t a ++ sights (behind_term k a) inner b) seen
        (along_append Leads (places s a) (places scope b) (sights k t a) (sights (behind_term k a) inner b)
        (term_leads k s t a seen first) (term_leads (behind_term k a) scope inner b (under_term k s t a seen first) (next k s a (places scope b) two)))
    term_leads k s t (record_term es) seen h =
        with_own s t (record_term es) (field_places s es) (sights_in k t es) seen (fields_lead k s t es seen (front k (field_places s es) (record { scope = s; here = record_term es } ∷ []) h))
    term_leads k s t (project e l) seen h = with_own s t (project e l) (places s e) (sights k t e) seen (term_leads k s t e seen (front k (places s e) (record { scope = s; here = project e l } ∷ []) h))
    term_leads k s t (fix e) seen h = with_own s t (fix e) (places s e) (sights k t e) seen (term_leads k s t e seen (front k (places s e) (record { scope = s; here = fix e } ∷ []) h))
    term_leads k s t e seen h = (seen, tt)

    fields_lead : (k : ℕ) (s : Scope) (t : Sight) (es : TermFields) → LeadsTo s t → Stand k (field_places s es) → Along Leads (field_places s es) (sights_in k t es)
    fields_lead k s t no_terms seen h = tt
    fields_lead k s t (term_field l e es) seen h =
        along_append Leads (places s e) (field_places s es) (sights k t e) (sights_in (behind_term k e) t es)
        (term_leads k s t e seen (front k (places s e) (field_places s es) h)) (fields_lead (behind_term k e) s t es seen (next k s e (field_places s es) h))

  statements_lead : (k i : ℕ) (s : Scope) (t : Sight) (rest : List Statement) → LeadsTo s t → Stand k (places_of s rest) → Follow i rest → Along Leads (places_of s rest) (sights_of k i t rest)
  statements_lead k i s t [] seen h follow = tt
  statements_lead k i s t (defines e ∷ rest) seen h follow =
      let scope = of_term e ∷ s in
      let inner = term_at (place_of_term k e) ∷ t in
      let first = front k (places s e) (places_of scope rest) h in
      along_append Leads (places s e) (places_of scope rest) (sights k t e) (sights_of (behind_term k e) (i + 1) inner rest)
      (term_leads k s t e seen first)
      (statements_lead (behind_term k e) (i + 1) scope inner rest (under_term k s t e seen first) (next k s e (places_of scope rest) h) follow.2)
  statements_lead k i s t (declares w ∷ rest) seen h follow =
      statements_lead k (i + 1) (written w ∷ s) (Declaration i ∷ t) rest ((λ j. ap (λ st. written (declared_type st)) follow.1 j ∷ seen.0 j), (follow.1, seen.1)) h follow.2
  statements_lead k i s t (abbreviates w ∷ rest) seen h follow = statements_lead k (i + 1) s t rest seen h follow.2
  statements_lead k i s t (states e ∷ rest) seen h follow =
      along_append Leads (places s e) (places_of s rest) (sights k t e) (sights_of (behind_term k e) (i + 1) t rest)
      (term_leads k s t e seen (front k (places s e) (places_of s rest) h))
      (statements_lead (behind_term k e) (i + 1) s t rest seen (next k s e (places_of s rest) h) follow.2)

  numbered : (ps : List Place) (ts : List Sight) (n : ℕ) → Along Leads ps ts → Leads (get_or ps n (record { scope = []; here = unit_term })) (get_or ts n [])
  numbered [] [] n h = (refl, tt)
  numbered (p ∷ ps) (t ∷ ts) zero h = h.0
  numbered (p ∷ ps) (t ∷ ts) (suc n) h = numbered ps ts n h.1
  numbered [] (t ∷ ts) n h = absurd h
  numbered (p ∷ ps) [] n h = absurd h

  -- the origins and the scope of a place
  sight_leads : (n : ℕ) → Leads (place_numbered ss n) (sight_numbered ss n)
  sight_leads n = numbered (places_of [] ss) (sights_of 0 0 [] ss) n (statements_lead 0 0 [] [] ss (refl, tt) (stand_all (record { scope = []; here = unit_term }) (places_of [] ss)) (stand_all (abbreviates None) ss))

-- the binders that the table tells of a place

pub visible_names : (cs : List CommandTree) (n : ℕ) → map (λ b. (binder_numbered (table cs) b).name) (visible_at (table cs) n) ≡ reverse (term_of (tree_in (document_terms cs) n)).names
visible_names cs n =
    let bs = (table cs).binders in
    map-reverse (λ b. (binder_numbered (table cs) b).name) (seen_in bs (length bs) (place_row_numbered (table cs) n).inner) ∙ ap reverse (row_told cs n).names

pub visible_bindings : (cs : List CommandTree) (n : ℕ)
    → map (λ b. binding_from (statements [] [] cs) (binder_numbered (table cs) b).origin) (visible_at (table cs) n) ≡ reverse (place_numbered (statements [] [] cs) n).scope
visible_bindings cs n =
    let ss = statements [] [] cs in
    sym (map-map (binding_from ss) (λ b. (binder_numbered (table cs) b).origin) (visible_at (table cs) n))
    ∙ ap (map (binding_from ss)) (visible_origins cs n)
    ∙ map-reverse (binding_from ss) (sight_numbered ss n)
    ∙ ap reverse (sight_leads ss n).0

pub sight_origins : (cs : List CommandTree) (n : ℕ) → AreOriginsOf (statements [] [] cs) (sight_numbered (statements [] [] cs) n) (place_numbered (statements [] [] cs) n).scope
sight_origins cs n = (sight_leads (statements [] [] cs) n).1
