-- What each place of a document sees: its entries are the least ones, and its parts stand at their places.
use Rattle.std.proofs.Common.{◌≡◌, ℕ, ◌+◌, ◌<◌, ◌≤◌, List, [], ◌∷◌, ◌++◌, length, map, get_or, Option, None, ap, refl, sym, subst, ◌∙◌, arith, append_assoc, suc, zero}
use Rattle.std.proofs.lemmas.List.{length-append, get_or_at}
use Rattle.lam_rules.specs.Types.{Typ}
use Rattle.lam_rules.specs.Terms.{Term, true_term, false_term, if_then_else, numeral, succ, pred, is_zero, variable, free, lambda, apply, unit_term, ascribe, let_in, record_term, project, fix, TermFields, no_terms, term_field}
use Rattle.lam_rules.specs.Typing.{Context}
use Rattle.lam_rules.specs.declared.rules.Dialect.{Dialect}
use Rattle.lam_scope.specs.Places.{written, of_term, Scope, Place, places, field_places, places_of, Statement, defines, declares, abbreviates, states, place_numbered, statement_numbered}
use Rattle.lam_scope.specs.Sights.{Sight, inside, inside_fields, place_of_term, behind_term, lambda_at, term_at, sights, sights_in, sights_of, sight_numbered}
use Rattle.lam_scope.specs.WellFormed.{IsWellFormedTerm, AreWellFormedTerms, IsWellFormedScope, AreWellFormedStatements}
use Rattle.lam_scope.specs.declared.numbers.Origin.TheVariants.{Declaration}
use Rattle.lam_scope.proofs.PlaceCounts.{length-joined}
use Rattle.lam_typing.specs.LeastTypes.{IsLeastAt, AreLeastEntries}
use Rattle.lam_typing.specs.Entries.{entry_from}
use Rattle.lam_typing.specs.inner.Steps.{entry_at}
use Rattle.lam_typing.specs.inner.Notes.{Noted, note, notes, notes_in, notes_of}
use Rattle.lam_typing.specs.inner.Seeing.{place_among, note_among, LeastAmong, IsPlace, Sees, SeesFields}
use Rattle.lam_scope.specs.Bindings.{lambda_type, declared_type}

-- how many places and notes there are

-- a note for each place, which says what is written there
abbrev pub Paired : List Place → List Noted → Type 0
Paired [] [] = Unit {0}
Paired (p ∷ ps) (m ∷ ms) = (m.written ≡ lambda_type p.here) × Paired ps ms
Paired [] (m ∷ ms) = ⊥
Paired (p ∷ ps) [] = ⊥

paired_both : (ps qs : List Place) (ms os : List Noted) → Paired ps ms → Paired qs os → Paired (ps ++ qs) (ms ++ os)
paired_both [] qs [] os a b = b
paired_both (p ∷ ps) qs (m ∷ ms) os a b = (a.0, paired_both ps qs ms os a.1 b)
paired_both [] qs (m ∷ ms) os a b = absurd a
paired_both (p ∷ ps) qs [] os a b = absurd a

pub record Count (ps : List Place) (ms : List Noted) (n : ℕ) : Type 0 where
  pub of_places : length ps ≡ n
  pub of_notes : length ms ≡ n
  pub paired : Paired ps ms

counted_both : (ps qs : List Place) (ms os : List Noted) (a b n : ℕ) → a + b ≡ n → Count ps ms a → Count qs os b → Count (ps ++ qs) (ms ++ os) n
counted_both ps qs ms os a b n e p q = record {
  of_places = length-joined ps qs a b p.of_places q.of_places ∙ e;
  of_notes = length-joined ms os a b p.of_notes q.of_notes ∙ e;
  paired = paired_both ps qs ms os p.paired q.paired;
}

one_counted : (s : Scope) (g : Context) (e : Term) → Count (record { scope = s; here = e } ∷ []) (note g e ∷ []) 1
one_counted s g e = record { of_places = refl; of_notes = refl; paired = (refl, tt) }

mutual
  counted : (fs : List (Option Typ)) (k : ℕ) (s : Scope) (g : Context) (e : Term) → Count (places s e) (notes k fs g e) (inside e + 1)
  counted fs k s g (if_then_else c a b) =
      counted_both (places s c ++ places s a ++ places s b) _ (notes k fs g c ++ notes (behind_term k c) fs g a ++ notes (behind_term (behind_term k c) a) fs g b) _ (inside c + 1 + (inside a + 1) + (inside b + 1)) 1 _ (omega arith)
      (counted_both (places s c ++ places s a) (places s b) (notes k fs g c ++ notes (behind_term k c) fs g a) _ (inside c + 1 + (inside a + 1)) (inside b + 1) _ refl
      (counted_both (places s c) (places s a) (notes k fs g c) _ (inside c + 1) (inside a + 1) _ refl (counted fs k s g c) (counted fs (behind_term k c) s g a)) (counted fs (behind_term (behind_term k c) a) s g b))
      (one_counted s g (if_then_else c a b))
  counted fs k s g (succ e) = counted_both (places s e) _ (notes k fs g e) _ (inside e + 1) 1 _ refl (counted fs k s g e) (one_counted s g (succ e))
  counted fs k s g (pred e) = counted_both (places s e) _ (notes k fs g e) _ (inside e + 1) 1 _ refl (counted fs k s g e) (one_counted s g (pred e))
  counted fs k s g (is_zero e) = counted_both (places s e) _ (notes k fs g e) _ (inside e + 1) 1 _ refl (counted fs k s g e) (one_counted s g (is_zero e))
  counted fs k s g (lambda w e) = counted_both (places (written w ∷ s) e) _ (notes k fs (w ∷ g) e) _ (inside e + 1) 1 _ refl (counted fs k (written w ∷ s) (w ∷ g) e) (one_counted s g (lambda w e))
  counted fs k s g (apply f a) =
      counted_both (places s f ++ places s a) _ (notes k fs g f ++ notes (behind_term k f) fs g a) _ (inside f + 1 + (inside a + 1)) 1 _ (omega arith)
      (counted_both (places s f) (places s a) (notes k fs g f) _ (inside f + 1) (inside a + 1) _ refl (counted fs k s g f) (counted fs (behind_term k f) s g a))
      (one_counted s g (apply f a))
  counted fs k s g (ascribe e w) = counted_both (places s e) _ (notes k fs g e) _ (inside e + 1) 1 _ refl (counted fs k s g e) (one_counted s g (ascribe e w))
  counted fs k s g (let_in a b) =
      counted_both (places s a ++ places (of_term a ∷ s) b) _ (notes k fs g a ++ notes (behind_term k a) fs (get_or fs (place_of_term k a) None ∷ g) b) _ (inside a + 1 + (inside b + 1)) 1 _ (omega arith)
      (counted_both (places s a) (places (of_term a ∷ s) b) (notes k fs g a) _ (inside a + 1) (inside b + 1) _ refl (counted fs k s g a) (counted fs (behind_term k a) (of_term a ∷ s) (get_or fs (place_of_term k a) None ∷ g) b))
      (one_counted s g (let_in a b))
  counted fs k s g (record_term es) = counted_both (field_places s es) _ (notes_in k fs g es) _ (inside_fields es) 1 _ refl (counted_in fs k s g es) (one_counted s g (record_term es))
  counted fs k s g (project e l) = counted_both (places s e) _ (notes k fs g e) _ (inside e + 1) 1 _ refl (counted fs k s g e) (one_counted s g (project e l))
  counted fs k s g (fix e) = counted_both (places s e) _ (notes k fs g e) _ (inside e + 1) 1 _ refl (counted fs k s g e) (one_counted s g (fix e))
  counted fs k s g true_term = one_counted s g true_term
  counted fs k s g false_term = one_counted s g false_term
  counted fs k s g unit_term = one_counted s g unit_term
  counted fs k s g (numeral digits) = one_counted s g (numeral digits)
  counted fs k s g (variable n) = one_counted s g (variable n)
  counted fs k s g (free x) = one_counted s g (free x)

  counted_in : (fs : List (Option Typ)) (k : ℕ) (s : Scope) (g : Context) (es : TermFields) → Count (field_places s es) (notes_in k fs g es) (inside_fields es)
  counted_in fs k s g no_terms = record { of_places = refl; of_notes = refl; paired = tt }
  counted_in fs k s g (term_field l e es) = counted_both (places s e) (field_places s es) (notes k fs g e) _ (inside e + 1) (inside_fields es) _ refl (counted fs k s g e) (counted_in fs (behind_term k e) s g es)

-- places and notes that stand among all, the first of them at k

abbrev Stand : List Place → List Noted → ℕ → List Place → List Noted → Type 0
Stand all ns k [] [] = Unit {0}
Stand all ns k (p ∷ ps) (m ∷ ms) = (place_among all k ≡ p) × (note_among ns k ≡ m) × Stand all ns (k + 1) ps ms
Stand all ns k [] (m ∷ ms) = ⊥
Stand all ns k (p ∷ ps) [] = ⊥

split : (all : List Place) (ns : List Noted) (k : ℕ) (ps qs : List Place) (ms os : List Noted) (a m : ℕ) → Count ps ms a → k + a ≡ m → Stand all ns k (ps ++ qs) (ms ++ os)
    → Stand all ns k ps ms × Stand all ns m qs os
split all ns k [] qs [] os a m count e h = (tt, let f : k ≡ m = (let c = count.of_places in omega arith) in subst (λ j. Stand all ns j qs os) f h)
split all ns k (p ∷ ps) qs (n ∷ ms) os a m count e h =
    let c = count.of_places in
    let d = count.of_notes in
    let rest = split all ns (k + 1) ps qs ms os (length ps) m (record { of_places = refl; of_notes = omega (arith, c, d); paired = count.paired.1 }) (omega (arith, c, e)) h.2 in
    ((h.0, h.1, rest.0), rest.1)
split all ns k [] qs (n ∷ ms) os a m count e h = absurd (let c = count.of_places in let d = count.of_notes in omega arith)
split all ns k (p ∷ ps) qs [] os a m count e h = absurd (let c = count.of_places in let d = count.of_notes in omega arith)

module _ (all : List Place) (fs : List (Option Typ)) (ns : List Noted) where
  -- a term behind its parts
  parts_of : (k n : ℕ) (s : Scope) (e : Term) (m : Noted) (ps : List Place) (ms : List Noted) (a : ℕ) → Count ps ms a → k + a ≡ n
      → Stand all ns k (ps ++ record { scope = s; here = e } ∷ []) (ms ++ m ∷ []) → Stand all ns k ps ms × IsPlace all n s e
  parts_of k n s e m ps ms a count at h = let parts = split all ns k ps (record { scope = s; here = e } ∷ []) ms (m ∷ []) a n count at h in (parts.0, parts.1.0)

  at_zero : (k : ℕ) (s : Scope) (e : Term) → IsPlace all k s e → IsPlace all (k + 0) s e
  at_zero k s e h = let zero_more : k ≡ k + 0 = omega arith in subst (λ j. IsPlace all j s e) zero_more h

  mutual
    sees : (k : ℕ) (s : Scope) (g : Context) (e : Term) → Stand all ns k (places s e) (notes k fs g e) → Sees all fs ns k s g e
    sees k s g (if_then_else c a b) h =
        let cc_ = counted fs k s g c in
        let ca = counted fs (behind_term k c) s g a in
        let cb = counted fs (behind_term (behind_term k c) a) s g b in
        let two = counted_both (places s c) (places s a) (notes k fs g c) _ (inside c + 1) (inside a + 1) _ refl cc_ ca in
        let three = counted_both (places s c ++ places s a) (places s b) (notes k fs g c ++ notes (behind_term k c) fs g a) _ (inside c + 1 + (inside a + 1)) (inside b + 1) _ refl two cb in
        let whole = parts_of k (place_of_term k (if_then_else c a b)) s (if_then_else c a b) _ (places s c ++ places s a ++ places s b) (notes k fs g c ++ notes (behind_term k c) fs g a ++ notes (behind_term (behind_term k c) a) fs g b) _ three (omega arith) h in
        let third = split all ns k (places s c ++ places s a) (places s b) (notes k fs g c ++ notes (behind_term k c) fs g a) _ _ (behind_term (behind_term k c) a) two (omega arith) whole.0 in
        let second = split all ns k (places s c) (places s a) (notes k fs g c) _ _ (behind_term k c) cc_ (omega arith) third.0 in
        (whole.1, sees k s g c second.0, sees (behind_term k c) s g a second.1, sees (behind_term (behind_term k c) a) s g b third.1)
    sees k s g (succ e) h = let whole = parts_of k (place_of_term k (succ e)) s (succ e) _ (places s e) (notes k fs g e) _ (counted fs k s g e) refl h in (whole.1, sees k s g e whole.0)
    sees k s g (pred e) h = let whole = parts_of k (place_of_term k (pred e)) s (pred e) _ (places s e) (notes k fs g e) _ (counted fs k s g e) refl h in (whole.1, sees k s g e whole.0)
    sees k s g (is_zero e) h = let whole = parts_of k (place_of_term k (is_zero e)) s (is_zero e) _ (places s e) (notes k fs g e) _ (counted fs k s g e) refl h in (whole.1, sees k s g e whole.0)
    sees k s g (lambda w e) h =
        let whole = parts_of k (place_of_term k (lambda w e)) s (lambda w e) _ (places (written w ∷ s) e) (notes k fs (w ∷ g) e) _ (counted fs k (written w ∷ s) (w ∷ g) e) refl h in
        (whole.1, sees k (written w ∷ s) (w ∷ g) e whole.0)
    sees k s g (apply f a) h =
        let cf = counted fs k s g f in
        let two = counted_both (places s f) (places s a) (notes k fs g f) _ (inside f + 1) (inside a + 1) _ refl cf (counted fs (behind_term k f) s g a) in
        let whole = parts_of k (place_of_term k (apply f a)) s (apply f a) _ (places s f ++ places s a) (notes k fs g f ++ notes (behind_term k f) fs g a) _ two (omega arith) h in
        let second = split all ns k (places s f) (places s a) (notes k fs g f) _ _ (behind_term k f) cf (omega arith) whole.0 in
        (whole.1, sees k s g f second.0, sees (behind_term k f) s g a second.1)
    sees k s g (ascribe e w) h = let whole = parts_of k (place_of_term k (ascribe e w)) s (ascribe e w) _ (places s e) (notes k fs g e) _ (counted fs k s g e) refl h in (whole.1, sees k s g e whole.0)
    sees k s g (let_in a b) h =
        let x = get_or fs (place_of_term k a) None in
        let ca = counted fs k s g a in
        let two = counted_both (places s a) (places (of_term a ∷ s) b) (notes k fs g a) _ (inside a + 1) (inside b + 1) _ refl ca (counted fs (behind_term k a) (of_term a ∷ s) (x ∷ g) b) in
        let whole = parts_of k (place_of_term k (let_in a b)) s (let_in a b) _ (places s a ++ places (of_term a ∷ s) b) (notes k fs g a ++ notes (behind_term k a) fs (x ∷ g) b) _ two (omega arith) h in
        let second = split all ns k (places s a) (places (of_term a ∷ s) b) (notes k fs g a) _ _ (behind_term k a) ca (omega arith) whole.0 in
        (whole.1, sees k s g a second.0, sees (behind_term k a) (of_term a ∷ s) (x ∷ g) b second.1)
    sees k s g (record_term es) h =
        let whole = parts_of k (place_of_term k (record_term es)) s (record_term es) _ (field_places s es) (notes_in k fs g es) _ (counted_in fs k s g es) refl h in
        (whole.1, sees_fields k s g es whole.0)
    sees k s g (project e l) h = let whole = parts_of k (place_of_term k (project e l)) s (project e l) _ (places s e) (notes k fs g e) _ (counted fs k s g e) refl h in (whole.1, sees k s g e whole.0)
    sees k s g (fix e) h = let whole = parts_of k (place_of_term k (fix e)) s (fix e) _ (places s e) (notes k fs g e) _ (counted fs k s g e) refl h in (whole.1, sees k s g e whole.0)
    sees k s g true_term h = (at_zero k s true_term h.0, tt)
    sees k s g false_term h = (at_zero k s false_term h.0, tt)
    sees k s g unit_term h = (at_zero k s unit_term h.0, tt)
    sees k s g (numeral digits) h = (at_zero k s (numeral digits) h.0, tt)
    sees k s g (variable n) h =
        let zero_more : k ≡ k + 0 = omega arith in
        (at_zero k s (variable n) h.0, subst (λ j. (note_among ns j).bound ≡ entry_at n g) zero_more (ap (λ m. m.bound) h.1))
    sees k s g (free x) h = (at_zero k s (free x) h.0, tt)

    sees_fields : (k : ℕ) (s : Scope) (g : Context) (es : TermFields) → Stand all ns k (field_places s es) (notes_in k fs g es) → SeesFields all fs ns k s g es
    sees_fields k s g no_terms h = tt
    sees_fields k s g (term_field l e es) h =
        let both = split all ns k (places s e) (field_places s es) (notes k fs g e) _ _ (behind_term k e) (counted fs k s g e) (omega arith) h in
        (sees k s g e both.0, sees_fields (behind_term k e) s g es both.1)

-- statements

counted_of : (fs : List (Option Typ)) (k : ℕ) (s : Scope) (g : Context) (ss : List Statement) → Count (places_of s ss) (notes_of k fs g ss) (length (places_of s ss))
counted_of fs k s g [] = record { of_places = refl; of_notes = refl; paired = tt }
counted_of fs k s g (defines e ∷ rest) =
    let x = get_or fs (place_of_term k e) None in
    counted_both (places s e) (places_of (of_term e ∷ s) rest) (notes k fs g e) _ (inside e + 1) _ _ (sym (length-append (places s e) (places_of (of_term e ∷ s) rest) ∙ ap (λ n. n + length (places_of (of_term e ∷ s) rest)) (counted fs k s g e).of_places))
    (counted fs k s g e) (counted_of fs (behind_term k e) (of_term e ∷ s) (x ∷ g) rest)
counted_of fs k s g (declares w ∷ rest) = counted_of fs k (written w ∷ s) (w ∷ g) rest
counted_of fs k s g (abbreviates w ∷ rest) = counted_of fs k s g rest
counted_of fs k s g (states e ∷ rest) =
    counted_both (places s e) (places_of s rest) (notes k fs g e) _ (inside e + 1) _ _ (sym (length-append (places s e) (places_of s rest) ∙ ap (λ n. n + length (places_of s rest)) (counted fs k s g e).of_places))
    (counted fs k s g e) (counted_of fs (behind_term k e) s g rest)

-- what stands at the beginning

stand_behind : (before : List Place) (noted_before : List Noted) (ps : List Place) (ms : List Noted) (k : ℕ) → k ≡ length before → k ≡ length noted_before → Paired ps ms
    → Stand (before ++ ps) (noted_before ++ ms) k ps ms
stand_behind before noted_before [] [] k e f paired = tt
stand_behind before noted_before (p ∷ ps) (m ∷ ms) k e f paired =
    let one = length-append before (p ∷ []) in
    let two = length-append noted_before (m ∷ []) in
    let rest = stand_behind (before ++ p ∷ []) (noted_before ++ m ∷ []) ps ms (k + 1) (omega (arith, e, one)) (omega (arith, f, two)) paired.1 in
    (get_or_at before p ps _ k (sym e), get_or_at noted_before m ms _ k (sym f), subst (λ xs. Stand xs (noted_before ++ m ∷ ms) (k + 1) ps ms) (append_assoc before (p ∷ []) ps) (subst (λ ys. Stand ((before ++ p ∷ []) ++ ps) ys (k + 1) ps ms) (append_assoc noted_before (m ∷ []) ms) rest))
stand_behind before noted_before [] (m ∷ ms) k e f paired = absurd paired
stand_behind before noted_before (p ∷ ps) [] k e f paired = absurd paired

-- what is written, by number

pub written_at : (ps : List Place) (ms : List Noted) (k : ℕ) → Paired ps ms → (note_among ms k).written ≡ lambda_type (place_among ps k).here
written_at [] [] k paired = refl
written_at (p ∷ ps) (m ∷ ms) zero paired = paired.0
written_at (p ∷ ps) (m ∷ ms) (suc k) paired = written_at ps ms k paired.1
written_at [] (m ∷ ms) k paired = absurd paired
written_at (p ∷ ps) [] k paired = absurd paired

pub written_noted : (fs : List (Option Typ)) (ss : List Statement) (k : ℕ) → (note_among (notes_of 0 fs [] ss) k).written ≡ lambda_type (place_numbered ss k).here
written_noted fs ss k = written_at (places_of [] ss) (notes_of 0 fs [] ss) k (counted_of fs 0 [] [] ss).paired

-- what a place sees: of its binders the least entries, and its parts at their places
pub record Seen (ss : List Statement) (fs : List (Option Typ)) (ns : List Noted) (d : Dialect) (n : ℕ) (p : Place) (t : Sight) : Type 0 where
  pub first : ℕ
  pub is : n ≡ place_of_term first p.here
  pub wf : IsWellFormedScope p.scope
  pub entries : n < length fs → AreLeastEntries p.scope (map (entry_from ss fs) t) d
  pub sees : Sees (places_of [] ss) fs ns first p.scope (map (entry_from ss fs) t) p.here

abbrev AllSeen : List Statement → List (Option Typ) → List Noted → Dialect → ℕ → List Place → List Sight → Type 0
AllSeen ss fs ns d n [] [] = Unit {0}
AllSeen ss fs ns d n (p ∷ ps) (t ∷ ts) = Seen ss fs ns d n p t × AllSeen ss fs ns d (n + 1) ps ts
AllSeen ss fs ns d n [] (t ∷ ts) = ⊥
AllSeen ss fs ns d n (p ∷ ps) [] = ⊥

seen_both : (ss : List Statement) (fs : List (Option Typ)) (ns : List Noted) (d : Dialect) (n m : ℕ) (ps qs : List Place) (ts us : List Sight) → n + length ps ≡ m
    → AllSeen ss fs ns d n ps ts → AllSeen ss fs ns d m qs us → AllSeen ss fs ns d n (ps ++ qs) (ts ++ us)
seen_both ss fs ns d n m [] qs [] us e a b = let f : m ≡ n = omega (arith, e) in subst (λ k. AllSeen ss fs ns d k qs us) f b
seen_both ss fs ns d n m (p ∷ ps) qs (t ∷ ts) us e a b = (a.0, seen_both ss fs ns d (n + 1) m ps qs ts us (omega (arith, e)) a.1 b)
seen_both ss fs ns d n m [] qs (t ∷ ts) us e a b = absurd a
seen_both ss fs ns d n m (p ∷ ps) qs [] us e a b = absurd a

-- its own place
own_place : (all : List Place) (fs : List (Option Typ)) (ns : List Noted) (k : ℕ) (s : Scope) (g : Context) (e : Term) → Sees all fs ns k s g e → IsPlace all (place_of_term k e) s e
own_place all fs ns k s g (if_then_else c a b) h = h.0
own_place all fs ns k s g (succ e) h = h.0
own_place all fs ns k s g (pred e) h = h.0
own_place all fs ns k s g (is_zero e) h = h.0
own_place all fs ns k s g (variable n) h = h.0
own_place all fs ns k s g (lambda w e) h = h.0
own_place all fs ns k s g (apply f a) h = h.0
own_place all fs ns k s g (ascribe e w) h = h.0
own_place all fs ns k s g (let_in a b) h = h.0
own_place all fs ns k s g (record_term es) h = h.0
own_place all fs ns k s g (project e l) h = h.0
own_place all fs ns k s g (fix e) h = h.0
own_place all fs ns k s g true_term h = h.0
own_place all fs ns k s g false_term h = h.0
own_place all fs ns k s g (numeral digits) h = h.0
own_place all fs ns k s g (free x) h = h.0
own_place all fs ns k s g unit_term h = h.0

pub found_least : (all : List Place) (fs : List (Option Typ)) (d : Dialect) (n : ℕ) (s : Scope) (e : Term) → LeastAmong all fs d → IsPlace all n s e → n < length fs → IsLeastAt s e (get_or fs n None) d
found_least all fs d n s e least is lt = subst (λ p. IsLeastAt p.scope p.here (get_or fs n None) d) is (least n lt)

pub own_least : (all : List Place) (fs : List (Option Typ)) (ns : List Noted) (d : Dialect) (k : ℕ) (s : Scope) (g : Context) (e : Term)
    → LeastAmong all fs d → Sees all fs ns k s g e → place_of_term k e < length fs → IsLeastAt s e (get_or fs (place_of_term k e) None) d
own_least all fs ns d k s g e least sees lt = found_least all fs d (place_of_term k e) s e least (own_place all fs ns k s g e sees) lt

module _ (ss : List Statement) (fs : List (Option Typ)) (ns : List Noted) (d : Dialect) (least : LeastAmong (places_of [] ss) fs d) where
  -- a context of the entries of a sight, whatever is analysed of the places from k on
  Entries : ℕ → Scope → Sight → Type 0
  Entries k s t = k < length fs → AreLeastEntries s (map (entry_from ss fs) t) d

  own : (k : ℕ) (s : Scope) (t : Sight) (e : Term) (ps : List Place) (ts : List Sight) → IsWellFormedScope s → Entries k s t → Sees (places_of [] ss) fs ns k s (map (entry_from ss fs) t) e
      → k + length ps ≡ place_of_term k e → AllSeen ss fs ns d k ps ts → AllSeen ss fs ns d k (ps ++ record { scope = s; here = e } ∷ []) (ts ++ t ∷ [])
  unfolding Entries
  own k s t e ps ts wf entries sees at parts =
      seen_both ss fs ns d k (place_of_term k e) ps (record { scope = s; here = e } ∷ []) ts (t ∷ []) at parts
      (record { first = k; is = refl; wf = wf; entries = (λ lt. entries (omega arith)); sees = sees }, tt)

  later : (k m : ℕ) (s : Scope) (t : Sight) → k ≤ m → Entries k s t → Entries m s t
  unfolding Entries
  later k m s t le entries = λ lt. entries (omega arith)

  under_lambda : (k : ℕ) (s : Scope) (t : Sight) (w : Option Typ) (e : Term) → IsPlace (places_of [] ss) (behind_term k e) s (lambda w e) → Entries k s t → Entries k (written w ∷ s) (lambda_at (behind_term k e) ∷ t)
  unfolding Entries
  under_lambda k s t w e is entries = λ lt. (ap (λ p. lambda_type p.here) is, entries lt)

  under_term : (k : ℕ) (s : Scope) (t : Sight) (a : Term) → Sees (places_of [] ss) fs ns k s (map (entry_from ss fs) t) a → Entries k s t → Entries (behind_term k a) (of_term a ∷ s) (term_at (place_of_term k a) ∷ t)
  unfolding Entries
  under_term k s t a sees entries = λ lt. (own_least (places_of [] ss) fs ns d k s (map (entry_from ss fs) t) a least sees (omega arith), entries (omega arith))

  places_count : (k : ℕ) (s : Scope) (e : Term) → length (places s e) ≡ inside e + 1
  places_count k s e = (counted fs k s [] e).of_places

  mutual
    seen : (k : ℕ) (s : Scope) (t : Sight) (e : Term) → IsWellFormedScope s → IsWellFormedTerm e → Entries k s t → Sees (places_of [] ss) fs ns k s (map (entry_from ss fs) t) e
        → AllSeen ss fs ns d k (places s e) (sights k t e)
    seen k s t (if_then_else c a b) ws we entries sees =
        let lc = places_count k s c in
        let la = places_count k s a in
        let lb = places_count k s b in
        let two = length-append (places s c) (places s a) in
        let three = length-append (places s c ++ places s a) (places s b) in
        own k s t (if_then_else c a b) (places s c ++ places s a ++ places s b) _ ws entries sees (omega (arith, lc, la, lb, two, three))
        (seen_both ss fs ns d k (behind_term (behind_term k c) a) (places s c ++ places s a) (places s b) _ _ (omega (arith, lc, la, two))
        (seen_both ss fs ns d k (behind_term k c) (places s c) (places s a) _ _ (omega (arith, lc)) (seen k s t c ws we.0 entries sees.1) (seen (behind_term k c) s t a ws we.1 (later k _ s t (omega arith) entries) sees.2))
        (seen (behind_term (behind_term k c) a) s t b ws we.2 (later k _ s t (omega arith) entries) sees.3))
    seen k s t (succ e) ws we entries sees = let l = places_count k s e in own k s t (succ e) (places s e) _ ws entries sees (omega (arith, l)) (seen k s t e ws we entries sees.1)
    seen k s t (pred e) ws we entries sees = let l = places_count k s e in own k s t (pred e) (places s e) _ ws entries sees (omega (arith, l)) (seen k s t e ws we entries sees.1)
    seen k s t (is_zero e) ws we entries sees = let l = places_count k s e in own k s t (is_zero e) (places s e) _ ws entries sees (omega (arith, l)) (seen k s t e ws we entries sees.1)
    seen k s t (lambda w e) ws we entries sees =
        let l = places_count k (written w ∷ s) e in
        let at : place_of_term k (lambda w e) ≡ behind_term k e = omega arith in
        let is : IsPlace (places_of [] ss) (behind_term k e) s (lambda w e) = subst (λ n. IsPlace (places_of [] ss) n s (lambda w e)) at sees.0 in
        own k s t (lambda w e) (places (written w ∷ s) e) _ ws entries sees (omega (arith, l))
        (seen k (written w ∷ s) (lambda_at (behind_term k e) ∷ t) e (we.0, ws) we.1 (under_lambda k s t w e is entries)
        (subst (λ x. Sees (places_of [] ss) fs ns k (written w ∷ s) (x ∷ map (entry_from ss fs) t) e) (sym (ap (λ p. lambda_type p.here) is)) sees.1))
    seen k s t (apply f a) ws we entries sees =
        let lf = places_count k s f in
        let la = places_count k s a in
        let two = length-append (places s f) (places s a) in
        own k s t (apply f a) (places s f ++ places s a) _ ws entries sees (omega (arith, lf, la, two))
        (seen_both ss fs ns d k (behind_term k f) (places s f) (places s a) _ _ (omega (arith, lf)) (seen k s t f ws we.0 entries sees.1) (seen (behind_term k f) s t a ws we.1 (later k _ s t (omega arith) entries) sees.2))
    seen k s t (ascribe e w) ws we entries sees = let l = places_count k s e in own k s t (ascribe e w) (places s e) _ ws entries sees (omega (arith, l)) (seen k s t e ws we.0 entries sees.1)
    seen k s t (let_in a b) ws we entries sees =
        let la = places_count k s a in
        let lb = places_count k (of_term a ∷ s) b in
        let two = length-append (places s a) (places (of_term a ∷ s) b) in
        own k s t (let_in a b) (places s a ++ places (of_term a ∷ s) b) _ ws entries sees (omega (arith, la, lb, two))
        (seen_both ss fs ns d k (behind_term k a) (places s a) (places (of_term a ∷ s) b) _ _ (omega (arith, la)) (seen k s t a ws we.0 entries sees.1)
        (seen (behind_term k a) (of_term a ∷ s) (term_at (place_of_term k a) ∷ t) b (we.0, ws) we.1 (under_term k s t a sees.1 entries) sees.2))
    seen k s t (record_term es) ws we entries sees =
        let l = (counted_in fs k s [] es).of_places in
        own k s t (record_term es) (field_places s es) _ ws entries sees (omega (arith, l)) (seen_in k s t es ws we entries sees.1)
    seen k s t (project e l) ws we entries sees = let n = places_count k s e in own k s t (project e l) (places s e) _ ws entries sees (omega (arith, n)) (seen k s t e ws we entries sees.1)
    seen k s t (fix e) ws we entries sees = let l = places_count k s e in own k s t (fix e) (places s e) _ ws entries sees (omega (arith, l)) (seen k s t e ws we entries sees.1)
    seen k s t true_term ws we entries sees = own k s t true_term [] [] ws entries sees refl tt
    seen k s t false_term ws we entries sees = own k s t false_term [] [] ws entries sees refl tt
    seen k s t unit_term ws we entries sees = own k s t unit_term [] [] ws entries sees refl tt
    seen k s t (numeral digits) ws we entries sees = own k s t (numeral digits) [] [] ws entries sees refl tt
    seen k s t (variable n) ws we entries sees = own k s t (variable n) [] [] ws entries sees refl tt
    seen k s t (free x) ws we entries sees = own k s t (free x) [] [] ws entries sees refl tt

    seen_in : (k : ℕ) (s : Scope) (t : Sight) (es : TermFields) → IsWellFormedScope s → AreWellFormedTerms es → Entries k s t → SeesFields (places_of [] ss) fs ns k s (map (entry_from ss fs) t) es
        → AllSeen ss fs ns d k (field_places s es) (sights_in k t es)
    seen_in k s t no_terms ws we entries sees = tt
    seen_in k s t (term_field l e es) ws we entries sees =
        let n = places_count k s e in
        seen_both ss fs ns d k (behind_term k e) (places s e) (field_places s es) _ _ (omega (arith, n)) (seen k s t e ws we.0 entries sees.0) (seen_in (behind_term k e) s t es ws we.1 (later k _ s t (omega arith) entries) sees.1)

  -- the statements from number i on, the first place of which is k
  Follow : ℕ → List Statement → Type 0
  Follow i rest = (j : ℕ) → j < length rest → statement_numbered ss (i + j) ≡ get_or rest j (abbreviates None)

  follow_more : (i : ℕ) (st : Statement) (rest : List Statement) → Follow i (st ∷ rest) → Follow (i + 1) rest
  unfolding Follow
  follow_more i st rest follow j lt =
      let at : i + suc j ≡ i + 1 + j = omega arith in
      subst (λ n. statement_numbered ss n ≡ get_or rest j (abbreviates None)) at (follow (suc j) (omega arith))

  follow_first : (i : ℕ) (st : Statement) (rest : List Statement) → Follow i (st ∷ rest) → statement_numbered ss i ≡ st
  unfolding Follow
  follow_first i st rest follow = let at : i + 0 ≡ i = omega arith in subst (λ n. statement_numbered ss n ≡ st) at (follow 0 (omega arith))

  under_declared : (k i : ℕ) (s : Scope) (t : Sight) (w : Option Typ) → declared_type (statement_numbered ss i) ≡ w → Entries k s t → Entries k (written w ∷ s) (Declaration i ∷ t)
  unfolding Entries
  under_declared k i s t w is entries = λ lt. (is, entries lt)

  seen_of : (k i : ℕ) (s : Scope) (t : Sight) (rest : List Statement) → IsWellFormedScope s → AreWellFormedStatements rest → Entries k s t → Follow i rest
      → Stand (places_of [] ss) ns k (places_of s rest) (notes_of k fs (map (entry_from ss fs) t) rest) → AllSeen ss fs ns d k (places_of s rest) (sights_of k i t rest)
  seen_of k i s t [] ws we entries follow stand = tt
  seen_of k i s t (defines e ∷ rest) ws we entries follow stand =
      let g = map (entry_from ss fs) t in
      let l = places_count k s e in
      let both = split (places_of [] ss) ns k (places s e) (places_of (of_term e ∷ s) rest) (notes k fs g e) _ _ (behind_term k e) (counted fs k s g e) (omega arith) stand in
      let here = sees (places_of [] ss) fs ns k s g e both.0 in
      seen_both ss fs ns d k (behind_term k e) (places s e) (places_of (of_term e ∷ s) rest) _ _ (omega (arith, l)) (seen k s t e ws we.0 entries here)
      (seen_of (behind_term k e) (i + 1) (of_term e ∷ s) (term_at (place_of_term k e) ∷ t) rest (we.0, ws) we.1 (under_term k s t e here entries) (follow_more i _ rest follow) both.1)
  seen_of k i s t (declares w ∷ rest) ws we entries follow stand =
      let is : declared_type (statement_numbered ss i) ≡ w = ap declared_type (follow_first i _ rest follow) in
      seen_of k (i + 1) (written w ∷ s) (Declaration i ∷ t) rest (we.0, ws) we.1 (under_declared k i s t w is entries) (follow_more i _ rest follow)
      (subst (λ x. Stand (places_of [] ss) ns k (places_of (written w ∷ s) rest) (notes_of k fs (x ∷ map (entry_from ss fs) t) rest)) (sym is) stand)
  seen_of k i s t (abbreviates w ∷ rest) ws we entries follow stand = seen_of k (i + 1) s t rest ws we.1 entries (follow_more i _ rest follow) stand
  seen_of k i s t (states e ∷ rest) ws we entries follow stand =
      let g = map (entry_from ss fs) t in
      let l = places_count k s e in
      let both = split (places_of [] ss) ns k (places s e) (places_of s rest) (notes k fs g e) _ _ (behind_term k e) (counted fs k s g e) (omega arith) stand in
      let here = sees (places_of [] ss) fs ns k s g e both.0 in
      seen_both ss fs ns d k (behind_term k e) (places s e) (places_of s rest) _ _ (omega (arith, l)) (seen k s t e ws we.0 entries here)
      (seen_of (behind_term k e) (i + 1) s t rest ws we.1 (later k _ s t (omega arith) entries) (follow_more i _ rest follow) both.1)

  all_seen : AreWellFormedStatements ss → ns ≡ notes_of 0 fs [] ss → AllSeen ss fs ns d 0 (places_of [] ss) (sights_of 0 0 [] ss)
  unfolding Entries Follow
  all_seen wf is = seen_of 0 0 [] [] ss tt wf (λ lt. tt) (λ j lt. let e : j ≡ 0 + j = omega arith in subst (λ n. statement_numbered ss n ≡ get_or ss j (abbreviates None)) e refl)
      (subst (λ ms. Stand (places_of [] ss) ms 0 (places_of [] ss) (notes_of 0 fs [] ss)) (sym is) (stand_behind [] [] (places_of [] ss) (notes_of 0 fs [] ss) 0 refl refl (counted_of fs 0 [] [] ss).paired))

number_seen : (ss : List Statement) (fs : List (Option Typ)) (ns : List Noted) (d : Dialect) (n m : ℕ) (ps : List Place) (ts : List Sight) → AllSeen ss fs ns d n ps ts → m < length ps
    → Seen ss fs ns d (n + m) (place_among ps m) (get_or ts m [])
number_seen ss fs ns d n m [] [] all lt = absurd (omega arith)
number_seen ss fs ns d n zero (p ∷ ps) (t ∷ ts) all lt = let e : n ≡ n + 0 = omega arith in subst (λ k. Seen ss fs ns d k p t) e all.0
number_seen ss fs ns d n (suc m) (p ∷ ps) (t ∷ ts) all lt = let e : n + 1 + m ≡ n + suc m = omega arith in subst (λ k. Seen ss fs ns d k (place_among ps m) (get_or ts m [])) e (number_seen ss fs ns d (n + 1) m ps ts all.1 (omega arith))
number_seen ss fs ns d n m [] (t ∷ ts) all lt = absurd all
number_seen ss fs ns d n m (p ∷ ps) [] all lt = absurd all

-- each place of a document
pub place_seen : (ss : List Statement) (fs : List (Option Typ)) (ns : List Noted) (d : Dialect) (n : ℕ) → LeastAmong (places_of [] ss) fs d → AreWellFormedStatements ss → ns ≡ notes_of 0 fs [] ss
    → n < length (places_of [] ss) → Seen ss fs ns d n (place_numbered ss n) (sight_numbered ss n)
place_seen ss fs ns d n least wf is lt = let e : 0 + n ≡ n = omega arith in subst (λ m. Seen ss fs ns d m (place_numbered ss n) (sight_numbered ss n)) e (number_seen ss fs ns d 0 n (places_of [] ss) (sights_of 0 0 [] ss) (all_seen ss fs ns d least wf is) lt)
