-- From a proof for the term of a place to what is promised of it: the place sees the binders of the context, and their entries are the least ones.
use Rattle.std.proofs.Common.{◌≡◌, ℕ, ◌+◌, ◌<◌, ◌≤◌, List, [], ◌∷◌, length, get_or, take, Option, Some, None, IfSome, IfNone, ap, refl, sym, subst, ◌∙◌, arith, zero, suc}
use Rattle.lam_rules.specs.Types.{Typ}
use Rattle.lam_rules.specs.Terms.{Term}
use Rattle.lam_rules.specs.Typing.{Context, TypingTree, IsTyping}
use Rattle.lam_rules.specs.declared.rules.Dialect.{Dialect}
use Rattle.lam_scope.specs.Places.{written, of_term, Scope, Place, Statement, places_of, place_numbered}
use Rattle.lam_scope.specs.Sights.{inside, place_of_term, sight_numbered}
use Rattle.lam_scope.specs.WellFormed.{IsWellFormedScope, AreWellFormedStatements}
use Rattle.lam_typing.specs.Progress.{IsLowest}
use Rattle.lam_typing.specs.inner.Seeing.{Sees}
use Rattle.lam_typing.specs.inner.Notes.{notes_of}
use Rattle.lam_typing.specs.inner.Grounds.{found_in, dialect_in, noted_in}
use Rattle.lam_typing.specs.Typings.{found_of, dialect_of, IsTypingOf, context_at, IsProofAt}
use Rattle.lam_typing.specs.inner.Proving.{ProvesFound, IsProvenTerm}
use Rattle.lam_typing.specs.declared.typing.Typing.{Typing}
use Rattle.lam_typing.specs.declared.grounds.Grounds.{Grounds}
use Rattle.lam_typing.proofs.Completing.{least_among}
use Rattle.lam_typing.proofs.Growing.{length-answers}
use Rattle.lam_typing.proofs.LeastIn.{lowest, lowest_written, lowest_some, lowest_none, least_in}
use Rattle.lam_typing.proofs.Sighted.{Seen, place_seen}
use Rattle.lam_typing.proofs.Together.{least_length}
use Rattle.lam_typing.specs.LeastTypes.{AreLeastEntries}

-- a context of least entries is the lowest
pub entries_lowest : (s : Scope) (g : Context) (d : Dialect) → IsWellFormedScope s → AreLeastEntries s g d → IsLowest s g d
entries_lowest [] [] d wf least = lowest [] [] d tt tt
entries_lowest (written w ∷ outside) (entry ∷ g) d wf least = lowest_written w outside entry g d wf.0 least.0 (entries_lowest outside g d wf.1 least.1)
entries_lowest (of_term e ∷ outside) (Some t ∷ g) d wf least =
    let low = entries_lowest outside g d wf.1 least.1 in
    lowest_some e outside t g d (least_in outside g e (Some t) d low least.0) low
entries_lowest (of_term e ∷ outside) (None ∷ g) d wf least =
    let low = entries_lowest outside g d wf.1 least.1 in
    lowest_none e outside g d (least_in outside g e None d low least.0) low
entries_lowest [] (entry ∷ g) d wf least = absurd least
entries_lowest (b ∷ outside) [] d wf least = absurd least

taken_shorter : (ps : List Place) (n : ℕ) → length (take n ps) ≤ length ps
taken_shorter ps zero = omega arith
taken_shorter [] (suc n) = omega arith
taken_shorter (p ∷ ps) (suc n) = let le = taken_shorter ps n in omega arith

-- each place that was analysed is one of the document
pub place_within : (ss : List Statement) (t : Typing) (n : ℕ) → IsTypingOf ss t → n < length t.found.items → n < length (places_of [] ss)
place_within ss t n typing lt =
    let same = least_length (take (length (found_of t)) (places_of [] ss)) (found_of t) (dialect_of t) typing.least in
    let count = length-answers t.table t.found.items in
    let le = taken_shorter (places_of [] ss) (length (found_of t)) in
    omega arith

found_proof : (o : Option TypingTree) (x : Option Typ) (ss : List Statement) (t : Typing) (n : ℕ) (e : Term) → e ≡ (place_numbered ss n).here → get_or (found_of t) n None ≡ x
    → AreLeastEntries (place_numbered ss n).scope (context_at ss t n) (dialect_of t) → ProvesFound o x (context_at ss t n) e (dialect_of t)
    → IfSome o (λ p. IsProofAt ss t n p) × IfNone o (get_or (found_of t) n None ≡ None)
found_proof (Some p) (Some u) ss t n e is found least proves =
    (record { least = least; proof = subst (λ x. IsTyping (context_at ss t n) x p (dialect_of t)) is proves.0; type = found ∙ ap Some (sym proves.1) }, tt)
found_proof None None ss t n e is found least proves = (tt, found)
found_proof (Some p) None ss t n e is found least proves = absurd proves
found_proof None (Some u) ss t n e is found least proves = absurd proves

module _ (ss : List Statement) (wf : AreWellFormedStatements ss) (t : Grounds) (typing : IsTypingOf ss t.typing.now) (noted : noted_in t ≡ notes_of 0 (found_in t) [] ss) where
  seen_at : (n : ℕ) → n < length t.typing.now.found.items → Seen ss (found_in t) (noted_in t) (dialect_in t) n (place_numbered ss n) (sight_numbered ss n)
  seen_at n lt =
      place_seen ss (found_in t) (noted_in t) (dialect_in t) n (least_among (places_of [] ss) (found_in t) (dialect_in t) typing.least) wf noted (place_within ss t.typing.now n typing lt)

  -- the places of a term end with its own
  pub inside_within : (n : ℕ) (e : Term) → n < length t.typing.now.found.items → e ≡ (place_numbered ss n).here → inside e < n + 1
  inside_within n e lt is =
      let seen = seen_at n lt in
      let at = seen.is in
      let same : inside e ≡ inside (place_numbered ss n).here = ap inside is in
      omega arith

  pub proof_at : (n : ℕ) (e : Term) (o : Option TypingTree) → n < length t.typing.now.found.items → e ≡ (place_numbered ss n).here → IsProvenTerm t e (n + 1) o
      → IfSome o (λ p. IsProofAt ss t.typing.now n p) × IfNone o (get_or (found_in t) n None ≡ None)
  proof_at n e o lt is proven =
      let seen = seen_at n lt in
      let count = length-answers t.typing.now.table t.typing.now.found.items in
      let entries = seen.entries (omega (arith, lt, count)) in
      let low = entries_lowest (place_numbered ss n).scope (context_at ss t.typing.now n) (dialect_in t) seen.wf entries in
      let at = seen.is in
      let here : n ≡ place_of_term seen.first e = seen.is ∙ ap (λ x. place_of_term seen.first x) (sym is) in
      let sees = subst (λ x. Sees (places_of [] ss) (found_in t) (noted_in t) seen.first (place_numbered ss n).scope (context_at ss t.typing.now n) x) (sym is) seen.sees in
      let proves = proven (places_of [] ss) seen.first (place_numbered ss n).scope (context_at ss t.typing.now n)
      (record { least = least_among (places_of [] ss) (found_in t) (dialect_in t) typing.least; low = low }) sees (omega (arith, here)) (omega (arith, lt, count)) in
      found_proof o (get_or (found_in t) (place_of_term seen.first e) None) ss t.typing.now n e is (ap (λ k. get_or (found_in t) k None) here) entries proves

pub past_all : (t : Typing) (n : ℕ) → length t.found.items ≤ n → get_or (found_of t) n None ≡ None
past_all t n le = let count = length-answers t.table t.found.items in past (found_of t) n (omega (arith, le, count))
  where
    past : (os : List (Option Typ)) (n : ℕ) → length os ≤ n → get_or os n None ≡ None
    past [] n le = refl
    past (o ∷ os) zero le = absurd (omega arith)
    past (o ∷ os) (suc n) le = past os n (omega arith)
