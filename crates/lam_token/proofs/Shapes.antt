-- Which lists of characters have a shape, and which longer ones have none.
use Rattle.std.proofs.Common.{◌≡◌, ℕ, ◌+◌, ◌-◌, ◌<◌, Bool, true, false, cond, Option, Some, None, List, [], ◌∷◌, ◌++◌, length, ◌⊎◌, inl, inr, ⊎_elim, sym, refl, ap, ◌∙◌, arith, length-append}
use Rattle.std.specs.Prelude.{◌==◌, ◌&&◌}
use Rattle.std.specs.List.{list_all}
use Rattle.lam_token.specs.declared.segment.Segment.{Segment}
use Rattle.lam_token.specs.Shape.{is_opening, is_closing, rest_of_comment, alone, closed_at_end}
use Rattle.lam_token.specs.inner.Reading.{EndsRun}

-- where one test fails, not all pass
and_false : (b : Bool) → (b && false) ≡ false
and_false true = refl
and_false false = refl

pub same_choices : {A : Type 0} (b : Bool) (x : A) → cond b x x ≡ x
same_choices true x = refl
same_choices false x = refl

-- a front that goes on behind a longest run does not pass as a whole
pub longer_fails : (passes : ℕ → Bool) (cs rest front after : List ℕ) → EndsRun passes rest → cs ++ rest ≡ front ++ after → length cs < length front → list_all passes front ≡ false
longer_fails passes [] rest [] after ends same longer = absurd (omega arith)
longer_fails passes [] [] (f ∷ front) after ends same longer = cc
longer_fails passes [] (r ∷ rest) (f ∷ front) after ends same longer =
    let head : f ≡ r = cc in
    let fails : passes f ≡ false = ap passes head ∙ ends in
    rw fails refl
longer_fails passes (c ∷ cs) rest [] after ends same longer = absurd (omega arith)
longer_fails passes (c ∷ cs) rest (f ∷ front) after ends same longer =
    let tail : cs ++ rest ≡ front ++ after = cc in
    ap (λ b. passes f && b) (longer_fails passes cs rest front after ends tail (omega arith)) ∙ and_false (passes f)

-- a longer front has one more character
pub longer_splits : (cs rest front after : List ℕ) → cs ++ rest ≡ front ++ after → length cs < length front → (x : ℕ) × (more : List ℕ) × (front ≡ cs ++ x ∷ more)
longer_splits [] rest [] after same longer = absurd (omega arith)
longer_splits [] rest (f ∷ front) after same longer = (f, front, refl)
longer_splits (c ∷ cs) rest [] after same longer = absurd (omega arith)
longer_splits (c ∷ cs) rest (f ∷ front) after same longer =
    let head : f ≡ c = cc in
    let tail : cs ++ rest ≡ front ++ after = cc in
    let found = longer_splits cs rest front after tail (omega arith) in
    (found.0, found.1, (λ i. head i ∷ found.2 i))

-- a segment that something follows is not alone
pub not_alone : (s : Segment) (front : List ℕ) → 0 < length front → alone s front ≡ None
not_alone s [] longer = absurd (omega arith)
not_alone s (f ∷ front) longer = refl

-- A character of a comment either goes on to another state, whatever follows it, or is the last.
abbrev StepOf : ℕ → ℕ → ℕ → Type 0
StepOf depth before c =
    ((d : ℕ) × (b : ℕ) × ((cs : List ℕ) → rest_of_comment depth before (c ∷ cs) ≡ rest_of_comment d b cs))
    ⊎ ((cs : List ℕ) → rest_of_comment depth before (c ∷ cs) ≡ Some cs)

step_of : (depth before c : ℕ) → StepOf depth before c
unfolding rest_of_comment
step_of depth before c = opens (is_opening before c) (is_closing before c) (depth == 1)
  where
    rest_of : Bool → Bool → Bool → List ℕ → Option (List ℕ)
    rest_of opens closes outer cs =
        cond opens (rest_of_comment (depth + 1) 32 cs) (cond closes (cond outer (Some cs) (rest_of_comment (depth - 1) 32 cs)) (rest_of_comment depth c cs))

    opens : (o s t : Bool) → ((d : ℕ) × (b : ℕ) × ((cs : List ℕ) → rest_of o s t cs ≡ rest_of_comment d b cs)) ⊎ ((cs : List ℕ) → rest_of o s t cs ≡ Some cs)
    opens true s t = inl (depth + 1, 32, λ cs. refl)
    opens false true true = inr (λ cs. refl)
    opens false true false = inl (depth - 1, 32, λ cs. refl)
    opens false false t = inl (depth, c, λ cs. refl)

-- what follows a text follows what is left of it after its comment
pub rest_of_comment-append : (depth before : ℕ) (cs more r : List ℕ) → rest_of_comment depth before cs ≡ Some r → rest_of_comment depth before (cs ++ more) ≡ Some (r ++ more)
unfolding rest_of_comment
rest_of_comment-append depth before [] more r e = absurd cc
rest_of_comment-append depth before (c ∷ cs) more r e =
    ⊎_elim
    (λ (on : (d : ℕ) × (b : ℕ) × ((xs : List ℕ) → rest_of_comment depth before (c ∷ xs) ≡ rest_of_comment d b xs)).
    on.2 (cs ++ more) ∙ rest_of_comment-append on.0 on.1 cs more r (sym (on.2 cs) ∙ e))
    (λ (last : (xs : List ℕ) → rest_of_comment depth before (c ∷ xs) ≡ Some xs).
    let same : Some cs ≡ Some r = sym (last cs) ∙ e in
    let same_rest : cs ≡ r = cc in
    last (cs ++ more) ∙ ap (λ l. Some (l ++ more)) same_rest)
    (step_of depth before c)

-- what is left behind a comment is shorter
behind_shorter : (depth before : ℕ) (cs r : List ℕ) → rest_of_comment depth before cs ≡ Some r → length r < length cs
unfolding rest_of_comment
behind_shorter depth before [] r e = absurd cc
behind_shorter depth before (c ∷ cs) r e =
    ⊎_elim
    (λ (on : (d : ℕ) × (b : ℕ) × ((xs : List ℕ) → rest_of_comment depth before (c ∷ xs) ≡ rest_of_comment d b xs)).
    let shorter = behind_shorter on.0 on.1 cs r (sym (on.2 cs) ∙ e) in omega arith)
    (λ (last : (xs : List ℕ) → rest_of_comment depth before (c ∷ xs) ≡ Some xs).
    let same : Some cs ≡ Some r = sym (last cs) ∙ e in
    let same_rest : cs ≡ r = cc in
    omega (arith, ap length same_rest))
    (step_of depth before c)

-- a comment after which exactly the rest is left is closed by the front alone
pub behind_front : (depth before : ℕ) (front rest : List ℕ) → rest_of_comment depth before (front ++ rest) ≡ Some rest → rest_of_comment depth before front ≡ Some []
unfolding rest_of_comment
behind_front depth before [] rest e = absurd (omega (arith, behind_shorter depth before rest rest e))
behind_front depth before (c ∷ front) rest e =
    ⊎_elim
    (λ (on : (d : ℕ) × (b : ℕ) × ((xs : List ℕ) → rest_of_comment depth before (c ∷ xs) ≡ rest_of_comment d b xs)).
    on.2 front ∙ behind_front on.0 on.1 front rest (sym (on.2 (front ++ rest)) ∙ e))
    (λ (last : (xs : List ℕ) → rest_of_comment depth before (c ∷ xs) ≡ Some xs).
    let same : Some (front ++ rest) ≡ Some rest = sym (last (front ++ rest)) ∙ e in
    let same_rest : front ++ rest ≡ rest = cc in
    last front ∙ ap (λ (l : List ℕ). Some l) (empty_front front (omega (arith, ap length same_rest, length-append front rest))))
    (step_of depth before c)
  where
    empty_front : (l : List ℕ) → length l ≡ 0 → l ≡ []
    empty_front [] none = refl
    empty_front (x ∷ l) none = absurd (omega arith)

-- a front that goes on after a closed comment is not a comment
pub longer_comment : (cs rest front after : List ℕ) → rest_of_comment 1 32 cs ≡ Some [] → cs ++ rest ≡ front ++ after → length cs < length front → closed_at_end (rest_of_comment 1 32 front) ≡ None
longer_comment cs rest front after closed same longer =
    let found = longer_splits cs rest front after same longer in
    ap closed_at_end (ap (rest_of_comment 1 32) found.2 ∙ rest_of_comment-append 1 32 cs (found.0 ∷ found.1) [] closed)

-- no front of an open comment is closed
pub open_comment : (cs front after : List ℕ) → rest_of_comment 1 32 cs ≡ None → cs ≡ front ++ after → closed_at_end (rest_of_comment 1 32 front) ≡ None
open_comment cs front after stays_open same = left (rest_of_comment 1 32 front) refl
  where
    left : (r : Option (List ℕ)) → rest_of_comment 1 32 front ≡ r → closed_at_end r ≡ None
    left None e = refl
    left (Some []) e =
        let all = rest_of_comment-append 1 32 front after [] e in
        let whole : rest_of_comment 1 32 (front ++ after) ≡ None = ap (rest_of_comment 1 32) (sym same) ∙ stays_open in
        absurd cc
    left (Some (x ∷ xs)) e = refl
