-- The ranges of steps, compared from the last one down. For private functions alone.
use Rattle.std.specs.Prelude.{◌≡◌, ◌≤◌, ◌-◌, ℕ, List, [], ◌∷◌, drop, get_or, slice_get, take, Option, Some, None, option_map, MatchOption}
use Rattle.lam_scope.specs.Tables.{Table, place_row_numbered}
use Rattle.lam_scope.specs.TableViews.{place_number}
use Rattle.lam_scope.specs.declared.numbers.Place.{Place}
use Rattle.lam_query.specs.ProofTrees.{Tree, of_typing, of_subtyping}
use Rattle.lam_query.specs.Steps.{Conclusion, typing, subtyping, Proof, Step, steps_of, sub_proof}
use Rattle.lam_query.specs.inner.Backwards.{AreRead}
use Rattle.lam_query.specs.inner.RowSteps.{premise_places, row_proof}

-- the place of a term, if there is one, as its number
abbrev pub number_of : Option Place → Option ℕ
number_of = option_map place_number

-- A tree of typing is about a place, one of subtyping about none.
abbrev pub PlaceSuits : Option ℕ → Tree → Type 0
PlaceSuits (Some place) (of_typing p) = Unit {0}
PlaceSuits (Some place) (of_subtyping q) = ⊥
PlaceSuits None (of_typing p) = ⊥
PlaceSuits None (of_subtyping q) = Unit {0}

-- the proof of this tree, with the ranges of the terms that it is about
abbrev pub placed_proof : Table → Option ℕ → Tree → Proof
placed_proof t (Some place) (of_typing p) = row_proof t place p
placed_proof t None (of_typing p) = row_proof t 0 p
placed_proof t l (of_subtyping q) = sub_proof q

-- its steps, if the first one has index n
abbrev pub placed_steps : Table → (n : ℕ) → Option ℕ → Tree → List Step
placed_steps t n l tree = steps_of n (placed_proof t l tree)

-- the terms that the premises of a step are about, if it concludes this about a place
abbrev pub terms_under : Table → Option ℕ → Conclusion → List ℕ
terms_under t (Some place) (typing rule s ty) = premise_places t place rule
terms_under t (Some place) (subtyping rule l u) = []
terms_under t None c = []

-- the places behind the first
abbrev pub others_of : List ℕ → List ℕ
others_of [] = []
others_of (n ∷ ns) = ns

-- what the next premise is about, if it concludes this
abbrev pub place_for : Option ℕ → (terms : List ℕ) → Option Conclusion → Option ℕ
place_for (Some place) terms (Some (typing rule s ty)) = Some (get_or terms 0 place)
place_for (Some place) terms (Some (subtyping rule l u)) = None
place_for (Some place) terms None = None
place_for None terms c = None

-- what the premises that conclude these are about
abbrev pub places_for : Option ℕ → (terms : List ℕ) → List (Option Conclusion) → List (Option ℕ)
places_for l terms [] = []
places_for l terms (c ∷ cs) = place_for l terms c ∷ places_for l (others_of terms) cs

-- the step has the range of its term, if it concludes this
abbrev pub IsRanged : Table → Option ℕ → Conclusion → Type 0
IsRanged t (Some place) (typing rule s ty) = s ≡ (place_row_numbered t place).span
IsRanged t (Some place) (subtyping rule l u) = Unit {0}
IsRanged t None c = Unit {0}

-- The lists differ at this index, and not before; they begin at the other one.
abbrev pub DifferFrom : ℕ → List Step → List Step → ℕ → Type 0
DifferFrom start xs ys n = (start ≤ n) × (take (n - start) xs ≡ take (n - start) ys) × (slice_get xs (n - start) ≡ slice_get ys (n - start) → ⊥)

-- The first steps are of proofs about these places; those behind them were compared, and this is the first of them that is another one.
pub record AreCompared (t : Table) (steps all : List Step) (number : ℕ) (ls : List (Option ℕ)) (other : Option ℕ) : Type 0 where
  pub done : List Step
  pub are_read : AreRead (Option ℕ) Step PlaceSuits (placed_steps t) steps all number ls done
  pub first : MatchOption other (drop number steps ≡ done) (λ n. DifferFrom number (drop number steps) done n)
