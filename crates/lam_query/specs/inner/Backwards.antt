-- Steps that are read one by one, from the last one down: each tells what its premises are about. For private functions alone.
use Rattle.std.specs.Prelude.{◌≡◌, ℕ, ◌+◌, List, [], ◌∷◌, ◌++◌, take, slice_get, Option, Some, option_map}
use Rattle.std.specs.Borrow.{Bor}
use Rattle.lam_query.specs.Judgements.{steps_in, sub_steps_in}
use Rattle.lam_query.specs.ProofTrees.{Tree, of_typing, of_subtyping, trees_in}
use Rattle.lam_query.specs.Steps.{Conclusion, Proofs, Step, steps_of_each}
use Rattle.lam_query.specs.Views.{step_of}
use Rattle.lam_query.specs.declared.answers.Step.{Step as RustStep}

-- the number of steps of a tree
abbrev pub size : Tree → ℕ
size (of_typing p) = steps_in p
size (of_subtyping q) = sub_steps_in q

-- what the step with this index concludes
abbrev pub said_at : List Step → ℕ → Option Conclusion
said_at steps n = option_map (λ s. s.conclusion) (slice_get steps n)

-- the same for a step that was looked up
abbrev pub said_by : Option (Bor RustStep) → Option Conclusion
said_by step = option_map (λ s. (step_of s.now).conclusion) step

-- each of the trees may be about the next of these
abbrev pub SuitEach : {L : Type 0} → (L → Tree → Type 0) → List L → List Tree → Type 0
SuitEach Suits [] [] = Unit {0}
SuitEach Suits (l ∷ ls) (t ∷ ts) = Suits l t × SuitEach Suits ls ts
SuitEach Suits _ _ = ⊥

-- what the steps of several trees say, each about the next of these, if the first step has index n
abbrev pub says_each : {L X : Type 0} → (ℕ → L → Tree → List X) → ℕ → List L → List Tree → List X
says_each says n (l ∷ ls) (t ∷ ts) = says n l t ++ says_each says (n + size t) ls ts
says_each says n _ _ = []

-- The first steps are of proofs that are about these; those behind them were read, and say this.
pub record AreRead (L X : Type 0) (Suits : L → Tree → Type 0) (says : ℕ → L → Tree → List X) (steps : List Step) (all : List X) (number : ℕ) (ls : List L) (done : List X) : Type 0 where
  pub proofs : Proofs
  pub trees : List Tree
  pub are : take number steps ≡ steps_of_each 0 proofs
  pub are_trees : trees_in proofs ≡ Some trees
  pub suit : SuitEach Suits ls trees
  pub whole : all ≡ says_each says 0 ls trees ++ done
