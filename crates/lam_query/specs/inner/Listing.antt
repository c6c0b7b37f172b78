-- Lists of steps under construction. For private functions only.
use Rattle.std.specs.Prelude.{◌≡◌, ℕ, List, ◌++◌, map, length}
use Rattle.lam_query.specs.declared.answers.Step.{Step as RustStep}
use Rattle.lam_query.specs.Steps.{Proofs, last_steps, steps_of_each}
use Rattle.lam_query.specs.Views.{step_of}

-- the steps of the proofs were appended, and these are the indices of their last ones
pub record AreListed (start : List RustStep) (proofs : Proofs) (now : List RustStep) (numbers : List ℕ) : Type 0 where
  pub steps : map step_of now ≡ map step_of start ++ steps_of_each (length start) proofs
  pub last : numbers ≡ last_steps (length start) proofs
