-- The steps of proofs within a list, for drawing.
use Rattle.std.specs.Prelude.{◌≡◌, ℕ, ◌+◌, ◌≤◌, List, ◌++◌, drop}
use Rattle.lam_rules.specs.Texts.{Text}
use Rattle.lam_query.specs.Steps.{Step, Proof, Proofs, steps_of, steps_of_each, last_steps, number_of_steps}
use Rattle.lam_check.specs.declared.forms.Form.{Form}
use Rattle.lam_check.specs.declared.terms.Role.{Role}
use Rattle.lam_check.specs.Drawings.{drawn_each}

-- The steps of a proof are in the list from this index on.
pub record Stands (steps : List Step) (start : ℕ) (p : Proof) : Type 0 where
  pub after : List Step
  pub are : drop start steps ≡ steps_of start p ++ after

-- the same for several proofs, one after another
pub record AllStand (steps : List Step) (start : ℕ) (ps : Proofs) : Type 0 where
  pub after : List Step
  pub are : drop start steps ≡ steps_of_each start ps ++ after

-- What is left to be drawn: the proofs that end in these steps, all before `end`, the first of which is about a term with this role. What is written, followed by them, is the whole.
pub record AreLeft (form : Form) (text : List ℕ) (depth : ℕ) (first : Role) (steps : List Step) (end : ℕ) (numbers : List ℕ) (written whole : Text) : Type 0 where
  pub start : ℕ
  pub proofs : Proofs
  pub stand : AllStand steps start proofs
  pub are_last : numbers ≡ last_steps start proofs
  pub within : start + number_of_steps proofs ≤ end
  pub parts : written ++ drawn_each form text depth first proofs ≡ whole
