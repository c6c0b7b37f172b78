-- Proofs as trees of conclusions, by the rows of a table. For private functions only.
use Rattle.std.specs.Prelude.{ℕ, List, [], ◌∷◌}
use Rattle.lam_rules.specs.Typing.{TypingTree, typing_step, TypingTrees, no_typings, typing_first}
use Rattle.lam_rules.specs.declared.rules.TypeRule.{TypeRule}
use Rattle.lam_scope.specs.Tables.{Table, place_row_numbered}
use Rattle.lam_query.specs.Steps.{Proof, concludes, Proofs, no_proofs, proof_first, typing, with_side}

-- the places that the premises of a step are about, if they are not that of the step
abbrev pub premise_places : Table → (place : ℕ) → TypeRule → List ℕ
premise_places t place TypeRule.Sub = []
premise_places t place rule = (place_row_numbered t place).terms

-- a typing proof about the term at this place
abbrev mutual
  pub row_proof : Table → (place : ℕ) → TypingTree → Proof
  row_proof t place (typing_step rule type premises side) =
      concludes (typing rule (place_row_numbered t place).span type) (with_side (row_proofs t place (premise_places t place rule) premises) side)

  -- the proofs of its premises: each is about the next of these terms, and about the place itself if none is left
  pub row_proofs : Table → (place : ℕ) → (terms : List ℕ) → TypingTrees → Proofs
  row_proofs t place terms no_typings = no_proofs
  row_proofs t place [] (typing_first p ps) = proof_first (row_proof t place p) (row_proofs t place [] ps)
  row_proofs t place (term ∷ terms) (typing_first p ps) = proof_first (row_proof t term p) (row_proofs t place terms ps)
