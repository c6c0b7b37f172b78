-- The steps of a proof stand in the text.
use Rattle.std.proofs.Common.{◌≡◌, ℕ, ◌+◌, List, [], ◌∷◌, map, Option, Some, None, sym, subst}
use Rattle.std.specs.List.{All, AllByRecursion}
use Rattle.std.proofs.lemmas.List.Elements.{All-from_recursion}
use Rattle.lam_rules.specs.Subtyping.{SubTree, sub_step, SubTrees, no_subs, sub_first}
use Rattle.lam_rules.specs.Typing.{TypingTree, typing_step, TypingTrees, no_typings, typing_first}
use Rattle.lam_token.specs.declared.span.Span.{Span}
use Rattle.lam_scope.specs.Tables.{Table, place_row_numbered}
use Rattle.lam_scope.proofs.EveryElement.{every_append}
use Rattle.lam_query.specs.declared.answers.Step.{Step as RustStep}
use Rattle.lam_query.specs.declared.answers.Step.TheVariants as rust
use Rattle.lam_query.specs.Steps.{Conclusion, typing, subtyping, Step, Proof, concludes, Proofs, no_proofs, proof_first, steps_before, last_steps, steps_of, steps_of_each, sub_proof, sub_proofs, with_side}
use Rattle.lam_query.specs.inner.RowSteps.{premise_places, row_proof, row_proofs}
use Rattle.lam_query.specs.Within.{IsSpanOfText}
use Rattle.lam_query.specs.Views.{step_of, StepStandsIn}

abbrev pub InConclusion : (Span → Type 0) → Conclusion → Type 0
InConclusion Q (typing rule s t) = Q s
InConclusion Q (subtyping rule l u) = Unit {0}

abbrev mutual
  pub InProof : (Span → Type 0) → Proof → Type 0
  InProof Q (concludes c ps) = InConclusion Q c × InProofs Q ps

  pub InProofs : (Span → Type 0) → Proofs → Type 0
  InProofs Q no_proofs = Unit {0}
  InProofs Q (proof_first p ps) = InProof Q p × InProofs Q ps

mutual
  in_sub : (Q : Span → Type 0) (q : SubTree) → InProof Q (sub_proof q)
  in_sub Q (sub_step r l u ps) = (tt, in_subs Q ps)

  in_subs : (Q : Span → Type 0) (ps : SubTrees) → InProofs Q (sub_proofs ps)
  in_subs Q no_subs = tt
  in_subs Q (sub_first p ps) = (in_sub Q p, in_subs Q ps)

in_side : (Q : Span → Type 0) (ps : Proofs) (side : Option SubTree) → InProofs Q ps → InProofs Q (with_side ps side)
in_side Q ps None h = h
in_side Q no_proofs (Some q) h = (in_sub Q q, tt)
in_side Q (proof_first p ps) (Some q) h = (h.0, in_side Q ps (Some q) h.1)

mutual
  in_typing : (Q : Span → Type 0) (t : Table) → ((n : ℕ) → Q (place_row_numbered t n).span) → (place : ℕ) (p : TypingTree) → InProof Q (row_proof t place p)
  in_typing Q t h place (typing_step r ty ps side) =
      (h place, in_side Q (row_proofs t place (premise_places t place r) ps) side (in_typings Q t h place (premise_places t place r) ps))

  in_typings : (Q : Span → Type 0) (t : Table) → ((n : ℕ) → Q (place_row_numbered t n).span) → (place : ℕ) (terms : List ℕ) (ps : TypingTrees) → InProofs Q (row_proofs t place terms ps)
  in_typings Q t h place terms no_typings = tt
  in_typings Q t h place [] (typing_first p ps) = (in_typing Q t h place p, in_typings Q t h place [] ps)
  in_typings Q t h place (term ∷ terms) (typing_first p ps) = (in_typing Q t h term p, in_typings Q t h place terms ps)

abbrev pub InStep : (Span → Type 0) → Step → Type 0
InStep Q s = InConclusion Q s.conclusion

abbrev pub InSteps : (Span → Type 0) → List Step → Type 0
InSteps Q = AllByRecursion (InStep Q)

mutual
  in_steps : (Q : Span → Type 0) (n : ℕ) (p : Proof) → InProof Q p → InSteps Q (steps_of n p)
  in_steps Q n (concludes c ps) h =
      every_append (InStep Q) (steps_of_each n ps) (record { conclusion = c; premises = last_steps n ps } ∷ []) (in_steps_of_each Q n ps h.1) (h.0, tt)

  in_steps_of_each : (Q : Span → Type 0) (n : ℕ) (ps : Proofs) → InProofs Q ps → InSteps Q (steps_of_each n ps)
  in_steps_of_each Q n no_proofs h = tt
  in_steps_of_each Q n (proof_first p ps) h =
      every_append (InStep Q) (steps_of n p) (steps_of_each (n + steps_before p + 1) ps) (in_steps Q n p h.0) (in_steps_of_each Q (n + steps_before p + 1) ps h.1)

-- the spans of a proof's steps are among those of the table's rows
pub proof_steps : (Q : Span → Type 0) (t : Table) (place : ℕ) (p : TypingTree) → ((n : ℕ) → Q (place_row_numbered t n).span) → InSteps Q (steps_of 0 (row_proof t place p))
proof_steps Q t place p h = in_steps Q 0 (row_proof t place p) (in_typing Q t h place p)

step_seen : (text : List ℕ) (step : RustStep) → InConclusion (IsSpanOfText text) (step_of step).conclusion → StepStandsIn text step
step_seen text (rust.Typing rule span ty premises) h = h
step_seen text (rust.Sub rule lower upper premises) h = tt

steps_seen : (text : List ℕ) (steps : List RustStep) → InSteps (IsSpanOfText text) (map step_of steps) → AllByRecursion (StepStandsIn text) steps
steps_seen text [] h = tt
steps_seen text (x ∷ xs) h = (step_seen text x h.0, steps_seen text xs h.1)

pub steps_stand : (text : List ℕ) (t : Table) (place : ℕ) (p : TypingTree) (steps : List RustStep)
    → ((n : ℕ) → IsSpanOfText text (place_row_numbered t n).span) → map step_of steps ≡ steps_of 0 (row_proof t place p) → All (StepStandsIn text) steps
steps_stand text t place p steps h are =
    All-from_recursion (StepStandsIn text) steps (steps_seen text steps (subst (InSteps (IsSpanOfText text)) (sym are) (proof_steps (IsSpanOfText text) t place p h)))
