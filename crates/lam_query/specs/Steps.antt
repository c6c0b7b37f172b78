-- A proof as a list of steps: the nodes of its tree in postorder, premises from left to right.
use Rattle.std.specs.Prelude.{ℕ, ◌+◌, List, [], ◌∷◌, ◌++◌, Option, Some, None}
use Rattle.lam_token.specs.declared.span.Span.{Span}
use Rattle.lam_rules.specs.Types.{Typ}
use Rattle.lam_rules.specs.Subtyping.{SubTree, sub_step, SubTrees, no_subs, sub_first}
use Rattle.lam_rules.specs.Typing.{TypingTree, typing_step, TypingTrees, no_typings, typing_first}
use Rattle.lam_rules.specs.declared.rules.SubRule.{SubRule}
use Rattle.lam_rules.specs.declared.rules.TypeRule.{TypeRule}
use Rattle.lam_scope.specs.PlacedTerms.{PlacedTree, PlacedTrees, no_parts, part_first, one_part, term_of, parts_of}

-- what a step concludes by its rule: that the term at the span has the type, or that one type is a subtype of the other
pub data Conclusion : Type 0 where
  typing : (rule : TypeRule) → Span → (type : Typ) → Conclusion
  subtyping : (rule : SubRule) → (lower upper : Typ) → Conclusion

-- a step, and the zero-based indices of its premises
pub record Step : Type 0 where
  pub conclusion : Conclusion
  pub premises : List ℕ

-- A tree of conclusions, each with the trees of its premises.
mutual
  pub data Proof : Type 0 where
    concludes : Conclusion → (premises : Proofs) → Proof

  -- the proofs of premises, from left to right
  pub data Proofs : Type 0 where
    no_proofs : Proofs
    proof_first : (first : Proof) → (rest : Proofs) → Proofs

-- the number of steps before the last one of a proof
abbrev mutual
  pub steps_before : Proof → ℕ
  steps_before (concludes c premises) = number_of_steps premises

  -- the number of steps of several proofs
  pub number_of_steps : Proofs → ℕ
  number_of_steps no_proofs = 0
  number_of_steps (proof_first p ps) = steps_before p + 1 + number_of_steps ps

-- the indices of the last steps of proofs, if the first step has index n
abbrev pub last_steps : (n : ℕ) → Proofs → List ℕ
last_steps n no_proofs = []
last_steps n (proof_first p ps) = (n + steps_before p) ∷ last_steps (n + steps_before p + 1) ps

-- the steps of a proof, if the first one has index n
abbrev mutual
  pub steps_of : (n : ℕ) → Proof → List Step
  steps_of n (concludes c premises) = steps_of_each n premises ++ record { conclusion = c; premises = last_steps n premises } ∷ []

  -- the steps of several proofs, one after the other
  pub steps_of_each : (n : ℕ) → Proofs → List Step
  steps_of_each n no_proofs = []
  steps_of_each n (proof_first p ps) = steps_of n p ++ steps_of_each (n + steps_before p + 1) ps

-- a subtyping proof as a tree of conclusions
abbrev mutual
  pub sub_proof : SubTree → Proof
  sub_proof (sub_step rule lower upper premises) = concludes (subtyping rule lower upper) (sub_proofs premises)

  -- the trees of its premises
  pub sub_proofs : SubTrees → Proofs
  sub_proofs no_subs = no_proofs
  sub_proofs (sub_first p ps) = proof_first (sub_proof p) (sub_proofs ps)

-- the subtyping premise, if there is one, after the typing premises
abbrev pub with_side : Proofs → Option SubTree → Proofs
with_side ps None = ps
with_side no_proofs (Some q) = proof_first (sub_proof q) no_proofs
with_side (proof_first p ps) (Some q) = proof_first p (with_side ps (Some q))

-- the terms that the premises of a step are about: the parts of the term or, for T-Sub, the term itself
abbrev pub premise_terms : TypeRule → PlacedTree → PlacedTrees
premise_terms TypeRule.Sub t = one_part t
premise_terms rule t = parts_of t

-- a typing proof about this term as a tree of conclusions
abbrev mutual
  pub typing_proof : PlacedTree → TypingTree → Proof
  typing_proof t (typing_step rule type premises side) = concludes (typing rule (term_of t).span type) (with_side (typing_proofs t (premise_terms rule t) premises) side)

  -- the trees of its premises: each is about the next of these terms, and about the term itself if none is left, which never happens in a proof by the rules
  pub typing_proofs : PlacedTree → PlacedTrees → TypingTrees → Proofs
  typing_proofs t parts no_typings = no_proofs
  typing_proofs t no_parts (typing_first p ps) = proof_first (typing_proof t p) (typing_proofs t no_parts ps)
  typing_proofs t (part_first part parts) (typing_first p ps) = proof_first (typing_proof part p) (typing_proofs t parts ps)

-- ---- the last step of a list

-- the span of the term that a typing conclusion is about
abbrev pub span_in : Option Conclusion → Option Span
span_in None = None
span_in (Some (typing rule s type)) = Some s
span_in (Some (subtyping rule lower upper)) = None

-- the last conclusion
abbrev pub last_conclusion : List Step → Option Conclusion
last_conclusion [] = None
last_conclusion (s ∷ []) = Some s.conclusion
last_conclusion (s ∷ t ∷ steps) = last_conclusion (t ∷ steps)

-- the range of the last step
abbrev pub last_span : List Step → Option Span
last_span steps = span_in (last_conclusion steps)
