-- The steps of a proof about a term depend on where the term and its parts stand, and on nothing else of them.
use Rattle.std.proofs.Common.{◌≡◌, refl, sym, ap, ◌∙◌}
use Rattle.lam_rules.specs.Typing.{TypingTree, typing_step, TypingTrees, no_typings, typing_first}
use Rattle.lam_rules.specs.declared.rules.TypeRule.{TypeRule}
use Rattle.lam_scope.specs.PlacedTerms.{PlacedTree, placed, PlacedTrees, no_parts, part_first}
use Rattle.lam_query.specs.Steps.{proof_first, concludes, typing, with_side, premise_terms, typing_proof, typing_proofs}
use Rattle.lam_query.proofs.TermsAlone.{bare, bare_parts, same_span}

bare_premises : (rule : TypeRule) (p : PlacedTree) → premise_terms rule (bare p) ≡ bare_parts (premise_terms rule p)
bare_premises TypeRule.Sub p = refl
bare_premises _ (placed t ps) = refl

mutual
  bare_proof : (p : PlacedTree) (tree : TypingTree) → typing_proof (bare p) tree ≡ typing_proof p tree
  bare_proof p (typing_step rule type premises side) =
      let parts = ap (λ ps. typing_proofs (bare p) ps premises) (bare_premises rule p) ∙ bare_proofs p (premise_terms rule p) premises in
      λ i. concludes (typing rule (same_span p i) type) (with_side (parts i) side)

  bare_proofs : (p : PlacedTree) (parts : PlacedTrees) (premises : TypingTrees) → typing_proofs (bare p) (bare_parts parts) premises ≡ typing_proofs p parts premises
  bare_proofs p parts no_typings = refl
  bare_proofs p no_parts (typing_first q qs) =
      let first = bare_proof p q in
      let rest = bare_proofs p no_parts qs in
      λ i. proof_first (first i) (rest i)
  bare_proofs p (part_first part parts) (typing_first q qs) =
      let first = bare_proof part q in
      let rest = bare_proofs p parts qs in
      λ i. proof_first (first i) (rest i)

-- so they are the same for terms that stand in the same places
pub proof_of_bare : (p q : PlacedTree) (tree : TypingTree) → bare p ≡ bare q → typing_proof p tree ≡ typing_proof q tree
proof_of_bare p q tree same = sym (bare_proof p tree) ∙ ap (λ r. typing_proof r tree) same ∙ bare_proof q tree
