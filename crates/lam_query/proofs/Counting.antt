-- A proof has as many steps as its tree has nodes.
use Rattle.std.proofs.Common.{◌≡◌, ℕ, suc, ◌+◌, ◌-◌, List, [], ◌∷◌, length, Some, None, option_map, ap, ◌∙◌, arith}
use Rattle.lam_rules.specs.Subtyping.{SubTree}
use Rattle.lam_rules.specs.SubViews.{sub_trees_made}
use Rattle.lam_rules.specs.Typing.{TypingTree, typing_step}
use Rattle.lam_rules.specs.TypingViews.{typings_made}
use Rattle.lam_query.specs.ProofTrees.{Tree, of_typing, of_subtyping, Premises, typing_premises, sub_premises, tree_from, tree_in, trees_in, if_typing, MakeTree}
use Rattle.lam_query.specs.Steps.{Conclusion, typing, subtyping, Step, Proof, concludes, Proofs, no_proofs, proof_first, steps_before, number_of_steps}
use Rattle.lam_query.proofs.Flat.{length_of_steps}
use Rattle.lam_query.proofs.JoinedProofs.{then_found, map_found}
use Rattle.lam_query.specs.Judgements.{steps_in, steps_in_each, side_steps_in, sub_steps_in_each}
use Rattle.lam_query.specs.inner.Backwards.{size}

-- the number of nodes

abbrev pub sizes : List Tree → ℕ
sizes [] = 0
sizes (t ∷ ts) = size t + sizes ts

abbrev premises_size : Premises → ℕ
premises_size ps = steps_in_each (typings_made ps.typings) + side_steps_in ps.side

typing_sizes : (ts : List Tree) (ps : Premises) → typing_premises ts ≡ Some ps → sizes ts ≡ premises_size ps
typing_sizes [] ps e = let same : Some (record { typings = []; side = None }) ≡ Some ps = e in let is : record { typings = []; side = None } ≡ ps = cc in ap premises_size is
typing_sizes (of_typing p ∷ ts) ps e =
    let found = map_found (λ qs. record { typings = p ∷ qs.typings; side = qs.side }) (typing_premises ts) ps e in
    let rest = typing_sizes ts found.0 found.1 in
    let whole = ap premises_size found.2 in
    omega arith
typing_sizes (of_subtyping q ∷ []) ps e =
    let same : Some (record { typings = []; side = Some q }) ≡ Some ps = e in
    let is : record { typings = []; side = Some q } ≡ ps = cc in
    let whole = ap premises_size is in
    omega arith
typing_sizes (of_subtyping q ∷ t ∷ ts) ps e = let clash : None ≡ Some ps = e in absurd cc

sub_sizes : (ts : List Tree) (qs : List SubTree) → sub_premises ts ≡ Some qs → sizes ts ≡ sub_steps_in_each (sub_trees_made qs)
sub_sizes [] qs e = let same : Some [] ≡ Some qs = e in let is : [] ≡ qs = cc in ap (λ rs. sub_steps_in_each (sub_trees_made rs)) is
sub_sizes (of_subtyping q ∷ ts) qs e =
    let found = map_found (λ rs. q ∷ rs) (sub_premises ts) qs e in
    let rest = sub_sizes ts found.0 found.1 in
    let whole = ap (λ rs. sub_steps_in_each (sub_trees_made rs)) found.2 in
    omega arith
sub_sizes (of_typing p ∷ ts) qs e = let clash : None ≡ Some qs = e in absurd cc

pub node_size : (c : Conclusion) (ts : List Tree) (t : Tree) → tree_from c ts ≡ Some t → size t ≡ sizes ts + 1
node_size (typing rule s type) ts t e =
    let found = map_found _ (typing_premises ts) t e in
    let parts = typing_sizes ts found.0 found.1 in
    let whole = ap size found.2 in
    omega arith
node_size (subtyping rule lower upper) ts t e =
    let found = map_found _ (sub_premises ts) t e in
    let parts = sub_sizes ts found.0 found.1 in
    let whole = ap size found.2 in
    omega arith

mutual
  pub proof_size : (p : Proof) (t : Tree) → tree_in p ≡ Some t → steps_before p + 1 ≡ size t
  proof_size (concludes c ps) t e =
      let found = then_found (tree_from c) (trees_in ps) t e in
      let rest = proofs_size ps found.0 found.1 in
      let own = node_size c found.0 t found.2 in
      omega arith

  pub proofs_size : (ps : Proofs) (ts : List Tree) → trees_in ps ≡ Some ts → number_of_steps ps ≡ sizes ts
  proofs_size no_proofs ts e = let same : Some [] ≡ Some ts = e in let is : [] ≡ ts = cc in ap sizes is
  proofs_size (proof_first p ps) ts e =
      let first = then_found (λ tree. option_map (λ trees. tree ∷ trees) (trees_in ps)) (tree_in p) ts e in
      let rest = map_found (λ trees. first.0 ∷ trees) (trees_in ps) ts first.2 in
      let own = proof_size p first.0 first.1 in
      let others = proofs_size ps rest.0 rest.1 in
      let whole = ap sizes rest.2 in
      omega arith

its_size : (t : Tree) (tree : TypingTree) → if_typing t ≡ Some tree → size t ≡ steps_in tree
its_size (of_typing p) tree e = let same : Some p ≡ Some tree = e in let is : p ≡ tree = cc in ap steps_in is
its_size (of_subtyping q) tree e = let clash : None ≡ Some tree = e in absurd cc

pub steps_counted : (steps : List Step) (tree : TypingTree) → MakeTree steps tree → length steps ≡ steps_in tree
steps_counted steps tree m =
    let found = then_found if_typing (tree_in m.whole) tree m.is_tree in
    ap length m.are_steps ∙ length_of_steps 0 m.whole ∙ proof_size m.whole found.0 found.1 ∙ its_size found.0 tree found.2

-- so there is a last one
pub last_counted : (steps : List Step) (tree : TypingTree) (last : ℕ) → MakeTree steps tree → last ≡ length steps - 1 → suc last ≡ length steps
last_counted steps (typing_step rule type premises side) last m is = let counted = steps_counted steps (typing_step rule type premises side) m in omega arith
