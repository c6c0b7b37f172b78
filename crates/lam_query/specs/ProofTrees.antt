-- The typing tree that a tree of conclusions proves. Which terms the conclusions are about does not matter.
use Rattle.std.specs.Prelude.{◌≡◌, List, [], ◌∷◌, Option, Some, None, option_map}
use Rattle.std.specs.Option.{option_and_then}
use Rattle.lam_rules.specs.Subtyping.{SubTree, sub_step}
use Rattle.lam_rules.specs.SubViews.{sub_trees_made}
use Rattle.lam_rules.specs.Typing.{TypingTree, typing_step}
use Rattle.lam_rules.specs.TypingViews.{typings_made}
use Rattle.lam_query.specs.Steps.{Conclusion, typing, subtyping, Proof, concludes, Proofs, no_proofs, proof_first, Step, steps_of}

-- a tree of typing or of subtyping
pub data Tree : Type 0 where
  of_typing : TypingTree → Tree
  of_subtyping : SubTree → Tree

-- the premises of a typing step
pub record Premises : Type 0 where
  pub typings : List TypingTree
  pub side : Option SubTree

-- trees as premises of a typing step: typings, and at most one subtyping, which comes last
abbrev pub typing_premises : List Tree → Option Premises
typing_premises [] = Some (record { typings = []; side = None })
typing_premises (of_typing p ∷ trees) = option_map (λ ps. record { typings = p ∷ ps.typings; side = ps.side }) (typing_premises trees)
typing_premises (of_subtyping q ∷ []) = Some (record { typings = []; side = Some q })
typing_premises (of_subtyping q ∷ tree ∷ trees) = None

-- trees as premises of a subtyping step: subtypings only
abbrev pub sub_premises : List Tree → Option (List SubTree)
sub_premises [] = Some []
sub_premises (of_subtyping q ∷ trees) = option_map (λ qs. q ∷ qs) (sub_premises trees)
sub_premises (of_typing p ∷ trees) = None

-- the tree of a conclusion with these trees as premises
abbrev pub tree_from : Conclusion → List Tree → Option Tree
tree_from (typing rule span type) trees = option_map (λ ps. of_typing (typing_step rule type (typings_made ps.typings) ps.side)) (typing_premises trees)
tree_from (subtyping rule lower upper) trees = option_map (λ qs. of_subtyping (sub_step rule lower upper (sub_trees_made qs))) (sub_premises trees)

abbrev mutual
  -- the tree of a proof
  pub tree_in : Proof → Option Tree
  tree_in (concludes c premises) = option_and_then (tree_from c) (trees_in premises)

  -- the trees of several proofs, if each has one
  pub trees_in : Proofs → Option (List Tree)
  trees_in no_proofs = Some []
  trees_in (proof_first p ps) = option_and_then (λ tree. option_map (λ trees. tree ∷ trees) (trees_in ps)) (tree_in p)

-- the tree, if it is a typing tree
abbrev pub if_typing : Tree → Option TypingTree
if_typing (of_typing p) = Some p
if_typing (of_subtyping q) = None

-- The tree of a typing proof. There is none if the last conclusion is a subtyping, if a premise of a typing follows a subtyping, or if a premise of a subtyping is a
-- typing.
abbrev pub typing_tree_in : Proof → Option TypingTree
typing_tree_in p = option_and_then if_typing (tree_in p)

-- The steps are those of one proof of typing, which has this tree.
pub record MakeTree (steps : List Step) (tree : TypingTree) : Type 0 where
  pub whole : Proof
  pub are_steps : steps ≡ steps_of 0 whole
  pub is_tree : typing_tree_in whole ≡ Some tree
