-- The tree of a proof of typing is the one that it was made from.
use Rattle.std.proofs.Common.{◌≡◌, List, [], ◌∷◌, ◌++◌, map, Option, Some, None, option_map, refl, sym, ap, ◌∙◌, append-nil}
use Rattle.std.specs.Option.{option_and_then}
use Rattle.std.proofs.lemmas.Option.{same_Some}
use Rattle.lam_rules.specs.Subtyping.{SubTree, sub_step, SubTrees, no_subs, sub_first}
use Rattle.lam_rules.specs.SubViews.{sub_trees_made}
use Rattle.lam_rules.specs.Typing.{TypingTree, typing_step, TypingTrees, no_typings, typing_first}
use Rattle.lam_rules.specs.TypingViews.{typings_made}
use Rattle.lam_scope.specs.PlacedTerms.{PlacedTree, PlacedTrees, no_parts, part_first}
use Rattle.lam_query.specs.Steps.{Proofs, no_proofs, proof_first, steps_of, sub_proof, sub_proofs, with_side, premise_terms, typing_proof, typing_proofs}
use Rattle.lam_query.specs.ProofTrees.{Tree, of_typing, of_subtyping, typing_premises, sub_premises, tree_in, trees_in, typing_tree_in}
use Rattle.lam_query.proofs.OneProof.{one_proof_of_steps}

-- lists of trees

abbrev subs_listed : SubTrees → List SubTree
subs_listed no_subs = []
subs_listed (sub_first q qs) = q ∷ subs_listed qs

made_of_subs : (qs : SubTrees) → sub_trees_made (subs_listed qs) ≡ qs
made_of_subs no_subs = refl
made_of_subs (sub_first q qs) = ap (λ rest. sub_first q rest) (made_of_subs qs)

abbrev typings_listed : TypingTrees → List TypingTree
typings_listed no_typings = []
typings_listed (typing_first p ps) = p ∷ typings_listed ps

made_of_typings : (ps : TypingTrees) → typings_made (typings_listed ps) ≡ ps
made_of_typings no_typings = refl
made_of_typings (typing_first p ps) = ap (λ rest. typing_first p rest) (made_of_typings ps)

subs_are_premises : (qs : List SubTree) → sub_premises (map of_subtyping qs) ≡ Some qs
subs_are_premises [] = refl
subs_are_premises (q ∷ qs) = rw (subs_are_premises qs) refl

-- the subtyping behind typings, if there is one
abbrev side_tree : Option SubTree → List Tree
side_tree None = []
side_tree (Some q) = of_subtyping q ∷ []

typings_are_premises : (ps : List TypingTree) (side : Option SubTree)
    → typing_premises (map of_typing ps ++ side_tree side) ≡ Some (record { typings = ps; side = side })
typings_are_premises [] None = refl
typings_are_premises [] (Some q) = refl
typings_are_premises (p ∷ ps) side = rw (typings_are_premises ps side) refl

-- trees that are read back

mutual
  sub_read : (q : SubTree) → tree_in (sub_proof q) ≡ Some (of_subtyping q)
  sub_read (sub_step rule lower upper qs) = rw (subs_read qs, subs_are_premises (subs_listed qs), made_of_subs qs) refl

  subs_read : (qs : SubTrees) → trees_in (sub_proofs qs) ≡ Some (map of_subtyping (subs_listed qs))
  subs_read no_subs = refl
  subs_read (sub_first q qs) = rw (sub_read q, subs_read qs) refl

side_put : (q : SubTree) (tree : Option Tree) (trees : Option (List Tree))
    → option_and_then (λ t. option_map (λ ts. t ∷ ts) (option_map (λ ts. ts ++ of_subtyping q ∷ []) trees)) tree
    ≡ option_map (λ ts. ts ++ of_subtyping q ∷ []) (option_and_then (λ t. option_map (λ ts. t ∷ ts) trees) tree)
side_put q None trees = refl
side_put q (Some t) None = refl
side_put q (Some t) (Some ts) = refl

side_read : (ps : Proofs) (q : SubTree) → trees_in (with_side ps (Some q)) ≡ option_map (λ ts. ts ++ of_subtyping q ∷ []) (trees_in ps)
side_read no_proofs q = rw (sub_read q) refl
side_read (proof_first p ps) q = rw (side_read ps q) (side_put q (tree_in p) (trees_in ps))

premises_read : (ps : Proofs) (side : Option SubTree) (ts : List Tree) → trees_in ps ≡ Some ts → trees_in (with_side ps side) ≡ Some (ts ++ side_tree side)
premises_read ps None ts is = is ∙ ap Some (sym (append-nil ts))
premises_read ps (Some q) ts is = side_read ps q ∙ ap (option_map (λ us. us ++ of_subtyping q ∷ [])) is

mutual
  typing_read : (t : PlacedTree) (p : TypingTree) → tree_in (typing_proof t p) ≡ Some (of_typing p)
  typing_read t (typing_step rule type ps side) =
      let trees = premises_read (typing_proofs t (premise_terms rule t) ps) side (map of_typing (typings_listed ps)) (typings_read t (premise_terms rule t) ps) in
      rw (trees, typings_are_premises (typings_listed ps) side, made_of_typings ps) refl

  typings_read : (t : PlacedTree) (parts : PlacedTrees) (ps : TypingTrees) → trees_in (typing_proofs t parts ps) ≡ Some (map of_typing (typings_listed ps))
  typings_read t parts no_typings = refl
  typings_read t no_parts (typing_first p ps) = rw (typing_read t p, typings_read t no_parts ps) refl
  typings_read t (part_first part parts) (typing_first p ps) = rw (typing_read part p, typings_read t parts ps) refl

pub tree_read : (term : PlacedTree) (tree : TypingTree) → typing_tree_in (typing_proof term tree) ≡ Some tree
tree_read term tree = rw (typing_read term tree) refl

pub one_tree_of_steps : (term other : PlacedTree) (tree also : TypingTree) → steps_of 0 (typing_proof term tree) ≡ steps_of 0 (typing_proof other also) → tree ≡ also
one_tree_of_steps term other tree also same =
    let proofs = one_proof_of_steps (typing_proof term tree) (typing_proof other also) same in
    same_Some tree also (sym (tree_read term tree) ∙ ap typing_tree_in proofs ∙ tree_read other also)
