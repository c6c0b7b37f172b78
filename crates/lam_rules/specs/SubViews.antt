-- The plain tree that a `SubProof` represents.
use Rattle.std.specs.Prelude.{List, [], ◌∷◌}
use Rattle.lam_rules.specs.Subtyping.{Claim, SubTree, sub_step, SubTrees, no_subs, sub_first}
use Rattle.lam_rules.specs.TypeViews.{typ_of}
use Rattle.lam_rules.specs.declared.subtyping.SubProof.{SubProof, SubProof-F, fold-SubProof, out-SubProof}

-- a list of trees as premises
abbrev pub sub_trees_made : List SubTree → SubTrees
sub_trees_made [] = no_subs
sub_trees_made (p ∷ ps) = sub_first p (sub_trees_made ps)

-- one node, whose premises are already trees
abbrev pub sub_tree_step : SubProof-F SubTree → SubTree
sub_tree_step p = sub_step p.rule (typ_of p.lower) (typ_of p.upper) (sub_trees_made p.premises.items)

-- the tree of a `SubProof`
unfoldable pub sub_tree_of : SubProof → SubTree
sub_tree_of = fold-SubProof SubTree sub_tree_step

-- the trees of several `SubProof`s
abbrev pub sub_trees_of : List SubProof → SubTrees
sub_trees_of [] = no_subs
sub_trees_of (p ∷ ps) = sub_first (sub_tree_of p) (sub_trees_of ps)

-- the conclusion of a `SubProof`
abbrev pub claim_of : SubProof → Claim
claim_of p = record { lower = typ_of (out-SubProof p).lower; upper = typ_of (out-SubProof p).upper }

-- the conclusions of several `SubProof`s
abbrev pub claims_of : List SubProof → List Claim
claims_of [] = []
claims_of (p ∷ ps) = claim_of p ∷ claims_of ps
