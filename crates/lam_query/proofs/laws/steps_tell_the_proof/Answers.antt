use Rattle.lam_query.proofs.OneProof.{one_proof_of_steps}
use Rattle.lam_query.proofs.ReadTrees.{tree_read, one_tree_of_steps}
use Rattle.lam_query.proofs.laws.steps_tell_the_proof.Goals as goal

pub returns-clause-proof : goal.returns-clause-proof
returns-clause-proof c = one_proof_of_steps

pub returns-clause-tree : goal.returns-clause-tree
returns-clause-tree c = one_tree_of_steps

pub returns-clause-read : goal.returns-clause-read
returns-clause-read c = tree_read
