use Rattle.std.proofs.Common.{List, ◌+◌, ◌*◌, ◌++◌, drop}
use Rattle.lam_rules.specs.Types.{nodes, nodes_in}
use Rattle.lam_rules.specs.TypeViews.{typ_of, fields_of}
use Rattle.lam_rules.specs.Subtyping.{AreSubProofs, GoesFieldByField}
use Rattle.lam_rules.specs.SubViews.{sub_trees_of, claims_of}
use Rattle.lam_rules.specs.declared.subtyping.SubProof.{SubProof}
use Rattle.lam_sub.specs.inner.Arranging.{picked}
use Rattle.lam_sub.specs.inner.FieldsBelow.{AreBelow}
use Rattle.lam_sub.proofs.proving.+prove.Given as goal

abbrev pub invariant-prove_fields-loop-i : goal.invariant-prove_fields-loop-i
invariant-prove_fields-loop-i l = record {
  below : AreBelow (fields_of l.lower) (fields_of (drop l.i l.upper)) l.dialect;
  proofs : (rest : List SubProof) → AreSubProofs (sub_trees_of rest) l.dialect → AreSubProofs (sub_trees_of (l.proofs.items ++ rest)) l.dialect;
  claims : (rest : List SubProof)
      → GoesFieldByField (picked (fields_of l.lower) (fields_of (drop l.i l.upper))) (fields_of (drop l.i l.upper)) (claims_of rest)
      → GoesFieldByField (picked (fields_of l.lower) (fields_of l.upper)) (fields_of l.upper) (claims_of (l.proofs.items ++ rest));
}

abbrev pub decreases-prove : goal.decreases-prove
decreases-prove l = 3 * (nodes (typ_of l.lower.now) + nodes (typ_of l.upper.now))

abbrev pub decreases-prove_record : goal.decreases-prove_record
decreases-prove_record l = 3 * (nodes_in (fields_of l.lower.now) + nodes_in (fields_of l.upper.now)) + 2

abbrev pub decreases-prove_fields : goal.decreases-prove_fields
decreases-prove_fields l = 3 * (nodes_in (fields_of l.lower.now) + nodes_in (fields_of l.upper.now)) + 1

abbrev pub decreases-prove_sides : goal.decreases-prove_sides
decreases-prove_sides l =
    3 * (nodes (typ_of l.lower_parameter.now) + nodes (typ_of l.lower_outcome.now) + nodes (typ_of l.upper_parameter.now) + nodes (typ_of l.upper_outcome.now)) + 1
