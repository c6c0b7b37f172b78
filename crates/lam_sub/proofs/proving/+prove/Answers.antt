use Rattle.std.proofs.Common.{◌≡◌, ◌∙◌, ap, sym, subst, arith, string_bytes, append-nil, [], true, false}
use Rattle.std.proofs.lemmas.List.{drop_all}
use Rattle.std.proofs.lemmas.Result.{IfOk-weaker}
use Rattle.lam_rules.specs.Types.{Has, IsAbsent, arrow, record_of, IsWellFormed}
use Rattle.lam_rules.specs.TypeViews.{typ_of, fields_of}
use Rattle.lam_rules.specs.Subtyping.{BySubRule, ProvesBelow, IsBelow}
use Rattle.lam_rules.specs.SubViews.{claims_of, sub_tree_of, sub_trees_of}
use Rattle.lam_rules.specs.declared.rules.SubRule.{SubRule}
use Rattle.lam_rules.proofs.TypeShapes.{typ_of-Arrow}
use Rattle.lam_rules.proofs.ByShape.{below_wf}
use Rattle.lam_rules.proofs.SubShapes.{conclusions-sub_trees_of}
use Rattle.lam_sub.specs.inner.Unchanged.{AreByRefl}
use Rattle.lam_sub.specs.inner.Steps.{LeadsTo}
use Rattle.lam_sub.proofs.LookUps.{item_has}
use Rattle.lam_sub.proofs.Below.{no_field, field_iff, nodes_of_field, record_inside}
use Rattle.lam_sub.proofs.Arranging.{type_under_is, below_labels}
use Rattle.lam_sub.proofs.ByVariant.{not_arrow, not_record, two_arrows, record_seen, nodes_of_record, nodes_of_arrow, field_first}
use Rattle.lam_sub.proofs.UnchangedRecords.{AreReflexive, arrows_unchanged, refl_claims, without_parts}
use Rattle.lam_sub.proofs.Steps.{concluded, stepped, claim_is, proofs_more, claims_more}
use Rattle.lam_sub.proofs.proving.+prove.Goals as goal

-- the fields that are asked for, one after the other

pub prove_fields-unreachable-requires : goal.prove_fields-unreachable-requires
prove_fields-unreachable-requires t c =
    no_field (fields_of c.args.lower.now) c.args.dialect (string_bytes c.index-upper-i.result.0) (typ_of c.index-upper-i.result.1)
    (subst (λ l. IsAbsent l (fields_of c.args.lower.now)) c.deref.ensures c.in_default.ensures.absent)
    ((field_first (fields_of c.args.lower.now) c.args.upper.now c.loop-i.i c.index-upper-i.result c.args.dialect c.loop-i-test.true c.index-upper-i.is).1 c.loop-i.invariant.below).0

pub prove_fields-prove-requires : goal.prove_fields-prove-requires
prove_fields-prove-requires t c =
    let below = subst (λ l. Has l (typ_of c.in-Some.ty.now) (fields_of c.args.lower.now)) c.deref.ensures c.in-Some.ensures.found in
    let above = item_has c.args.upper.now c.loop-i.i c.index-upper-i.result c.loop-i-test.true c.index-upper-i.is in (
      omega (arith, c.decreases, nodes_of_field _ _ _ below, nodes_of_field _ _ _ above),
      (field_iff (fields_of c.args.lower.now) c.args.dialect (string_bytes c.index-upper-i.result.0) (typ_of c.in-Some.ty.now) (typ_of c.index-upper-i.result.1) c.requires.lower below).0
          ((field_first (fields_of c.args.lower.now) c.args.upper.now c.loop-i.i c.index-upper-i.result c.args.dialect c.loop-i-test.true c.index-upper-i.is).1 c.loop-i.invariant.below).0,
    )

pub prove_fields-loop-i-preserved : goal.prove_fields-loop-i-preserved
prove_fields-loop-i-preserved t c =
    let below = subst (λ l. Has l (typ_of c.in-Some.ty.now) (fields_of c.args.lower.now)) c.deref.ensures c.in-Some.ensures.found in
    let claim = claim_is c.in_ok-proof.proof (typ_of c.in-Some.ty.now) (typ_of c.index-upper-i.result.1) c.args.dialect c.in_ok-proof.ensures in
    record {
      below = ((field_first (fields_of c.args.lower.now) c.args.upper.now c.loop-i.i c.index-upper-i.result c.args.dialect c.loop-i-test.true c.index-upper-i.is).1 c.loop-i.invariant.below).1;
      proofs = proofs_more c.loop-i.proofs.items c.push.new.self.items c.in_ok-proof.proof c.args.dialect c.in_ok-push.ensures.items c.in_ok-proof.ensures.0 c.loop-i.invariant.proofs;
      claims = claims_more c.loop-i.proofs.items c.push.new.self.items c.in_ok-proof.proof (fields_of c.args.lower.now) _ _ c.args.upper.now c.loop-i.i c.index-upper-i.result
          c.loop-i-test.true c.index-upper-i.is c.in_ok-push.ensures.items
          (claim.0 ∙ sym (type_under_is (string_bytes c.index-upper-i.result.0) (typ_of c.in-Some.ty.now) (fields_of c.args.lower.now) c.requires.lower below))
          claim.1 c.loop-i.invariant.claims;
    }

pub prove_fields-returns-clause-proofs : goal.prove_fields-returns-clause-proofs
prove_fields-returns-clause-proofs t c = rw append-nil at (c.loop-i.invariant.proofs [] tt)

pub prove_fields-returns-clause-claims : goal.prove_fields-returns-clause-claims
prove_fields-returns-clause-claims t c =
    rw append-nil at (c.loop-i.invariant.claims [] (rw (drop_all c.loop-i.i c.args.upper.now c.loop-i-test.false) tt))

-- the steps between two record types

pub prove_record-steps_between-requires-clause-labels : goal.prove_record-steps_between-requires-clause-labels
prove_record-steps_between-requires-clause-labels t c = below_labels (fields_of c.args.lower.now) (fields_of c.args.upper.now) c.args.dialect c.requires.below

-- the last step, by the shape of the two types

pub prove-unreachable-requires : goal.prove-unreachable-requires
prove-unreachable-requires t c =
    let e : false ≡ true = (not_arrow c.args.lower.now c.args.upper.now _ _ c.args.dialect c.in-Arrow.is c.in_default-lower.not-Arrow).1 c.requires in cc

pub prove-unreachable-requires-in_default-lower-2 : goal.prove-unreachable-requires-in_default-lower-2
prove-unreachable-requires-in_default-lower-2 t c =
    let e : false ≡ true = (not_record c.args.lower.now c.args.upper.now _ c.args.dialect c.in-Record.is c.in_default-lower-2.not-Record).1 c.requires in cc

pub prove-prove_sides-requires : goal.prove-prove_sides-requires
prove-prove_sides-requires t c =
    let parts = (two_arrows c.args.lower.now c.args.upper.now _ _ _ _ c.args.dialect c.in-Arrow-lower.is c.in-Arrow.is).1 c.requires in (
      omega (
        arith,
        c.decreases,
        nodes_of_arrow c.args.lower.now c.deref.result.now c.deref-in-Arrow.result.now _ _ c.in-Arrow-lower.is c.deref.ensures c.deref-in-Arrow.ensures,
        nodes_of_arrow c.args.upper.now c.deref-in-Arrow-2.result.now c.deref-in-Arrow-3.result.now _ _ c.in-Arrow.is c.deref-in-Arrow-2.ensures c.deref-in-Arrow-3.ensures,
      ),
      (rw (c.deref.ensures, c.deref-in-Arrow-2.ensures) parts.0, rw (c.deref-in-Arrow.ensures, c.deref-in-Arrow-3.ensures) parts.1),
    )

pub prove-prove_record-requires : goal.prove-prove_record-requires
prove-prove_record-requires t c =
    let lower = record_seen c.args.lower.now _ _ c.deref-in-Record-2.result.now c.in-Record-lower.is c.deref-in-Record.ensures c.deref-in-Record-2.ensures.value in
    let upper = record_seen c.args.upper.now _ _ c.deref-in-Record-4.result.now c.in-Record.is c.deref-in-Record-3.ensures c.deref-in-Record-4.ensures.value in
    let wf = below_wf (typ_of c.args.lower.now) (typ_of c.args.upper.now) c.args.dialect c.requires in (
      omega (arith, c.decreases, nodes_of_record c.args.lower.now c.deref-in-Record-2.result.now lower, nodes_of_record c.args.upper.now c.deref-in-Record-4.result.now upper),
      (
        subst (λ s. IsWellFormed s) (sym lower) wf.0,
        (
          subst (λ s. IsWellFormed s) (sym upper) wf.1,
          record_inside (fields_of c.deref-in-Record-2.result.now) (fields_of c.deref-in-Record-4.result.now) c.args.dialect
              (subst (λ s. IsBelow s (record_of (fields_of c.deref-in-Record-4.result.now)) c.args.dialect) (sym lower)
              (subst (λ s. IsBelow (typ_of c.args.lower.now) s c.args.dialect) (sym upper) c.requires)),
        ),
      ),
    )

pub prove-returns-then-are_by_refl : goal.prove-returns-then-are_by_refl
prove-returns-then-are_by_refl t c =
    let premises = c.in_ok-premises-in-Arrow.premises.items in
    let lower : typ_of c.args.lower.now ≡ arrow (typ_of c.deref.result.now) (typ_of c.deref-in-Arrow.result.now)
    = rw (c.deref.ensures, c.deref-in-Arrow.ensures) (ap typ_of c.in-Arrow-lower.is ∙ typ_of-Arrow c.in-Arrow-lower.lower_parameter c.in-Arrow-lower.lower_outcome) in
    let upper : typ_of c.args.upper.now ≡ arrow (typ_of c.deref-in-Arrow-2.result.now) (typ_of c.deref-in-Arrow-3.result.now)
    = rw (c.deref-in-Arrow-2.ensures, c.deref-in-Arrow-3.ensures) (ap typ_of c.in-Arrow.is ∙ typ_of-Arrow c.in-Arrow.upper_parameter c.in-Arrow.upper_outcome) in
    let by_refl = subst (λ ps. AreByRefl (sub_trees_of ps)) c.deref-in-Arrow-4.ensures.value (c.are_by_refl.ensures.0 c.if-are_by_refl.true) in
    let same = arrows_unchanged _ _ _ _ (claims_of premises) c.in_ok-premises-in-Arrow.ensures.by_rule
    (subst AreReflexive (conclusions-sub_trees_of premises) (refl_claims (sub_trees_of premises) c.args.dialect by_refl c.in_ok-premises-in-Arrow.ensures.proofs)) in
    concluded SubRule.Refl (typ_of c.args.lower.now) (typ_of c.args.upper.now) c.new.result.items c.args.dialect c.conclude.result c.new.ensures.items
    (below_wf _ _ _ c.requires) tt (lower ∙ same ∙ sym upper) c.conclude.ensures

pub prove-returns-else-are_by_refl : goal.prove-returns-else-are_by_refl
prove-returns-else-are_by_refl t c =
    let wf = below_wf _ _ _ c.requires in
    let premises = c.in_ok-premises-in-Arrow.premises.items in
    let lower : typ_of c.args.lower.now ≡ arrow (typ_of c.deref.result.now) (typ_of c.deref-in-Arrow.result.now)
    = rw (c.deref.ensures, c.deref-in-Arrow.ensures) (ap typ_of c.in-Arrow-lower.is ∙ typ_of-Arrow c.in-Arrow-lower.lower_parameter c.in-Arrow-lower.lower_outcome) in
    let upper : typ_of c.args.upper.now ≡ arrow (typ_of c.deref-in-Arrow-2.result.now) (typ_of c.deref-in-Arrow-3.result.now)
    = rw (c.deref-in-Arrow-2.ensures, c.deref-in-Arrow-3.ensures) (ap typ_of c.in-Arrow.is ∙ typ_of-Arrow c.in-Arrow.upper_parameter c.in-Arrow.upper_outcome) in
    let by_rule : BySubRule SubRule.Arrow (claims_of premises) (typ_of c.args.lower.now) (typ_of c.args.upper.now) = rw (lower, upper) c.in_ok-premises-in-Arrow.ensures.by_rule in
    IfOk-weaker c.conclude-in-Arrow.result _ (λ made. ProvesBelow (sub_tree_of made) (typ_of c.args.lower.now) (typ_of c.args.upper.now) c.args.dialect)
    (λ made is. stepped SubRule.Arrow _ _ premises (sub_tree_of made) c.args.dialect wf.0 wf.1 tt by_rule c.in_ok-premises-in-Arrow.ensures.proofs is)
    c.conclude-in-Arrow.ensures

pub prove_sides-returns-clause-by_rule : goal.prove_sides-returns-clause-by_rule
prove_sides-returns-clause-by_rule t c =
    let parameters = claim_is c.in_ok-parameter.parameter _ _ c.args.dialect c.in_ok-parameter.ensures in
    let outcomes = claim_is c.in_ok-outcome.outcome _ _ c.args.dialect c.in_ok-outcome.ensures in
    subst (λ qs. BySubRule SubRule.Arrow (claims_of qs) (arrow (typ_of c.args.lower_parameter.now) (typ_of c.args.lower_outcome.now)) (arrow (typ_of c.args.upper_parameter.now) (typ_of c.args.upper_outcome.now)))
    (sym c.in_ok-premises.ensures.items) (parameters.0, parameters.1, outcomes.0, outcomes.1)

pub prove-returns-in-Some : goal.prove-returns-in-Some
prove-returns-in-Some t c =
    let lower = record_seen c.args.lower.now _ _ c.deref-in-Record-2.result.now c.in-Record-lower.is c.deref-in-Record.ensures c.deref-in-Record-2.ensures.value in
    let upper = record_seen c.args.upper.now _ _ c.deref-in-Record-4.result.now c.in-Record.is c.deref-in-Record-3.ensures c.deref-in-Record-4.ensures.value in
    let steps = subst (λ o. LeadsTo o (record_of (fields_of c.deref-in-Record-2.result.now)) (record_of (fields_of c.deref-in-Record-4.result.now)) c.args.dialect) c.in-Some.is c.in_ok-steps-in-Record.ensures in
    subst (λ s. ProvesBelow (sub_tree_of c.in-Some.proof) s (typ_of c.args.upper.now) c.args.dialect) lower
    (subst (λ s. ProvesBelow (sub_tree_of c.in-Some.proof) (record_of (fields_of c.deref-in-Record-2.result.now)) s c.args.dialect) upper steps)

pub prove-returns-in-None : goal.prove-returns-in-None
prove-returns-in-None t c =
    let lower = record_seen c.args.lower.now _ _ c.deref-in-Record-2.result.now c.in-Record-lower.is c.deref-in-Record.ensures c.deref-in-Record-2.ensures.value in
    let upper = record_seen c.args.upper.now _ _ c.deref-in-Record-4.result.now c.in-Record.is c.deref-in-Record-3.ensures c.deref-in-Record-4.ensures.value in
    let same = subst (λ o. LeadsTo o (record_of (fields_of c.deref-in-Record-2.result.now)) (record_of (fields_of c.deref-in-Record-4.result.now)) c.args.dialect) c.in-None.is c.in_ok-steps-in-Record.ensures in
    concluded SubRule.Refl (typ_of c.args.lower.now) (typ_of c.args.upper.now) c.new-in-None.result.items c.args.dialect c.conclude-in-None.result c.new-in-None.ensures.items
    (below_wf _ _ _ c.requires) tt (sym lower ∙ same ∙ upper) c.conclude-in-None.ensures

pub prove-prove_without_parts-requires : goal.prove-prove_without_parts-requires
prove-prove_without_parts-requires t c = without_parts c.args.upper.now c.in_default.not-Arrow c.in_default.not-Record
