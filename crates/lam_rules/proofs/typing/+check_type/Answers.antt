use Rattle.std.proofs.Common.{refl, arith}
use Rattle.lam_rules.specs.TermViews.{term_of}
use Rattle.lam_rules.specs.TypingSteps.{first_type, subjects}
use Rattle.lam_rules.specs.TypingViews.{entries_of, typings_of}
use Rattle.lam_rules.specs.Parts.{subject_in}
use Rattle.lam_rules.proofs.TypingShapes.{entries_of-Under}
use Rattle.lam_rules.proofs.TypingSteps.{typed_by_parts, premise_here, no_part_here}
use Rattle.lam_rules.proofs.typing.+check_type.Goals as goal

pub check_in-returns-then-not-fits : goal.check_in-returns-then-not-fits
check_in-returns-then-not-fits t c = let apart = typed_by_parts _ _ c.args.proof.now _ in (λ no. cc, λ h. c.if-not-fits.ensures.1 (apart.0 h).1)

pub check_in-returns-then-not-is_side_proof : goal.check_in-returns-then-not-is_side_proof
check_in-returns-then-not-is_side_proof t c = let apart = typed_by_parts _ _ c.args.proof.now _ in (λ no. cc, λ h. c.if-not-is_side_proof.ensures.1 (apart.0 h).2)

pub check_in-returns : goal.check_in-returns
check_in-returns t c =
    let apart = typed_by_parts _ _ c.args.proof.now _ in
    let premises = rw c.deref.ensures.value at c.check_premises.ensures in (
      λ r. apart.1 (c.requires, c.if-not-fits.ensures.0 refl, c.if-not-is_side_proof.ensures.0 refl, premises.0 r),
      λ h. premises.1 (apart.0 h).3,
    )

pub check_premises-returns-in_default : goal.check_premises-returns-in_default
check_premises-returns-in_default t c =
    let g = entries_of c.args.entries.now in
    let ss = subjects c.args.rule g (term_of c.args.term.now) (first_type (typings_of c.args.premises.now)) in (
      λ no. cc,
      λ all. absurd (no_part_here ss c.args.premises.now c.loop-k.k c.index-premises-k.result c.args.dialect c.loop-k-test.true c.index-premises-k.is (rw (c.in_default.is, c.first_type-first.ensures) at c.part_of.ensures g) (c.loop-k.invariant.0 all)),
    )

pub check_premises-returns-then-not-check_part : goal.check_premises-returns-then-not-check_part
check_premises-returns-then-not-check_part t c =
    let g = entries_of c.args.entries.now in
    let ss = subjects c.args.rule g (term_of c.args.term.now) (first_type (typings_of c.args.premises.now)) in
    let here = premise_here ss c.args.premises.now c.loop-k.k (subject_in g c.in-Some.part) c.index-premises-k.result c.args.dialect c.loop-k-test.true c.index-premises-k.is (rw (c.in-Some.is, c.first_type-first.ensures) at c.part_of.ensures g) in
    (λ no. cc, λ all. c.if-not-check_part.ensures.1 (here.0 (c.loop-k.invariant.0 all)).0)

pub check_premises-loop-k-preserved : goal.check_premises-loop-k-preserved
check_premises-loop-k-preserved t c =
    let g = entries_of c.args.entries.now in
    let ss = subjects c.args.rule g (term_of c.args.term.now) (first_type (typings_of c.args.premises.now)) in
    let here = premise_here ss c.args.premises.now c.loop-k.k (subject_in g c.in-Some.part) c.index-premises-k.result c.args.dialect c.loop-k-test.true c.index-premises-k.is (rw (c.in-Some.is, c.first_type-first.ensures) at c.part_of.ensures g) in (
      λ all. (here.0 (c.loop-k.invariant.0 all)).1,
      λ rest. c.loop-k.invariant.1 (here.1 (c.if-not-check_part.ensures.0 refl, rest)),
    )

pub check_part-check_in-requires-in-Under : goal.check_part-check_in-requires-in-Under
check_part-check_in-requires-in-Under t c = grind (arith, entries_of-Under)

pub check_part-returns-else-not-wf_entry : goal.check_part-returns-else-not-wf_entry
check_part-returns-else-not-wf_entry t c = grind (arith, entries_of-Under)
