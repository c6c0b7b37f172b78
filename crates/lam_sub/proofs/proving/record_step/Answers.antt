use Rattle.std.proofs.Common.{◌∙◌, ap, subst}
use Rattle.lam_rules.specs.Types.{record_of}
use Rattle.lam_rules.specs.TypeViews.{fields_of}
use Rattle.lam_rules.specs.SubViews.{claims_of, sub_trees_of}
use Rattle.lam_rules.proofs.SubShapes.{conclusions-sub_trees_of}
use Rattle.lam_sub.specs.inner.Unchanged.{AreByRefl, HaveSameLabels}
use Rattle.lam_sub.proofs.Steps.{stepped, step_made}
use Rattle.lam_sub.proofs.UnchangedRecords.{AreReflexive, refl_claims, unchanged}
use Rattle.lam_sub.proofs.proving.record_step.Goals as goal

pub returns : goal.returns
returns c = λ d of all.
    stepped c.args.rule (record_of (fields_of c.args.lower.items)) (record_of (fields_of c.args.upper.now)) c.args.premises.items _ d
    c.requires.lower c.requires.upper of c.requires.by_rule all
    (step_made c.args.rule c.in_ok-lower.lower c.in_ok-upper.upper c.args.premises _ _
    c.in_ok-lower.ensures (c.in_ok-upper.ensures ∙ ap record_of c.in_ok-fields.ensures))

pub returns-then-are_by_refl : goal.returns-then-are_by_refl
returns-then-are_by_refl c = λ d of all.
    ap record_of (unchanged c.args.rule (fields_of c.args.lower.items) (fields_of c.args.upper.now) (claims_of c.args.premises.items) c.requires.lower c.requires.by_rule
    (subst (λ fs. HaveSameLabels (fields_of fs) (fields_of c.args.upper.now)) c.deref.ensures.value (c.have_same_labels.ensures.0 c.if-have_same_labels.true))
    (subst AreReflexive (conclusions-sub_trees_of c.args.premises.items)
    (refl_claims (sub_trees_of c.args.premises.items) d
    (subst (λ ps. AreByRefl (sub_trees_of ps)) c.deref-then-have_same_labels.ensures.value (c.are_by_refl.ensures.0 c.if-are_by_refl.true)) all)))
