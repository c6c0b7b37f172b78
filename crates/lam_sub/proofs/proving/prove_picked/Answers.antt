use Rattle.std.proofs.Common.{refl, subst, sym, ap}
use Rattle.std.proofs.lemmas.Result.{IfOk-weaker}
use Rattle.lam_rules.specs.Types.{record_of, AreWellFormed, Has}
use Rattle.lam_rules.specs.TypeViews.{fields_of}
use Rattle.lam_rules.specs.declared.rules.Dialect.{Dialect}
use Rattle.lam_sub.specs.inner.Steps.{LeadsTo}
use Rattle.lam_sub.proofs.Arranging.{arranged, picked_are, picked_wf, arranged_wf}
use Rattle.lam_sub.proofs.UnchangedRecords.{same_if}
use Rattle.lam_sub.proofs.Steps.{arranged_is, permutation_by, width_by, no_premises}
use Rattle.lam_sub.proofs.proving.prove_picked.Goals as goal

pub record_step-requires-clause-lower : goal.record_step-requires-clause-lower
record_step-requires-clause-lower c = subst (λ hs. AreWellFormed hs) (sym c.in_ok-fields.ensures) c.requires.lower

pub record_step-requires-clause-upper : goal.record_step-requires-clause-upper
record_step-requires-clause-upper c =
    subst (λ hs. AreWellFormed hs)
    (sym (arranged_is _ _ _ _ _ (fields_of c.args.lower.now) (fields_of c.args.upper.now) c.requires.front refl c.in_ok-arranged.ensures c.in_ok-append_others.ensures c.deref.ensures.value))
    (arranged_wf (fields_of c.args.lower.now) (fields_of c.args.upper.now) c.requires.lower c.requires.upper c.requires.labels)

pub record_step-requires-clause-by_rule : goal.record_step-requires-clause-by_rule
record_step-requires-clause-by_rule c =
    rw c.in_ok-fields.ensures
    (permutation_by (fields_of c.args.lower.now) (fields_of c.args.upper.now) _ _ c.new.ensures.items
    (arranged_is _ _ _ _ _ (fields_of c.args.lower.now) (fields_of c.args.upper.now) c.requires.front refl c.in_ok-arranged.ensures c.in_ok-append_others.ensures c.deref.ensures.value)
    c.requires.lower c.requires.upper c.requires.labels)

pub record_step-requires-2-clause-lower : goal.record_step-requires-2-clause-lower
record_step-requires-2-clause-lower c =
    subst (λ hs. AreWellFormed hs)
    (sym (arranged_is _ _ _ _ _ (fields_of c.args.lower.now) (fields_of c.args.upper.now) c.requires.front refl c.in_ok-arranged.ensures c.in_ok-append_others.ensures refl))
    (arranged_wf (fields_of c.args.lower.now) (fields_of c.args.upper.now) c.requires.lower c.requires.upper c.requires.labels)

pub record_step-requires-2-clause-upper : goal.record_step-requires-2-clause-upper
record_step-requires-2-clause-upper c =
    subst (λ hs. AreWellFormed hs) (sym c.requires.front)
    (picked_wf (fields_of c.args.lower.now) (fields_of c.args.upper.now) c.requires.lower c.requires.upper c.requires.labels)

pub record_step-requires-2-clause-by_rule : goal.record_step-requires-2-clause-by_rule
record_step-requires-2-clause-by_rule c =
    width_by (fields_of c.args.lower.now) (fields_of c.args.upper.now) _ _ _ c.new-2.ensures.items
    (arranged_is _ _ _ _ _ (fields_of c.args.lower.now) (fields_of c.args.upper.now) c.requires.front refl c.in_ok-arranged.ensures c.in_ok-append_others.ensures refl)
    c.requires.front

pub returns : goal.returns
returns c =
    let fs = fields_of c.args.lower.now in
    let gs = fields_of c.args.upper.now in
    let front = fields_of c.args.front.now in
    IfOk-weaker c.chain.result _ (λ made. (d : Dialect) → LeadsTo made (record_of fs) (record_of front) d)
    (λ made leads d. leads (record_of fs) (record_of (arranged fs gs)) (record_of front) d
    (subst (λ hs. LeadsTo c.in_ok-permuted.permuted (record_of hs) (record_of (arranged fs gs)) d) c.in_ok-fields.ensures
    (subst (λ hs. LeadsTo c.in_ok-permuted.permuted (record_of (fields_of c.in_ok-fields.fields.items)) (record_of hs) d)
    (arranged_is _ _ _ _ _ fs gs c.requires.front refl c.in_ok-arranged.ensures c.in_ok-append_others.ensures c.deref.ensures.value)
    (c.in_ok-permuted.ensures d tt (no_premises _ d c.new.ensures.items))))
    (subst (λ hs. LeadsTo c.in_ok-cut.cut (record_of hs) (record_of front) d)
    (arranged_is _ _ _ _ _ fs gs c.requires.front refl c.in_ok-arranged.ensures c.in_ok-append_others.ensures refl)
    (c.in_ok-cut.ensures d tt (no_premises _ d c.new-2.ensures.items)))) c.chain.ensures

pub returns-then-have_same_labels : goal.returns-then-have_same_labels
returns-then-have_same_labels c = λ d.
    let fs = fields_of c.args.lower.now in
    let gs = fields_of c.args.upper.now in
    ap record_of (same_if fs fs (fields_of c.args.front.now) c.requires.lower (λ l t has. has)
    (λ l t has. (picked_are fs gs c.requires.labels l t (subst (λ hs. Has l t hs) c.requires.front has)).0)
    (c.have_same_labels.ensures.0 c.if-have_same_labels.true))
