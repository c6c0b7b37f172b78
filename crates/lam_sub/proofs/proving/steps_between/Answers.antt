use Rattle.std.proofs.Common.{Option, sym, subst}
use Rattle.std.proofs.lemmas.Result.{IfOk-weaker}
use Rattle.lam_rules.specs.Types.{Typ, record_of, AreWellFormed}
use Rattle.lam_rules.specs.TypeViews.{fields_of}
use Rattle.lam_rules.specs.Subtyping.{GoesFieldByField, AreSubProofs}
use Rattle.lam_rules.specs.SubViews.{claims_of, sub_trees_of}
use Rattle.lam_rules.specs.declared.rules.Dialect.{Dialect}
use Rattle.lam_rules.specs.declared.subtyping.SubProof.{SubProof}
use Rattle.lam_sub.specs.inner.Arranging.{picked}
use Rattle.lam_sub.specs.inner.Steps.{LeadsTo}
use Rattle.lam_sub.proofs.Arranging.{picked_wf}
use Rattle.lam_sub.proofs.Steps.{picked_is}
use Rattle.lam_sub.proofs.proving.steps_between.Goals as goal

pub prove_picked-requires-clause-front : goal.prove_picked-requires-clause-front
prove_picked-requires-clause-front c = picked_is _ _ (fields_of c.args.lower.now) (fields_of c.args.upper.now) c.in_ok-picked.ensures c.deref.ensures.value

pub record_step-requires-clause-lower : goal.record_step-requires-clause-lower
record_step-requires-clause-lower c =
    subst (λ hs. AreWellFormed hs) (sym c.in_ok-picked.ensures)
    (picked_wf (fields_of c.args.lower.now) (fields_of c.args.upper.now) c.requires.lower c.requires.upper c.requires.labels)

pub record_step-requires-clause-by_rule : goal.record_step-requires-clause-by_rule
record_step-requires-clause-by_rule c =
    subst (λ hs. GoesFieldByField hs (fields_of c.args.upper.now) (claims_of c.args.premises.items))
    (sym c.in_ok-picked.ensures) c.requires.premises

pub returns : goal.returns
returns c =
    let fs = fields_of c.args.lower.now in
    let gs = fields_of c.args.upper.now in
    let leads : (made : Option SubProof) → ((s u t : Typ) (d : Dialect) → LeadsTo c.in_ok-cut.cut s u d → LeadsTo c.in_ok-widened.widened u t d → LeadsTo made s t d)
    → (d : Dialect) → AreSubProofs (sub_trees_of c.args.premises.items) d → LeadsTo made (record_of fs) (record_of gs) d
    = (λ made chains d all.
    let cut = subst (λ hs. LeadsTo c.in_ok-cut.cut (record_of fs) (record_of hs) d)
    (picked_is _ _ fs gs c.in_ok-picked.ensures c.deref.ensures.value) (c.in_ok-cut.ensures d) in
    let widened = subst (λ hs. LeadsTo c.in_ok-widened.widened (record_of hs) (record_of gs) d)
    c.in_ok-picked.ensures
    (c.in_ok-widened.ensures d tt all) in
    chains (record_of fs) (record_of (picked fs gs)) (record_of gs) d cut widened) in
    IfOk-weaker c.chain.result _ (λ made. (d : Dialect) → AreSubProofs (sub_trees_of c.args.premises.items) d → LeadsTo made (record_of fs) (record_of gs) d)
    leads c.chain.ensures
