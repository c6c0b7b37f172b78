use Rattle.std.proofs.Common.{◌∙◌, sym, subst, string_bytes}
use Rattle.std.proofs.lemmas.List.{drop_all}
use Rattle.lam_rules.specs.Types.{Has, IsAbsent}
use Rattle.lam_rules.specs.TypeViews.{typ_of, fields_of}
use Rattle.lam_rules.proofs.TypeShapes.{joined-none}
use Rattle.lam_rules.proofs.Permutations.{absent_not}
use Rattle.lam_sub.proofs.LookUps.{item_has}
use Rattle.lam_sub.proofs.Arranging.{type_under_is}
use Rattle.lam_sub.proofs.Steps.{picked_more}
use Rattle.lam_sub.proofs.proving.picked_fields.Goals as goal

pub unreachable-requires : goal.unreachable-requires
unreachable-requires c =
    let asked = item_has c.args.asked.now c.loop-i.i c.index-asked-i.result c.loop-i-test.true c.index-asked-i.is in
    let found = c.requires.labels (string_bytes c.index-asked-i.result.0) (typ_of c.index-asked-i.result.1) asked in
    absent_not (string_bytes c.index-asked-i.result.0) (fields_of c.args.fields.now) found.0
    (subst (λ l. IsAbsent l (fields_of c.args.fields.now)) c.deref.ensures c.in_default.ensures.absent) found.1

pub loop-i-preserved : goal.loop-i-preserved
loop-i-preserved c =
    picked_more c.loop-i.copies.items c.push.new.self.items (fields_of c.args.fields.now) c.args.asked.now c.loop-i.i c.index-asked-i.result (c.in_ok-label.label, c.in_ok-copy.copy) _
    c.loop-i-test.true c.index-asked-i.is c.in_ok-push.ensures.items c.in_ok-label.ensures.cases
    (c.in_ok-copy.ensures ∙ sym (type_under_is (string_bytes c.index-asked-i.result.0) (typ_of c.in-Some.ty.now) (fields_of c.args.fields.now) c.requires.wf
    (subst (λ l. Has l (typ_of c.in-Some.ty.now) (fields_of c.args.fields.now)) c.deref.ensures c.in-Some.ensures.found)))
    c.loop-i.invariant

pub returns : goal.returns
returns c = rw (drop_all c.loop-i.i c.args.asked.now c.loop-i-test.false, joined-none) at c.loop-i.invariant
