use Rattle.std.proofs.Common.{subst, string_bytes, drop, ◌+◌}
use Rattle.std.proofs.lemmas.List.{drop_all}
use Rattle.lam_rules.specs.Types.{Has, IsAbsent}
use Rattle.lam_rules.specs.TypeViews.{typ_of, fields_of}
use Rattle.lam_rules.proofs.TypeShapes.{fields_of-drop, joined-none}
use Rattle.lam_sub.proofs.LookUps.{some_there, none_there, append_known, append_new}
use Rattle.lam_sub.proofs.fields.append_others.Goals as goal

pub loop-i-preserved-then-is_some : goal.loop-i-preserved-then-is_some
loop-i-preserved-then-is_some c =
    let found = some_there c.field_type.result c.is_some.result c.is_some.ensures c.if-is_some.true c.field_type.ensures.found in
    append_known (fields_of c.loop-i.fields.items) (fields_of (drop (c.loop-i.i + 1) c.args.more.now)) (string_bytes c.index-more-i.result.0) (typ_of c.index-more-i.result.1) (typ_of found.0.now) (fields_of c.args.known.now) _
    (subst (λ l. Has l (typ_of found.0.now) (fields_of c.args.known.now)) c.deref.ensures found.1)
    (rw (fields_of-drop c.args.more.now c.loop-i.i c.index-more-i.result c.loop-i-test.true c.index-more-i.is) at c.loop-i.invariant)

pub loop-i-preserved : goal.loop-i-preserved
loop-i-preserved c =
    let absent = none_there c.field_type.result c.is_some.result c.is_some.ensures c.if-is_some.false c.field_type.ensures.absent in
    append_new c.loop-i.fields.items c.push.new.self.items (fields_of (drop (c.loop-i.i + 1) c.args.more.now)) c.index-more-i.result (c.in_ok-label.label, c.in_ok-ty.ty) (fields_of c.args.known.now) _
    (subst (λ l. IsAbsent l (fields_of c.args.known.now)) c.deref.ensures absent)
    c.in_ok-push.ensures.items c.in_ok-label.ensures.cases c.in_ok-ty.ensures
    (rw (fields_of-drop c.args.more.now c.loop-i.i c.index-more-i.result c.loop-i-test.true c.index-more-i.is) at c.loop-i.invariant)

pub returns : goal.returns
returns c = rw (drop_all c.loop-i.i c.args.more.now c.loop-i-test.false, joined-none) at c.loop-i.invariant
