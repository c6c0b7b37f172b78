use Rattle.std.proofs.Common.{sym, subst}
use Rattle.lam_rules.specs.Types.{Has, IsAbsent}
use Rattle.lam_rules.specs.Numbers.{type_of, fields_over, AreEarlier}
use Rattle.lam_rules.proofs.TableFields.{below-push}
use Rattle.lam_rules.proofs.TableEntries.{below_read}
use Rattle.lam_sub.proofs.LookUps.{some_there, none_there}
use Rattle.lam_lattice.proofs.SideBySide.{others_known, others_new, others_all}
use Rattle.lam_lattice.proofs.matching.others.Goals as goal

pub loop-i-preserved-then-is_some : goal.loop-i-preserved-then-is_some
loop-i-preserved-then-is_some c =
    let found = some_there c.field_number.result c.is_some.result c.is_some.ensures c.if-is_some.true c.field_number.ensures.found in
    record {
      below = c.loop-i.invariant.below;
      others = λ ts.
          others_known ts c.loop-i.made.items c.args.right.now c.args.left.now c.loop-i.i c.index-right-i.result (type_of ts found.0) c.loop-i-test.true c.index-right-i.is
          (subst (λ l. Has l (type_of ts found.0) (fields_over ts c.args.left.now)) c.deref.ensures (found.1 ts)) (c.loop-i.invariant.others ts);
    }

pub loop-i-preserved : goal.loop-i-preserved
loop-i-preserved c =
    let absent = none_there c.field_number.result c.is_some.result c.is_some.ensures c.if-is_some.false c.field_number.ensures.absent in
    record {
      below = λ n below.
          subst (λ fs. AreEarlier n fs) (sym c.in_ok-push.ensures.items)
          (below-push n c.loop-i.made.items (c.in_ok-label.label, c.index-right-i.result.1) (c.loop-i.invariant.below n below)
          (below_read n c.args.right.now c.loop-i.i c.index-right-i.result below c.loop-i-test.true c.index-right-i.is));
      others = λ ts.
          others_new ts c.loop-i.made.items c.push.new.self.items c.args.right.now c.args.left.now c.loop-i.i c.index-right-i.result c.in_ok-label.label c.loop-i-test.true c.index-right-i.is
          (subst (λ l. IsAbsent l (fields_over ts c.args.left.now)) c.deref.ensures (absent ts)) c.in_ok-push.ensures.items c.in_ok-label.ensures.cases (c.loop-i.invariant.others ts);
    }

pub returns-clause-others : goal.returns-clause-others
returns-clause-others c = λ ts. others_all ts c.loop-i.made.items c.args.right.now c.args.left.now c.loop-i.i c.loop-i-test.false (c.loop-i.invariant.others ts)
