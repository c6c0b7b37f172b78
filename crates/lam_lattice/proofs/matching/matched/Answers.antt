use Rattle.std.proofs.Common.{List, refl, subst, IfSome, IfNone}
use Rattle.lam_rules.specs.Types.{Typ, Has, IsAbsent}
use Rattle.lam_rules.specs.Numbers.{type_of, fields_over}
use Rattle.lam_lattice.proofs.SideBySide.{matched_next}
use Rattle.lam_lattice.proofs.matching.matched.Goals as goal

pub loop-i-preserved : goal.loop-i-preserved
loop-i-preserved c =
    matched_next c.args.right.now c.args.left.now c.loop-i.made.items c.push.new.self.items c.loop-i.i c.index-left-i.result _
    c.loop-i.invariant c.loop-i-test.true c.index-left-i.is c.in_ok-push.ensures.items
    record {
      label = c.in_ok-label.ensures.cases;
      left = refl;
      below = c.field_number-number.ensures.below;
      some = subst (λ l. IfSome c.field_number-number.result (λ number. (ts : List Typ) → Has l (type_of ts number) (fields_over ts c.args.right.now))) c.deref.ensures c.field_number-number.ensures.found;
      none = subst (λ l. IfNone c.field_number-number.result ((ts : List Typ) → IsAbsent l (fields_over ts c.args.right.now))) c.deref.ensures c.field_number-number.ensures.absent;
    }
