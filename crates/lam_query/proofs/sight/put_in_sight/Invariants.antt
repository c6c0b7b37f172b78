use Rattle.std.proofs.Common.{◌≡◌, drop, IfSome}
use Rattle.std.specs.Option.{option_map}
use Rattle.lam_scope.specs.Names.{Name}
use Rattle.lam_query.specs.inner.Sight.{detail_after, detail_for, AreTexts}
use Rattle.lam_query.proofs.sight.put_in_sight.Given as goal

abbrev pub invariant-loop-i : goal.invariant-loop-i
invariant-loop-i l = record {
  texts : IfSome l.table (λ t. AreTexts t.now l.texts);
  after : (x : Name) → detail_after (option_map (λ t. t.now) l.table) x (detail_for l.details x) (drop l.i l.binders)
      ≡ detail_after (option_map (λ t. t.now) l.table) x (detail_for l.fn.details x) l.binders;
}
