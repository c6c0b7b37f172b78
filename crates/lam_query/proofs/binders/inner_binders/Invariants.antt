use Rattle.std.proofs.Common.{◌≡◌, All, drop, get_or, None, IfSome}
use Rattle.lam_scope.specs.declared.numbers.Binder.{Binder}
use Rattle.lam_scope.specs.Numbered.{StandsIfAny}
use Rattle.lam_scope.specs.Tables.{binder_numbered}
use Rattle.lam_scope.specs.Views.{table_of}
use Rattle.lam_typing.specs.Answers.{answer}
use Rattle.lam_typing.specs.Typings.{types_of, entries_in}
use Rattle.lam_query.specs.declared.binders.SeenBinder.{SeenBinder}
use Rattle.lam_query.specs.inner.SeenBinders.{name_seen}
use Rattle.lam_query.proofs.Collected.{IsCollected}
use Rattle.lam_query.proofs.binders.inner_binders.Given as goal

abbrev pub invariant-loop-i : goal.invariant-loop-i
invariant-loop-i l = record {
  names : IsCollected name_seen (λ (b : Binder). (binder_numbered (table_of l.scopes) b.0).name) l.binders.items (drop l.i l.visible.items) (drop l.outer l.visible.items);
  entries : IfSome l.typing (λ t. IsCollected (λ (b : SeenBinder). answer (types_of t.now) b.entry) (λ (b : Binder). get_or (entries_in t.now) b.0 None)
      l.binders.items (drop l.i l.visible.items) (drop l.outer l.visible.items));
  stand : IfSome l.typing (λ t. All (λ b. StandsIfAny (types_of t.now) b.entry) l.binders.items);
  none : l.typing ≡ None → All (λ b. b.entry ≡ None) l.binders.items;
}
