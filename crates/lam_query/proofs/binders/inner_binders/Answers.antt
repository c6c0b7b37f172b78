use Rattle.std.proofs.Common.{◌≡◌, ◌<◌, ◌≤◌, length, drop, get_or, All, None, subst, sym, ap, ◌∙◌, arith}
use Rattle.std.proofs.lemmas.List.Elements.{All-push}
use Rattle.lam_scope.specs.declared.numbers.Binder.{Binder}
use Rattle.lam_scope.specs.Numbered.{StandsIfAny}
use Rattle.lam_scope.specs.Tables.{binder_numbered}
use Rattle.lam_scope.specs.Views.{table_of}
use Rattle.lam_typing.specs.Answers.{answer}
use Rattle.lam_typing.specs.Typings.{types_of, entries_in}
use Rattle.lam_query.specs.declared.binders.SeenBinder.{SeenBinder}
use Rattle.lam_query.specs.inner.SeenBinders.{name_seen}
use Rattle.lam_query.proofs.InnerBinders.{one_taken, all_taken, if_both, if_one}
use Rattle.lam_query.proofs.binders.inner_binders.Goals as goal

pub loop-i-preserved : goal.loop-i-preserved
loop-i-preserved c =
    let v = c.in_ok-visible.visible.items in
    let b = c.index-binder.result.now in
    let lt : c.loop-i.i < length v = omega (arith, c.loop-i-test.true, c.len-i-end.ensures, c.in_ok-visible.visible.ok.0) in
    record {
      names = one_taken name_seen (λ (b : Binder). (binder_numbered (table_of c.args.scopes.now) b.0).name) v (drop c.args.outer v) c.loop-i.i b c.loop-i.binders.items _ _
          lt c.in_ok-push.ensures.items
          (c.bound_name.ensures ∙ ap (λ (b : Binder). (binder_numbered (table_of c.args.scopes.now) b.0).name) c.index-binder.ensures) c.loop-i.invariant.names;
      entries = if_both c.args.typing _ _ _
          (λ t before found.
          one_taken (λ (b : SeenBinder). answer (types_of t.now) b.entry) (λ (b : Binder). get_or (entries_in t.now) b.0 None) v (drop c.args.outer v) c.loop-i.i b
          c.loop-i.binders.items _ _ lt c.in_ok-push.ensures.items
          (found.0 ∙ ap (λ (b : Binder). get_or (entries_in t.now) b.0 None) c.index-binder.ensures) before)
          c.loop-i.invariant.entries c.entry_of.ensures.some;
      stand = if_both c.args.typing _ _ _
          (λ t before found.
          subst (All (λ (b : SeenBinder). StandsIfAny (types_of t.now) b.entry)) (sym c.in_ok-push.ensures.items)
          (All-push (λ (b : SeenBinder). StandsIfAny (types_of t.now) b.entry) c.loop-i.binders.items _ before found.1))
          c.loop-i.invariant.stand c.entry_of.ensures.some;
      none = λ untyped.
          subst (All (λ (b : SeenBinder). b.entry ≡ None)) (sym c.in_ok-push.ensures.items)
          (All-push (λ (b : SeenBinder). b.entry ≡ None) c.loop-i.binders.items _ (c.loop-i.invariant.none untyped) (c.entry_of.ensures.none untyped));
    }

pub returns-clause-names : goal.returns-clause-names
returns-clause-names c =
    let v = c.in_ok-visible.visible.items in
    let le : length v ≤ c.loop-i.i = omega (arith, c.loop-i-test.false, c.len-i-end.ensures, c.in_ok-visible.visible.ok.0) in
    all_taken name_seen (λ b. (binder_numbered (table_of c.args.scopes.now) b).name) v _ c.args.outer c.loop-i.i c.loop-i.binders.items c.in_ok-visible.ensures le
    c.loop-i.invariant.names

pub returns-clause-entries : goal.returns-clause-entries
returns-clause-entries c =
    let v = c.in_ok-visible.visible.items in
    let le : length v ≤ c.loop-i.i = omega (arith, c.loop-i-test.false, c.len-i-end.ensures, c.in_ok-visible.visible.ok.0) in
    if_one c.args.typing _ _
    (λ t all.
    all_taken (λ (b : SeenBinder). answer (types_of t.now) b.entry) (λ b. get_or (entries_in t.now) b None) v _ c.args.outer c.loop-i.i c.loop-i.binders.items
    c.in_ok-visible.ensures le all)
    c.loop-i.invariant.entries
