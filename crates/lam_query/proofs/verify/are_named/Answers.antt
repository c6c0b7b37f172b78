use Rattle.std.proofs.Common.{ap, sym, ◌∙◌, refl, arith}
use Rattle.lam_scope.specs.Names.{shown_name}
use Rattle.lam_scope.specs.Tables.{binder_numbered}
use Rattle.lam_scope.specs.TableViews.{binder_number}
use Rattle.lam_scope.specs.Views.{table_of}
use Rattle.lam_query.specs.Views.{entry_of}
use Rattle.lam_query.proofs.Verifying.{never, equal_texts, other_texts, same_there, same_front, same_lists, through, straight}
use Rattle.lam_query.proofs.verify.are_named.Goals as goal

pub returns-then-ne : goal.returns-then-ne
returns-then-ne c =
    let t = table_of c.args.scopes.now in (
      λ b. never b,
      λ same. absurd (other_texts c.as_str.result.now c.name_of.result.now c.if-ne.ensures
          (c.as_str.ensures.value
          ∙ ap (λ e. (entry_of e).name) c.index-context-i.is
          ∙ same_there (λ e. (entry_of e).name) (λ b. shown_name (binder_numbered t b.0).name) c.args.context.now c.args.binders.now c.loop-i.i c.index-context-i.result _ (omega arith)
          (straight (λ e. e.name) entry_of (λ b. shown_name (binder_numbered t b).name) binder_number c.args.context.now c.args.binders.now same)
          ∙ sym c.name_of.ensures)),
    )

pub loop-i-preserved : goal.loop-i-preserved
loop-i-preserved c =
    let t = table_of c.args.scopes.now in
    same_front (λ e. (entry_of e).name) (λ b. shown_name (binder_numbered t b.0).name) c.args.context.now c.args.binders.now c.loop-i.i c.index-context-i.result _ (omega arith) (omega arith)
    (ap (λ e. (entry_of e).name) (sym c.index-context-i.is) ∙ sym c.as_str.ensures.value ∙ equal_texts c.as_str.result.now c.name_of.result.now c.if-ne.ensures ∙ c.name_of.ensures) c.loop-i.invariant

pub returns : goal.returns
returns c =
    let t = table_of c.args.scopes.now in (
      λ _. through (λ e. e.name) entry_of (λ b. shown_name (binder_numbered t b).name) binder_number c.args.context.now c.args.binders.now
          (same_lists (λ e. (entry_of e).name) (λ b. shown_name (binder_numbered t b.0).name) c.args.context.now c.args.binders.now c.loop-i.i (omega arith) (omega arith) c.loop-i.invariant),
      λ same. refl,
    )
