use Rattle.std.proofs.Common.{map, [], ◌∷◌, ◌++◌, subst, sym, ap, ◌∙◌, arith}
use Rattle.std.specs.Prelude.{codes}
use Rattle.std.proofs.lemmas.List.{map-append}
use Rattle.lam_query.specs.Mismatches.{AreExplained}
use Rattle.lam_query.specs.SyntaxFaults.{fault_at}
use Rattle.lam_query.specs.Views.{explained_of}
use Rattle.lam_query.specs.inner.Explained.{unexplained, AreAdded}
use Rattle.lam_query.specs.inner.Kept.{all_faults}
use Rattle.lam_query.proofs.AnalysisAnswers.{rows_in}
use Rattle.lam_query.proofs.ExplainedTexts.{told_fit, large_explained, small_explained, order_seen, explained_stand}
use Rattle.lam_query.proofs.analyses.Analysis.explained_faults.Goals as goal
use Rattle.lam_query.proofs.analyses.Analysis.explained_faults.Goals.{in-Some+in_ok-push-in-Some, in-None+in_ok-push_explained-in-None}

pub returns : goal.returns
returns c =
    let text = c.args.text.now in
    let a = c.args.self.now in
    let order = order_seen _ _ c.in_ok-put_in_order.ensures.order in
    let same = c.in_ok-put_in_order.ensures.same in
    let fits = told_fit text a c.requires (omega arith) in
    let syntax =
    (rw (c.new-all.ensures.items, c.deref.ensures.value) at c.in_ok-push_unexplained.ensures) fits in
    let explained : AreExplained text (map explained_of c.put_in_order.new.all.items) a.dialect = elim c.match-self.branch [
      | in-Some+in_ok-push-in-Some w ↦
          large_explained text a c.requires w.in-Some.span _ _ w.in-Some.is
          (ap (λ v. map explained_of v.items) w.all-is ∙ ap (map explained_of) w.in_ok-push-in-Some.ensures.items ∙ map-append explained_of _ _
          ∙ ap (λ es. es ++ unexplained (fault_at (codes "L1") w.in-Some.span) ∷ []) syntax) same order
      | in-None+in_ok-push_explained-in-None w ↦
          small_explained text a c.requires _ _ _ w.in-None.is syntax
          (λ commands of_text. subst (λ es. AreAdded commands (all_faults (rows_in a)) (map explained_of c.push_unexplained.new.all.items) es a.dialect) (sym (ap (λ v. map explained_of v.items) w.all-is))
          (w.in_ok-push_explained-in-None.ensures commands of_text)) same order
    ] in
    record { explained = explained; whole_characters = explained_stand text c.put_in_order.new.all.items a.dialect c.utf8.text explained }
