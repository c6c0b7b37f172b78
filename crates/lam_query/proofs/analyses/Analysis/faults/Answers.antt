use Rattle.std.proofs.Common.{map, [], ◌∷◌, ◌++◌, ap, ◌∙◌}
use Rattle.std.specs.Prelude.{codes}
use Rattle.std.proofs.lemmas.List.{map-append}
use Rattle.lam_query.specs.SyntaxFaults.{fault_at}
use Rattle.lam_query.specs.TextFaults.{AreFaults}
use Rattle.lam_query.specs.Views.{fault_of}
use Rattle.lam_query.proofs.AnalysisAnswers.{large_faults, small_faults}
use Rattle.lam_query.proofs.FaultPlaces.{faults_stand}
use Rattle.lam_query.proofs.analyses.Analysis.faults.Goals as goal
use Rattle.lam_query.proofs.analyses.Analysis.faults.Goals.{in-Some+in_ok-push-in-Some, in-None+in_ok-extend_from_slice-in-None}

pub returns : goal.returns
returns c =
    let text = c.args.text.now in
    let a = c.args.self.now in
    let order = c.in_ok-put_in_order.ensures in
    let syntax = ap (map fault_of) (rw (c.new-found.ensures.items, c.deref.ensures.value) at c.in_ok-extend_from_slice.ensures.items) ∙ c.requires.syntax in
    let faults : AreFaults text (map fault_of c.put_in_order.new.faults.items) a.dialect = elim c.match-self.branch [
      | in-Some+in_ok-push-in-Some w ↦
          large_faults text a _ _ _ c.requires w.in-Some.is
          (ap (λ v. map fault_of v.items) w.found-is ∙ ap (map fault_of) w.in_ok-push-in-Some.ensures.items ∙ map-append fault_of _ _
          ∙ ap (λ fs. fs ++ fault_at (codes "L1") w.in-Some.span ∷ []) syntax) order
      | in-None+in_ok-extend_from_slice-in-None w ↦
          small_faults text a _ _ c.requires w.in-None.is
          (ap (λ v. map fault_of v.items) w.found-is ∙ ap (map fault_of) (rw w.deref-in-None.ensures.value at w.in_ok-extend_from_slice-in-None.ensures.items)
          ∙ map-append fault_of _ _ ∙ (λ j. syntax j ++ c.requires.found w.in-None.is j)) order
    ] in
    record { faults = faults; whole_characters = faults_stand text c.put_in_order.new.faults.items a.dialect c.utf8.text faults }
