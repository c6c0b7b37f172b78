use Rattle.std.specs.List.{All}
use Rattle.lam_query.specs.Views.{step_of}
use Rattle.lam_session.specs.Derivations.{step_value}
use Rattle.lam_check.specs.Readable.{IsReadableConclusion}
use Rattle.lam_check.proofs.ReadValues.{AreReadTo}
use Rattle.lam_check.proofs.read_derivations.steps_in.Given as goal

abbrev pub invariant-loop-i : goal.invariant-loop-i
invariant-loop-i l = record {
  read : AreReadTo (λ s. step_value l.doc.encoding l.doc.text (step_of s)) l.values l.i l.steps.items;
  readable : All (λ s. IsReadableConclusion l.doc.text (step_of s).conclusion) l.steps.items;
}
