use Rattle.std.proofs.Common.{refl, arith}
use Rattle.std.proofs.lemmas.Result.{err_from_is_err_and}
use Rattle.std.proofs.lemmas.List.Elements.{All-map}
use Rattle.lam_query.specs.Views.{step_of}
use Rattle.lam_session.specs.Derivations.{step_value}
use Rattle.lam_check.specs.Readable.{IsReadableConclusion}
use Rattle.lam_check.specs.Unreadable.{IsReadableStep, IsWrongStep}
use Rattle.lam_check.proofs.ReadValues.{one_more, one_more_readable, all_read_through}
use Rattle.lam_check.proofs.Unreadable.{first_wrong}
use Rattle.lam_check.proofs.read_derivations.steps_in.Goals as goal

pub returns-in_err-step-clause-unread : goal.returns-in_err-step-clause-unread
returns-in_err-step-clause-unread c =
    let told = err_from_is_err_and c.from_residual.result c.from_residual.ensures.1 in
    rw (told.1, told.2) (λ other.
    let d = c.args.doc.now in
    first_wrong (IsReadableStep d.encoding d.text) (IsWrongStep d.encoding d.text) (λ s. step_value d.encoding d.text (step_of s)) (λ s. IsReadableConclusion d.text (step_of s).conclusion) (λ s h. (step_of s, h, refl))
    c.args.values.now c.loop-i.i c.index-values-i.result c.loop-i.steps.items c.in_err-step.field-0.0 (omega arith) c.index-values-i.is c.loop-i.invariant.read c.loop-i.invariant.readable (c.in_err-step.ensures.unread other))

pub returns-clause-read : goal.returns-clause-read
returns-clause-read c = all_read_through (step_value c.args.doc.now.encoding c.args.doc.now.text) step_of c.args.values.now c.loop-i.i c.loop-i.steps.items (omega arith) c.loop-i.invariant.read

pub returns-clause-readable : goal.returns-clause-readable
returns-clause-readable c = All-map (λ s. IsReadableConclusion c.args.doc.now.text s.conclusion) step_of c.loop-i.steps.items c.loop-i.invariant.readable

pub loop-i-preserved : goal.loop-i-preserved
loop-i-preserved c = record {
  read = one_more (λ s. step_value c.args.doc.now.encoding c.args.doc.now.text (step_of s)) c.args.values.now c.loop-i.i c.index-values-i.result c.loop-i.steps.items c.push.new.self.items c.in_ok-step.step
      (omega arith) c.index-values-i.is c.in_ok-step.ensures.read c.in_ok-push.ensures.items c.loop-i.invariant.read;
  readable = one_more_readable (λ s. IsReadableConclusion c.args.doc.now.text (step_of s).conclusion) c.loop-i.steps.items c.push.new.self.items c.in_ok-step.step
      c.in_ok-push.ensures.items c.loop-i.invariant.readable c.in_ok-step.ensures.readable;
}
