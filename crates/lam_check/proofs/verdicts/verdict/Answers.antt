use Rattle.std.proofs.Common.{◌≡◌, Some, ◌∙◌}
use Rattle.serde_json.specs.View.{view}
use Rattle.lam_query.specs.Views.{derivation_of}
use Rattle.lam_session.specs.Derivations.{derivation_value}
use Rattle.lam_check.specs.Readable.{IsReadable}
use Rattle.lam_check.specs.Unreadable.{IsWrongFor}
use Rattle.lam_check.specs.Verified.{IsVerifiedValue}
use Rattle.lam_check.proofs.Accepting.{in_text, proof_readable, steps_stand, no_proof, none_counted, one_counted, accepted_report, refused_report, unread_report}
use Rattle.lam_check.proofs.Unreadable.{wrong_for}
use Rattle.lam_check.proofs.VerifiedRanges.{readable_types}
use Rattle.lam_check.proofs.verdicts.verdict.Goals as goal

pub accepted-requires : goal.accepted-requires
accepted-requires c = steps_stand c.args.text.now c.in-Ok.derivation.steps.items (rw c.in_ok-doc.ensures.text at c.in-Ok.ensures.readable).steps

pub returns-in-Err : goal.returns-in-Err
returns-in-Err c =
    let text = c.args.text.now in
    let value = view c.args.value.now in
    let told = c.in_ok-unread_message-in-Err.ensures in
    let right = in_text (λ e t. IsWrongFor e t value c.in-Err.fault) c.in_ok-doc.ensures.encoding c.in_ok-doc.ensures.text (c.in-Err.ensures.unread told.not_memory) in
    record {
      accepted = one_counted c.args.encoding text value c.args.dialect c.refused.result (λ proof. wrong_for c.args.encoding text value c.in-Err.fault right proof.0.derivation (proof_readable c.args.encoding text value c.args.dialect c.utf8.text proof) proof.0.is_value) c.refused.ensures.count;
      report = unread_report c.args.name.now c.args.encoding text value c.args.dialect c.refused.result c.in-Err.fault right c.refused.ensures.count (rw (c.deref.ensures ∙ told.text) at c.refused.ensures.report);
    }

pub returns-in-None : goal.returns-in-None
returns-in-None c =
    let text = c.args.text.now in
    let value = view c.args.value.now in
    let x = derivation_of c.in-Ok.derivation in
    let read = in_text (λ e t. (value ≡ derivation_value e t (Some x)) × IsReadable t x) c.in_ok-doc.ensures.encoding c.in_ok-doc.ensures.text (c.in-Ok.ensures.read, c.in-Ok.ensures.readable) in
    let verified = rw c.in-None.is at c.in_ok-first_fault.ensures in
    let sent : IsVerifiedValue c.args.encoding text value c.args.dialect = record { derivation = x; is_value = read.0; verified = verified } in
    record {
      accepted = none_counted c.args.encoding text value c.args.dialect c.accepted.result (sent, readable_types text x read.1) c.accepted.ensures.count;
      report = accepted_report c.args.name.now c.args.encoding text value c.args.dialect c.accepted.result sent read.1 c.accepted.ensures.count c.accepted.ensures.report;
    }

pub returns : goal.returns
returns c =
    let text = c.args.text.now in
    let value = view c.args.value.now in
    let x = derivation_of c.in-Ok.derivation in
    let read = in_text (λ e t. (value ≡ derivation_value e t (Some x)) × IsReadable t x) c.in_ok-doc.ensures.encoding c.in_ok-doc.ensures.text (c.in-Ok.ensures.read, c.in-Ok.ensures.readable) in
    let found = rw c.in-Some.is at c.in_ok-first_fault.ensures in
    let r = c.refused-in-Some in
    record {
      accepted = one_counted c.args.encoding text value c.args.dialect r.result (no_proof c.args.encoding text value c.args.dialect x c.utf8.text read.0 read.1 found.0) r.ensures.count;
      report = refused_report c.args.name.now c.args.encoding text value c.args.dialect r.result x read.0 read.1 found.0 c.in-Some.fault found.1 r.ensures.count
          (rw (c.deref-in-Some.ensures ∙ c.in_ok-message_of-in-Some.ensures) at r.ensures.report);
    }
