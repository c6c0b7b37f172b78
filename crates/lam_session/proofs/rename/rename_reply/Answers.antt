use Rattle.std.proofs.lemmas.Result.{IfOk-weaker}
use Rattle.lam_session.specs.Outgoing.{data_of}
use Rattle.lam_session.specs.Renames.{rename_value}
use Rattle.lam_session.proofs.RenameLaws.{tells_edits, tells_refusal}
use Rattle.lam_session.proofs.rename.rename_reply.Goals as goal

pub returns-in-Ok : goal.returns-in-Ok
returns-in-Ok c =
    let new = c.new_name-new.result.now in
    rw (← c.new_name-new.ensures)
    (IfOk-weaker c.edits_reply.result _ _
    (λ reply told. tells_edits _ _ _ _ _ _ c.in-Ok.spans.items _ (data_of reply) c.in-Ok.ensures.renamed (λ i. rename_value (c.doc.ensures.encoding i) (c.doc.ensures.text i) c.args.uri.now new (c.deref.ensures.value i)) told)
    c.edits_reply.ensures)

pub returns-in_ok-refusal_of-in-Err : goal.returns-in_ok-refusal_of-in-Err
returns-in_ok-refusal_of-in-Err c =
    rw (← c.new_name-new.ensures)
    (IfOk-weaker c.refused.result _ _
    (λ reply refused_so. tells_refusal _ _ _ _ _ _ c.in-Err.fault c.in_ok-refusal_of-in-Err.field-0 (data_of reply) c.in-Err.ensures.refused c.in_ok-refusal_of-in-Err.ensures refused_so) c.refused.ensures)
