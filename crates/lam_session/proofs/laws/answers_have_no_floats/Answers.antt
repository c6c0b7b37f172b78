use Rattle.lam_session.proofs.Plain.{sent_plain}
use Rattle.lam_session.proofs.PlainIds.{read_plain}
use Rattle.lam_session.proofs.laws.answers_have_no_floats.Goals as goal

pub returns : goal.returns
returns c = record { sent = sent_plain; ids = read_plain }
