use Rattle.lam_session.proofs.FaultMessages.{have_messages}
use Rattle.lam_session.proofs.laws.each_fault_has_a_message.Goals as goal

pub returns : goal.returns
returns c = λ text found d. have_messages text found d
