use Rattle.lam_session.proofs.OneAnswer.{has_one_answer}
use Rattle.lam_session.proofs.Plain.{steps_plain, each_plain}
use Rattle.lam_session.specs.Outgoing.{data_of}
use Rattle.lam_session.proofs.session.Session.receive.Goals as goal

pub returns-in_default-clause-one_answer : goal.returns-in_default-clause-one_answer
returns-in_default-clause-one_answer c = has_one_answer _ _

pub returns-in_err-conversation-clause-one_answer : goal.returns-in_err-conversation-clause-one_answer
returns-in_err-conversation-clause-one_answer c = has_one_answer _ _

pub returns-clause-one_answer : goal.returns-clause-one_answer
returns-clause-one_answer c = has_one_answer _ _

pub returns-clause-plain : goal.returns-clause-plain
returns-clause-plain c = λ plain. each_plain data_of c.in_ok-conversation.sent.items (steps_plain _ _ _ _ plain c.in_ok-conversation.ensures.steps)
