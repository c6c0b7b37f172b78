use Rattle.lam_session.proofs.conversation.Conversation.serve.Goals as goal

pub returns-in-Ask : goal.returns-in-Ask
returns-in-Ask c = rw c.in-Ask.is c.ask.ensures
