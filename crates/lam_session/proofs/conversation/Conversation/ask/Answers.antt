use Rattle.std.proofs.lemmas.Result.{IfOk-weaker}
use Rattle.lam_session.specs.Outgoing.{data_of}
use Rattle.lam_session.proofs.conversation.Conversation.ask.Goals as goal

pub returns : goal.returns
returns c =
    rw (← c.self.view_is)
    (IfOk-weaker c.send.result _ _ (λ r does. record { reply = data_of c.in_ok-reply.reply; replies = c.in_ok-reply.ensures; does = does }) (rw (← c.self.view_is) at c.send.ensures))
