use Rattle.lam_typing.proofs.JustBlames.{some_context}
use Rattle.lam_typing.proofs.laws.scopes_have_contexts.Goals as goal

pub returns : goal.returns
returns c = λ s d ws. some_context d s ws
