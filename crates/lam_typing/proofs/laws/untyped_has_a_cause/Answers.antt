use Rattle.lam_scope.specs.Labels.{place_in}
use Rattle.lam_typing.proofs.Causes.{untyped_cause}
use Rattle.lam_typing.proofs.LeastContexts.{place_wf}
use Rattle.lam_typing.proofs.laws.untyped_has_a_cause.Goals as goal

pub returns-clause-term : goal.returns-clause-term
returns-clause-term c = λ s e d ws we. untyped_cause d s e ws we

pub returns-clause-document : goal.returns-clause-document
returns-clause-document c = λ cs n d. let wf = place_wf cs n in untyped_cause d (place_in cs n).scope (place_in cs n).here wf.0 wf.1
