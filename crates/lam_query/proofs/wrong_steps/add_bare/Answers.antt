use Rattle.std.proofs.Common.{arith}
use Rattle.lam_rules.specs.declared.subtyping.SubProof.{out-roll-SubProof}
use Rattle.lam_rules.specs.declared.typing.TypeProof.{out-roll-TypeProof}
use Rattle.lam_query.proofs.PendingProofs.{types_more, claims_more}
use Rattle.lam_query.proofs.wrong_steps.add_bare.Goals as goal

pub returns-in_ok-push-in-Some-Typing-clause-types : goal.returns-in_ok-push-in-Some-Typing-clause-types
returns-in_ok-push-in-Some-Typing-clause-types c = grind (arith, types_more, out-roll-TypeProof)

pub returns-in_ok-push-in-Some-Sub-clause-claims : goal.returns-in_ok-push-in-Some-Sub-clause-claims
returns-in_ok-push-in-Some-Sub-clause-claims c = grind (arith, claims_more, out-roll-SubProof)
