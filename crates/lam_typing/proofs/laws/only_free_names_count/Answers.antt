use Rattle.lam_typing.proofs.AlikeTerms.{alike_symmetric}
use Rattle.lam_typing.proofs.AlikeProofs.{alike_typing}
use Rattle.lam_typing.proofs.AlikeBlames.{least_by_free_names, shown_by_free_names, stopped_by_free_names}
use Rattle.lam_typing.proofs.laws.only_free_names_count.Goals as goal

pub returns-clause-symmetric : goal.returns-clause-symmetric
returns-clause-symmetric c = alike_symmetric

pub returns-clause-least : goal.returns-clause-least
returns-clause-least c = λ s r g h e f o d ls lr are. least_by_free_names s r g h e f d ls lr are o

pub returns-clause-proof : goal.returns-clause-proof
returns-clause-proof c = alike_typing

pub returns-clause-shown : goal.returns-clause-shown
returns-clause-shown c = λ s r g h e f n found blames d we ls lr are. shown_by_free_names s r g h e f d ls lr are n found blames we

pub returns-clause-stopped : goal.returns-clause-stopped
returns-clause-stopped c = λ s r g h e f n found blames cause d we ls lr are. stopped_by_free_names s r g h e f d ls lr are n found blames cause we
