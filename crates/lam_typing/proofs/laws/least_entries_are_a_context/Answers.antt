use Rattle.lam_typing.proofs.LeastContexts.{least_are_context, least_entries, place_entries, place_type}
use Rattle.lam_typing.proofs.laws.least_entries_are_a_context.Goals as goal

pub returns-clause-context : goal.returns-clause-context
returns-clause-context c = least_are_context

pub returns-clause-least : goal.returns-clause-least
returns-clause-least c = λ s d ws. least_entries s d ws

pub returns-clause-document : goal.returns-clause-document
returns-clause-document c = place_entries

pub returns-clause-types : goal.returns-clause-types
returns-clause-types c = place_type
