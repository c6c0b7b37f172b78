use Rattle.lam_query.proofs.SharedDefinitions.{references_share, touched_among, references_apart}
use Rattle.lam_query.proofs.laws.references_share_a_definition.Goals as goal

pub returns-clause-definition : goal.returns-clause-definition
returns-clause-definition c = references_share

pub returns-clause-among : goal.returns-clause-among
returns-clause-among c = touched_among

pub returns-clause-apart : goal.returns-clause-apart
returns-clause-apart c = references_apart
