use Rattle.lam_query.proofs.CompletionLaws.{projected_with_other, small_with_other}
use Rattle.lam_query.proofs.laws.one_label_stands_for_all.Goals as goal

pub returns-clause-projected : goal.returns-clause-projected
returns-clause-projected c = projected_with_other

pub returns-clause-small : goal.returns-clause-small
returns-clause-small c = small_with_other
