use Rattle.lam_rules.proofs.SortedForms.{sorted_is_form, one_sorted_form}
use Rattle.lam_rules.proofs.texts.one_sorted_form.Goals as goal

pub returns-clause-some : goal.returns-clause-some
returns-clause-some c = sorted_is_form

pub returns-clause-one : goal.returns-clause-one
returns-clause-one c = one_sorted_form
