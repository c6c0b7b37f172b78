use Rattle.lam_query.proofs.CompletionLaws.{one_list_of_completions}
use Rattle.lam_query.proofs.SomeAnswers.{one_faults}
use Rattle.lam_query.proofs.OneAnswer.{one_document, one_hover}
use Rattle.lam_query.proofs.DefinitionLaws.{one_definition, one_list_of_references}
use Rattle.lam_query.proofs.RenameLaws.{one_rename}
use Rattle.lam_query.proofs.laws.one_answer.Goals as goal

pub returns-clause-commands : goal.returns-clause-commands
returns-clause-commands c = one_document

pub returns-clause-shown : goal.returns-clause-shown
returns-clause-shown c = one_hover

pub returns-clause-faults : goal.returns-clause-faults
returns-clause-faults c = one_faults

pub returns-clause-definition : goal.returns-clause-definition
returns-clause-definition c = one_definition

pub returns-clause-references : goal.returns-clause-references
returns-clause-references c = one_list_of_references

pub returns-clause-rename : goal.returns-clause-rename
returns-clause-rename c = one_rename

pub returns-clause-completions : goal.returns-clause-completions
returns-clause-completions c = λ text offset items others d h k. one_list_of_completions text offset items others d h k
