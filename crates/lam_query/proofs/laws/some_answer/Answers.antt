use Rattle.lam_query.proofs.CompletionLaws.{some_completions}
use Rattle.lam_query.proofs.SomeAnswers.{some_faults, some_hover, some_derivation, shown_of_derived}
use Rattle.lam_query.proofs.DefinitionLaws.{some_definition, some_references}
use Rattle.lam_query.proofs.RenameLaws.{some_rename}
use Rattle.lam_query.proofs.laws.some_answer.Goals as goal

pub returns-clause-faults : goal.returns-clause-faults
returns-clause-faults c = some_faults

pub returns-clause-shown : goal.returns-clause-shown
returns-clause-shown c = some_hover

pub returns-clause-derived : goal.returns-clause-derived
returns-clause-derived c = some_derivation

pub returns-clause-as_shown : goal.returns-clause-as_shown
returns-clause-as_shown c = shown_of_derived

pub returns-clause-definition : goal.returns-clause-definition
returns-clause-definition c = some_definition

pub returns-clause-references : goal.returns-clause-references
returns-clause-references c = some_references

pub returns-clause-rename : goal.returns-clause-rename
returns-clause-rename c = some_rename

pub returns-clause-completions : goal.returns-clause-completions
returns-clause-completions c = λ text offset d. some_completions text offset d
