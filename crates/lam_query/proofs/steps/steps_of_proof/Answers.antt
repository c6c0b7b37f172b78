use Rattle.std.proofs.Common.{◌∙◌, ap}
use Rattle.lam_rules.specs.TypingViews.{typing_tree_of}
use Rattle.lam_scope.specs.Views.{table_of}
use Rattle.lam_query.specs.Steps.{steps_of}
use Rattle.lam_query.specs.inner.RowSteps.{row_proof}
use Rattle.lam_query.proofs.RowsAndTerms.{same_proof}
use Rattle.lam_query.proofs.StepPlaces.{steps_stand}
use Rattle.lam_query.proofs.steps.steps_of_proof.Goals as goal

pub returns-clause-steps : goal.returns-clause-steps
returns-clause-steps c = rw c.new-listed.ensures.items at c.in_ok-list_typing.ensures.steps

pub returns-clause-of_term : goal.returns-clause-of_term
returns-clause-of_term c =
    let are = rw c.new-listed.ensures.items at c.in_ok-list_typing.ensures.steps in
    λ commands of.
    are
    ∙ ap (λ t. steps_of 0 (row_proof t c.args.place.0 (typing_tree_of c.args.proof.now))) of.same_table
    ∙ ap (steps_of 0) (same_proof commands c.args.place.0 (typing_tree_of c.args.proof.now))

pub returns-clause-whole_characters : goal.returns-clause-whole_characters
returns-clause-whole_characters c =
    let are = rw c.new-listed.ensures.items at c.in_ok-list_typing.ensures.steps in
    λ text stands. steps_stand text (table_of c.args.scopes.now) c.args.place.0 (typing_tree_of c.args.proof.now) _ stands are
