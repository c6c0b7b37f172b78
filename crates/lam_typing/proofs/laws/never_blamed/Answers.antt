use Rattle.lam_typing.proofs.NeverBlamed.{true_unblamed, false_unblamed, unit_unblamed, numeral_unblamed, lambda_unblamed, let_unblamed, if_unblamed}
use Rattle.lam_typing.proofs.laws.never_blamed.Goals as goal

pub returns-clause-a_true : goal.returns-clause-a_true
returns-clause-a_true c = λ s d ws. true_unblamed d s ws

pub returns-clause-a_false : goal.returns-clause-a_false
returns-clause-a_false c = λ s d ws. false_unblamed d s ws

pub returns-clause-a_unit : goal.returns-clause-a_unit
returns-clause-a_unit c = λ s d ws. unit_unblamed d s ws

pub returns-clause-a_numeral : goal.returns-clause-a_numeral
returns-clause-a_numeral c = λ s digits d ws. numeral_unblamed d s digits ws

pub returns-clause-a_lambda : goal.returns-clause-a_lambda
returns-clause-a_lambda c = lambda_unblamed

pub returns-clause-a_let : goal.returns-clause-a_let
returns-clause-a_let c = λ s a b d ws we. let_unblamed d s a b ws we

pub returns-clause-an_if : goal.returns-clause-an_if
returns-clause-an_if c = λ s e a b d ws condition. if_unblamed d s e a b ws condition
