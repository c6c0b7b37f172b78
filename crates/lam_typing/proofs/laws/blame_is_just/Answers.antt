use Rattle.lam_typing.proofs.JustBlames.{no_function_reason, function_reason, bound_unblamed, condition_reason, succ_reason, pred_reason, is_zero_reason, apply_reason, ascribe_reason, project_reason, fix_reason, application_reason, projection_reason, fixed_point_reason, record_reason}
use Rattle.lam_typing.proofs.laws.blame_is_just.Goals as goal

pub returns-clause-a_name : goal.returns-clause-a_name
returns-clause-a_name c = λ s n d ws lt. bound_unblamed d s n ws lt

pub returns-clause-a_condition : goal.returns-clause-a_condition
returns-clause-a_condition c = λ s e a b t d ws. condition_reason d s e a b t ws

pub returns-clause-of_succ : goal.returns-clause-of_succ
returns-clause-of_succ c = λ s e t d ws. succ_reason d s e t ws

pub returns-clause-of_pred : goal.returns-clause-of_pred
returns-clause-of_pred c = λ s e t d ws. pred_reason d s e t ws

pub returns-clause-of_is_zero : goal.returns-clause-of_is_zero
returns-clause-of_is_zero c = λ s e t d ws. is_zero_reason d s e t ws

pub returns-clause-an_argument : goal.returns-clause-an_argument
returns-clause-an_argument c = λ s f a p r t d ws. apply_reason d s f a p r t ws

pub returns-clause-an_ascription : goal.returns-clause-an_ascription
returns-clause-an_ascription c = λ s e w t d ws. ascribe_reason d s e w t ws

pub returns-clause-a_field : goal.returns-clause-a_field
returns-clause-a_field c = λ s e l fs t d ws. project_reason d s e l fs t ws

pub returns-clause-a_fix : goal.returns-clause-a_fix
returns-clause-a_fix c = λ s e p r d ws. fix_reason d s e p r ws

pub returns-clause-a_record : goal.returns-clause-a_record
returns-clause-a_record c = λ s es d ws. record_reason d s es ws

pub returns-clause-no_function : goal.returns-clause-no_function
returns-clause-no_function c = no_function_reason

pub returns-clause-a_function : goal.returns-clause-a_function
returns-clause-a_function c = function_reason

pub returns-clause-an_application : goal.returns-clause-an_application
returns-clause-an_application c = λ s f a p r d ws. application_reason d s f a p r ws

pub returns-clause-a_projection : goal.returns-clause-a_projection
returns-clause-a_projection c = λ s e l fs t d. projection_reason d s e l fs t

pub returns-clause-a_fixed_point : goal.returns-clause-a_fixed_point
returns-clause-a_fixed_point c = λ s e p d. fixed_point_reason d s e p
