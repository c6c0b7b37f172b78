use Rattle.lam_scope.proofs.RenameAnswers.{some_answer, same_tokens, same_fault, memory_alone}
use Rattle.lam_scope.proofs.laws.one_answer_to_a_rename.Goals as goal

pub returns : goal.returns
returns c = record { some = some_answer; tokens = same_tokens; fault = same_fault; apart = memory_alone }
