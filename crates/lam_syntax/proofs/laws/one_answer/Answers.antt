use Rattle.lam_syntax.proofs.AnswerLaws as laws
use Rattle.lam_syntax.proofs.laws.one_answer.Goals as goal

pub returns : goal.returns
returns c = record { some = laws.some_answer; one_place = laws.one_wrong_place; not_wrong = laws.not_wrong; command_begins = laws.spelled_begins }
