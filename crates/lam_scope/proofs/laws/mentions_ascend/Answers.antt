use Rattle.lam_scope.proofs.SpelledMentions.{spelled_named, named_ascend}
use Rattle.lam_scope.proofs.BindersBefore.{uses_behind}
use Rattle.lam_scope.proofs.laws.mentions_ascend.Goals as goal

pub returns : goal.returns
returns c = record { spelled = spelled_named 0; ascend = named_ascend; behind = uses_behind }
