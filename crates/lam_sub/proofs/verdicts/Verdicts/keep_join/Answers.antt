use Rattle.lam_sub.specs.Remembered.{IsJoinOf}
use Rattle.lam_sub.proofs.Keeping.{kept_more}
use Rattle.lam_sub.proofs.verdicts.Verdicts.keep_join.Goals as goal

pub returns-clause-right : goal.returns-clause-right
returns-clause-right c = λ ts right here. record {
  below = right.below;
  joins = kept_more (IsJoinOf ts c.args.self.now.dialect) c.args.self.now.joins c.insert.new.self (c.args.left, c.args.right) c.args.number c.in_ok-insert.ensures.updates right.joins here;
  meets = right.meets;
}
