use Rattle.lam_sub.specs.Remembered.{IsMeetOf}
use Rattle.lam_sub.proofs.Keeping.{kept_more}
use Rattle.lam_sub.proofs.verdicts.Verdicts.keep_meet.Goals as goal

pub returns-clause-right : goal.returns-clause-right
returns-clause-right c = λ ts right here. record {
  below = right.below;
  joins = right.joins;
  meets = kept_more (IsMeetOf ts c.args.self.now.dialect) c.args.self.now.meets c.insert.new.self (c.args.left, c.args.right) c.args.found c.in_ok-insert.ensures.updates right.meets here;
}
