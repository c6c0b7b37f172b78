use Rattle.lam_sub.specs.Remembered.{IsVerdict}
use Rattle.lam_sub.proofs.Keeping.{kept_more}
use Rattle.lam_sub.proofs.verdicts.Verdicts.keep_verdict.Goals as goal

pub returns-clause-right : goal.returns-clause-right
returns-clause-right c = λ ts right here. record {
  below = kept_more (IsVerdict ts c.args.self.now.dialect) c.args.self.now.below c.insert.new.self (c.args.lower, c.args.upper) c.args.is_below c.in_ok-insert.ensures.updates right.below here;
  joins = right.joins;
  meets = right.meets;
}
