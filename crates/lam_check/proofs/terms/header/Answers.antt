use Rattle.std.proofs.Common.{◌≡◌, ◌-◌, rules, arith}
use Rattle.std.proofs.lemmas.Str.{chars-nil}
use Rattle.lam_check.proofs.terms.header.Goals as goal

pub returns-then-first-whole : goal.returns-then-first-whole
returns-then-first-whole c =
    let none : c.args.first.start - c.args.whole.start ≡ 0 = omega arith in
    rw (none, chars-nil) (search rules)
