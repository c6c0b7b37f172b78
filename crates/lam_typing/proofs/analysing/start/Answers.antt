use Rattle.std.proofs.Common.{arith}
use Rattle.lam_rules.specs.Types.{bool, nat}
use Rattle.lam_rules.proofs.Tables.{keeps_trans, kept_number}
use Rattle.lam_typing.proofs.analysing.start.Goals as goal

pub returns-clause-sound : goal.returns-clause-sound
returns-clause-sound c =
    let ts = c.intern-3.new.self in
    record {
      entries = rw c.new-2.ensures.items tt;
      found = rw c.new-3.ensures.items tt;
      verdicts = c.new.ensures.right ts;
      boolean = kept_number c.intern.new.self ts c.in_ok-boolean.boolean bool (keeps_trans c.intern.new.self c.intern-2.new.self ts c.intern-2.ensures.keeps c.intern-3.ensures.keeps) c.in_ok-boolean.ensures.number;
      natural = kept_number c.intern-2.new.self ts c.in_ok-natural.natural nat c.intern-3.ensures.keeps c.in_ok-natural.ensures.number;
      unit = c.in_ok-unit.ensures.number;
      room = grind (arith, c.new-3.ensures.items);
    }
