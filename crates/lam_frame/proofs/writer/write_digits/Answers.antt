use Rattle.std.proofs.Common.{◌≡◌, ◌<◌, ◌-◌, ◌/◌, ◌^◌, ℕ, subst, length-set, ◌∙◌, arith}
use Rattle.lam_frame.proofs.Writing.{one_digit_less, next_digit, last_digit}
use Rattle.lam_frame.proofs.writer.write_digits.Goals as goal

pub loop-rest-preserved : goal.loop-rest-preserved
loop-rest-preserved c =
    let w = c.loop-rest.invariant in
    let less = one_digit_less c.loop-rest.rest (c.loop-rest.start - 16) c.loop-rest-test.true w.digits in
    let place : c.loop-rest.start - 16 - 1 ≡ c.loop-rest.start - 1 - 16 = omega arith in
    record {
      low = omega (arith, less.0);
      high = omega (arith, w.high);
      digits = subst (λ (k : ℕ). c.loop-rest.rest / 10 < 10 ^ k) place less.1;
      text = next_digit c.loop-rest.room _ _ c.loop-rest.rest c.loop-rest.start c.loop-rest-test.true (omega arith) (omega (arith, w.low)) (omega (arith, w.high, w.room)) w.text;
      room = length-set _ _ _ ∙ w.room;
    }

pub returns-clause-text : goal.returns-clause-text
returns-clause-text c =
    let w = c.loop-rest.invariant in
    last_digit c.loop-rest.room _ _ c.loop-rest.rest c.loop-rest.start c.loop-rest-test.false (omega (arith, w.low)) (omega (arith, w.high, w.room)) w.text
