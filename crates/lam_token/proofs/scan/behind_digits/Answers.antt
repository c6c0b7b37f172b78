use Rattle.std.proofs.Common.{sym, ◌∙◌}
use Rattle.lam_token.proofs.Reading.{first_shorter, run_more, run_at_end}
use Rattle.lam_token.proofs.scan.behind_digits.Goals as goal

pub loop-c-smaller : goal.loop-c-smaller
loop-c-smaller c = first_shorter _ _ _ c.in-Some.ensures

pub loop-c-preserved : goal.loop-c-preserved
loop-c-preserved c = record {
  is_text = c.in-Some.ensures.is_text;
  runs = λ after run.
      c.loop-c.invariant.runs after (run_more _ _ _ _ _ c.in-Some.ensures (sym c.is_digit.ensures ∙ c.if-not-is_digit.false) run);
}

pub returns : goal.returns
returns c = c.loop-c.invariant.runs _ (run_at_end _ _ c.loop-c.invariant.is_text c.in_default.ensures)
